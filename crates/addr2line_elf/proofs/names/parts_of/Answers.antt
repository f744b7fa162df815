use Rattle.std.proofs.Common.{sym, subst, arith}
use Rattle.addr2line_elf.specs.NameParts.{AreNamePartsTo}
use Rattle.addr2line_elf.proofs.NamePartLemmas.{parts_start, parts_end}
use Rattle.addr2line_elf.proofs.names.parts_of.Goals as goal

pub loop-begin-init : goal.loop-begin-init
loop-begin-init c =
    record {
      within = omega arith;
      parts = subst (AreNamePartsTo 0 c.args.texts.now) (sym c.new-parts.ensures.items) (parts_start c.args.texts.now);
    }

pub loop-begin-preserved : goal.loop-begin-preserved
loop-begin-preserved c =
    record {
      within = c.in_ok-begin.ensures.within;
      parts = c.in_ok-begin.ensures.ok c.loop-begin.invariant.parts;
    }

pub returns-clause-ok : goal.returns-clause-ok
returns-clause-ok c =
    parts_end c.args.texts.now c.loop-begin.begin c.loop-begin.parts.items (omega arith) c.loop-begin.invariant.parts
