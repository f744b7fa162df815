use Rattle.std.proofs.Common.{◌≡◌, [], ◌∷◌, ◌++◌, ap, sym, ◌∙◌, subst, arith}
use Rattle.std.proofs.lemmas.List.{nil_from_length}
use Rattle.std.proofs.lemmas.Result.{IfOk-weaker}
use Rattle.addr2line_elf.specs.SymbolSweeps.{first_value, Falls, AnswersFor}
use Rattle.addr2line_elf.proofs.SymbolSweepLemmas.{falls_at, one_left}
use Rattle.addr2line_elf.proofs.sweep.sweep_all.Goals as goal

pub loop-entry-preserved : goal.loop-entry-preserved
loop-entry-preserved c =
    let inv = c.loop-entry.invariant.partly in
    let e = c.in-Some.entry in
    let whole = one_left c.loop-entry.left.items c.pop.new.self.items inv.done c.args.entries.items e
    c.in-Some.ensures.items inv.whole in
    let from = falls_at c.pop.new.self.items e inv.done (subst Falls (sym whole) c.requires) in
    record {
      partly = record {
        done = e ∷ inv.done;
        whole = whole;
        swept = c.in_ok-add.ensures.ok (first_value inv.done) inv.done from inv.swept;
      };
      count = omega (arith, c.in-Some.ensures.len, c.in_ok-add.ensures.count, c.loop-entry.invariant.count);
    }

pub returns-clause-ok : goal.returns-clause-ok
returns-clause-ok c =
    let inv = c.loop-entry.invariant.partly in
    let left = c.loop-entry.left in
    let ended : left.items ≡ [] = nil_from_length left.items (omega (arith, left.ok.0, c.in_default.ensures.cases.0)) in
    let all : inv.done ≡ c.args.entries.items = ap (λ es. es ++ inv.done) (sym ended) ∙ inv.whole in
    IfOk-weaker c.finish.result _ _ (λ stretches of. subst (λ es. AnswersFor es stretches.items) all
    (of (first_value inv.done) inv.done inv.swept)) c.finish.ensures.ok
