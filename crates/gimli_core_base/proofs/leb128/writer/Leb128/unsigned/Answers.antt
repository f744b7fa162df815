use Rattle.std.proofs.Common.{refl, ◌∙◌}
use Rattle.std.proofs.lemmas.List.{length-set}
use Rattle.gimli_core_base.specs.Spelling.{unsigned_string}
use Rattle.gimli_core_base.proofs.Spellings.{unsigned_goes_on, unsigned_stops}
use Rattle.gimli_core_base.proofs.leb128.writer.Leb128.unsigned.Goals as goal

pub loop-rest-preserved : goal.loop-rest-preserved
loop-rest-preserved c =
    let was = c.loop-rest.invariant in
    let next = unsigned_goes_on c.loop-rest.bytes (unsigned_string c.args.number) c.loop-rest.len _ c.loop-rest.rest
    was.ten was.short c.loop-rest-test.true refl was.below was.string in
    record {
      ten = length-set c.loop-rest.bytes c.loop-rest.len _
          ∙ was.ten;
      short = next.short;
      below = next.below;
      string = next.spells;
    }

pub returns : goal.returns
returns c =
    let was = c.loop-rest.invariant in
    unsigned_stops c.loop-rest.bytes (unsigned_string c.args.number) c.loop-rest.len c.loop-rest.rest was.ten was.short
    c.loop-rest-test.false was.string
