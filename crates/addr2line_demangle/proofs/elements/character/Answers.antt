-- The byte before the cut is a `u`, so a character begins after it.
use Rattle.std.proofs.Common.{◌≡◌, get_or, length, arith, rules, ap}
use Rattle.std.proofs.lemmas.Str.{lead_after_ascii}
use Rattle.addr2line_demangle.proofs.elements.character.Goals as goal

pub range_from-requires : goal.range_from-requires
range_from-requires c =
    let same = ap length c.as_bytes.ensures.value in
    let u : get_or c.args.word.now 0 0 ≡ 117 = search rules in
    λ _. (
      omega (arith, same),
      λ lt h. lead_after_ascii c.args.word.now 0 c.utf8.word (omega (arith, u)) lt h,
    )
