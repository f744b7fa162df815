-- The byte before the cut is an `x`, so a character begins after it.
use Rattle.std.proofs.Common.{◌≡◌, get_or, length, arith, rules, ap}
use Rattle.std.proofs.lemmas.Str.{lead_after_ascii}
use Rattle.linemap_meaning.proofs.address.after_0x.Goals as goal

pub range_from-requires : goal.range_from-requires
range_from-requires c =
    let same = ap length c.as_bytes.ensures.value in
    let x : get_or c.args.word.now 1 0 ≡ 120 = search rules in
    λ _. (omega (arith, same), λ lt h. lead_after_ascii c.args.word.now 1 c.utf8.word (omega (arith, x)) lt h)
