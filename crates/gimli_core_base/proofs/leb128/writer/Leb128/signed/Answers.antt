use Rattle.std.proofs.Common.{sym, ◌∙◌, arith, ap}
use Rattle.std.specs.Int.{w64}
use Rattle.std.proofs.lemmas.Int.{to_z-of_z}
use Rattle.gimli_core_base.specs.Spelling.{signed_string}
use Rattle.gimli_core_base.proofs.Spellings.{signed_goes_on, signed_stops, fits_shifted}
use Rattle.gimli_core_base.proofs.leb128.writer.Leb128.signed.Goals as goal

pub loop-bytes-preserved : goal.loop-bytes-preserved
loop-bytes-preserved c =
    let was = c.loop-bytes.invariant in
    let next = signed_goes_on c.loop-bytes.bytes _ c.loop-bytes.len c.digit.result _ _ was.ten was.short
    (sym c.fits_digit.ensures ∙ c.loop-bytes-test.true)
    c.digit.ensures (fits_shifted c.loop-bytes.rest-bits (omega (arith, c.loop-bytes.auto.rest))) was.below
    was.string in
    record { ten = next.ten; short = next.short; below = next.below; string = next.spells }

pub returns : goal.returns
returns c =
    let was = c.loop-bytes.invariant in
    signed_stops c.loop-bytes.bytes _ c.loop-bytes.len c.digit-2.result _ was.ten was.short
    (sym c.fits_digit.ensures ∙ c.loop-bytes-test.false) c.digit-2.ensures was.string
    ∙ ap signed_string (to_z-of_z w64 c.args.number c.ranges.number)
