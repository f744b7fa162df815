use Rattle.std.proofs.Common.{arith}
use Rattle.std.proofs.lemmas.Int.{ints}
use Rattle.gimli_core_base.proofs.LebSigns.{half_is, nine_sevens}
use Rattle.gimli_core_base.proofs.leb128.with_sign.Goals as goal

pub overflow_cast-half : goal.overflow_cast-half
overflow_cast-half c =
    let half = half_is c.args.length c.args.last c.from.result c.requires.some c.requires.short c.requires.is_last
    c.from.ensures in
    omega (arith, ints, half.fits)

pub overflow_cast-result : goal.overflow_cast-result
overflow_cast-result c =
    let whole = nine_sevens c.args.length c.requires.short in
    omega (arith, ints, whole, c.requires.digits)

pub overflow_sub-result : goal.overflow_sub-result
overflow_sub-result c =
    let half = half_is c.args.length c.args.last c.from.result c.requires.some c.requires.short c.requires.is_last
    c.from.ensures in
    let whole = nine_sevens c.args.length c.requires.short in
    omega (arith, ints, half.fits, whole, c.requires.digits)

pub overflow_sub-result-2 : goal.overflow_sub-result-2
overflow_sub-result-2 c =
    let half = half_is c.args.length c.args.last c.from.result c.requires.some c.requires.short c.requires.is_last
    c.from.ensures in
    let whole = nine_sevens c.args.length c.requires.short in
    omega (arith, ints, half.fits, whole, c.requires.digits)

pub returns : goal.returns
returns c =
    let half = half_is c.args.length c.args.last c.from.result c.requires.some c.requires.short c.requires.is_last
    c.from.ensures in
    let whole = nine_sevens c.args.length c.requires.short in
    omega (arith, ints, half.fits, half.two_halves, whole, c.requires.digits)
