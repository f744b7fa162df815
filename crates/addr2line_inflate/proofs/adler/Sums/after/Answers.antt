use Rattle.std.proofs.Common.{arith}
use Rattle.addr2line_inflate.proofs.SumParts.{first_sum-more, second_sum-more}
use Rattle.addr2line_inflate.proofs.adler.Sums.after.Goals as goal

pub loop-byte-preserved : goal.loop-byte-preserved
loop-byte-preserved c =
    let l = c.loop-byte in
    let s = c.args.self in
    let xs = c.args.part.now in
    let first = first_sum-more s.first xs l.byte-index c.loop-byte-test.true in
    let second = second_sum-more s.first s.second xs l.byte-index c.loop-byte-test.true in
    let byte = c.type_inv.part l.byte-index in
    record {
      first = omega (arith, first, l.invariant.first, c.from-first.ensures);
      second = omega (arith, second, l.invariant.first, l.invariant.second, c.from-first.ensures);
      first_fits = omega (arith, byte, c.from-first.ensures, l.invariant.first_fits);
      second_fits =
          omega (arith, byte, c.from-first.ensures, l.invariant.first_fits, l.invariant.second_fits, c.requires.few);
    }
