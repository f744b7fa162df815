use Rattle.std.proofs.Common.{arith}
use Rattle.gimli_core_base.specs.Leb128.{bounded_string}
use Rattle.gimli_core_base.proofs.LebStrings.{next_digit, judged_from-more, judged_from-end, unsigned_ends}
use Rattle.gimli_core_base.proofs.leb128.unsigned.Goals as goal

pub overflow_add-number : goal.overflow_add-number
overflow_add-number c =
    let digit = next_digit c.args.bytes.now c.loop-i.i c.loop-i.number c.from.result c.loop-i-test.true (omega arith)
    c.from.ensures c.loop-i.invariant.number in
    omega (arith, digit.fits)

pub returns-then-byte-lt128 : goal.returns-then-byte-lt128
returns-then-byte-lt128 c =
    let digit = next_digit c.args.bytes.now c.loop-i.i c.loop-i.number c.from.result c.loop-i-test.true (omega arith)
    c.from.ensures c.loop-i.invariant.number in
    unsigned_ends c.args.bytes.now c.loop-i.i _ c.loop-i-test.true digit
    (judged_from-end 10 c.args.bytes.now c.loop-i.i (bounded_string 10 c.args.bytes.now) c.loop-i-test.true
    (omega arith) c.if-byte-lt128.true c.loop-i.invariant.judges)

pub loop-i-preserved : goal.loop-i-preserved
loop-i-preserved c =
    let digit = next_digit c.args.bytes.now c.loop-i.i c.loop-i.number c.from.result c.loop-i-test.true (omega arith)
    c.from.ensures c.loop-i.invariant.number in
    record {
      short = omega arith;
      judges = judged_from-more 10 c.args.bytes.now c.loop-i.i (bounded_string 10 c.args.bytes.now) c.loop-i-test.true
          (omega arith) c.if-byte-lt128.false c.loop-i.invariant.judges;
      number = digit.number;
    }
