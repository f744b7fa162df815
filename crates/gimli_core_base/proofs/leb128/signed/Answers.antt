use Rattle.std.proofs.Common.{rules, ◌≢◌, ℕ, arith, get_or, ap, subst, sym, ◌∙◌}
use Rattle.std.proofs.lemmas.Int.{ints}
use Rattle.gimli_core_base.specs.Leb128.{bounded_string}
use Rattle.gimli_core_base.proofs.LebStrings.{next_digit, judged_from-more, judged_from-end}
use Rattle.gimli_core_base.proofs.LebSigns.{tenth_negative, tenth_refused, number_ends, tenth}
use Rattle.gimli_core_base.proofs.leb128.signed.Goals as goal

pub returns-in-127 : goal.returns-in-127
returns-in-127 c =
    let t = tenth c.args.bytes.now c.loop-i.i c.loop-i.number c.if-i-eq9.true c.loop-i-test.true
    c.loop-i.invariant.number c.loop-i.invariant.judges in
    tenth_negative c.args.bytes.now c.loop-i.number _ t
    (ap (λ (i : ℕ). get_or c.args.bytes.now i 0) (sym c.if-i-eq9.true) ∙ c.in-127.is) (omega (arith, ints, t.below))

pub returns-in_default : goal.returns-in_default
returns-in_default c =
    let t = tenth c.args.bytes.now c.loop-i.i c.loop-i.number c.if-i-eq9.true c.loop-i-test.true
    c.loop-i.invariant.number c.loop-i.invariant.judges in
    let not_0 : get_or c.args.bytes.now c.loop-i.i 0 ≢ 0 = search rules in
    let not_127 : get_or c.args.bytes.now c.loop-i.i 0 ≢ 127 = search rules in
    tenth_refused c.args.bytes.now c.loop-i.number t
    (subst (λ (i : ℕ). get_or c.args.bytes.now i 0 ≢ 0) c.if-i-eq9.true not_0)
    (subst (λ (i : ℕ). get_or c.args.bytes.now i 0 ≢ 127) c.if-i-eq9.true not_127)

pub overflow_add-number : goal.overflow_add-number
overflow_add-number c =
    let digit = next_digit c.args.bytes.now c.loop-i.i c.loop-i.number c.from.result c.loop-i-test.true (omega arith)
    c.from.ensures c.loop-i.invariant.number in
    omega (arith, digit.fits)

pub with_sign-requires-clause-digits : goal.with_sign-requires-clause-digits
with_sign-requires-clause-digits c =
    let digit = next_digit c.args.bytes.now c.loop-i.i c.loop-i.number c.from.result c.loop-i-test.true (omega arith)
    c.from.ensures c.loop-i.invariant.number in
    digit.below

pub returns-then-byte-lt128 : goal.returns-then-byte-lt128
returns-then-byte-lt128 c =
    let digit = next_digit c.args.bytes.now c.loop-i.i c.loop-i.number c.from.result c.loop-i-test.true (omega arith)
    c.from.ensures c.loop-i.invariant.number in
    let found = judged_from-end 10 c.args.bytes.now c.loop-i.i (bounded_string 10 c.args.bytes.now) c.loop-i-test.true
    (omega arith) c.if-byte-lt128.true c.loop-i.invariant.judges in
    number_ends c.args.bytes.now c.loop-i.i _ _ c.loop-i-test.true (omega arith) digit c.if-byte-lt128.true found
    (search (rules, ints))

pub loop-i-preserved : goal.loop-i-preserved
loop-i-preserved c =
    let digit = next_digit c.args.bytes.now c.loop-i.i c.loop-i.number c.from.result c.loop-i-test.true (omega arith)
    c.from.ensures c.loop-i.invariant.number in
    record {
      short = omega arith;
      judges = judged_from-more 10 c.args.bytes.now c.loop-i.i (bounded_string 10 c.args.bytes.now) c.loop-i-test.true
          (omega arith) c.if-byte-lt128.false c.loop-i.invariant.judges;
      number = digit.number;
    }
