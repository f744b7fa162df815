use Rattle.std.proofs.Common.{rules, ◌≡◌, ◌-◌, ℕ, List, length, Option, Ok, subst, ap, arith}
use Rattle.gimli_core_readers.specs.View.{View, bytes_left}
use Rattle.gimli_core_readers.specs.Parsers.{map_value}
use Rattle.gimli_core_abbrev.specs.TableParsing.{declaration}
use Rattle.gimli_core_abbrev.proofs.SkippedDeclarations.{code_of, skipped_some, skipped_none, skipped_fault}
use Rattle.gimli_core_abbrev.proofs.RunsInOrder.{checked_unordered, not_in_order}
use Rattle.gimli_core_abbrev.proofs.FoundDeclarations.{find_refused, find_none, run_before, is_at, at_within, seeks_refused, seeks_nowhere, after_refused, after_ended, after_counted, after_unordered}
use Rattle.gimli_core_abbrev.proofs.checks.seek.Goals as goal

-- the code of the declaration that was skipped
abbrev HasNext : View → View → Option ℕ → Type 0
HasNext v u code = map_value code_of declaration v ≡ Ok (code, u)

pub returns-in_err-skip_in_order : goal.returns-in_err-skip_in_order
returns-in_err-skip_in_order g c =
    let h = c.in_err-skip_in_order.ensures in
    seeks_refused c.args.code c.args.place.now c.skip_in_order.new.input c.from_residual.result _
    c.from_residual.ensures.1 (find_refused c.args.place.now h.0 h.1 c.args.code _ h.2)

pub returns-in-Ended : goal.returns-in-Ended
returns-in-Ended g c =
    seeks_nowhere c.args.code c.args.place.now c.skip_in_order.new.input _ c.requires c.in-Ended.is
    c.in_ok-skip_in_order.ensures

pub returns-in-Unordered : goal.returns-in-Unordered
returns-in-Unordered g c =
    checked_unordered (c.args.code - 1) c.args.place.now c.skip_in_order.new.input _ c.in-Unordered.is
    c.in_ok-skip_in_order.ensures

pub returns-in_err-next : goal.returns-in_err-next
returns-in_err-next g c =
    let before = run_before c.args.code c.args.place.now c.skip_in_order.new.input c.borrowed-rest.result _
    c.requires c.in-Counted.is c.in_ok-skip_in_order.ensures c.borrowed-rest.ensures in
    seeks_refused c.args.code c.args.place.now c.skip_in_order.new.input c.from_residual-in_err-next.result _
    c.from_residual-in_err-next.ensures.1
    (find_refused c.args.place.now c.borrowed-rest.result before.0 c.args.code _
    (skipped_fault c.borrowed-rest.result _ c.in_err-next.ensures))

pub returns-in_default : goal.returns-in_default
returns-in_default g c =
    let before = run_before c.args.code c.args.place.now c.skip_in_order.new.input c.borrowed-rest.result _
    c.requires c.in-Counted.is c.in_ok-skip_in_order.ensures c.borrowed-rest.ensures in
    let count = before.1 in
    find_none c.args.place.now c.borrowed-rest.result c.skip.new.input before.0 c.args.code (omega (arith, count))
    (skipped_none c.borrowed-rest.result c.skip.new.input (search rules))

pub returns-then-next-code : goal.returns-then-next-code
returns-then-next-code g c =
    let before = run_before c.args.code c.args.place.now c.skip_in_order.new.input c.borrowed-rest.result _
    c.requires c.in-Counted.is c.in_ok-skip_in_order.ensures c.borrowed-rest.ensures in
    let read = skipped_some c.borrowed-rest.result c.skip.new.input c.in-Some.next
    (subst (HasNext c.borrowed-rest.result c.skip.new.input) c.in-Some.is c.in_ok-next.ensures) in
    let count = before.1 in
    let code_is = read.2 in
    let other = c.if-next-code.true in
    not_in_order c.args.place.now c.borrowed-rest.result c.skip.new.input before.0 read.0 read.1
    (λ e. other (omega (arith, count, e, code_is)))

pub skip_in_order-requires-2 : goal.skip_in_order-requires-2
skip_in_order-requires-2 g c =
    let before = run_before c.args.code c.args.place.now c.skip_in_order.new.input c.borrowed-rest.result _
    c.requires c.in-Counted.is c.in_ok-skip_in_order.ensures c.borrowed-rest.ensures in
    let at = is_at c.args.code c.args.place.now c.borrowed-rest.result c.skip.new.input c.in-Some.next before
    (subst (HasNext c.borrowed-rest.result c.skip.new.input) c.in-Some.is c.in_ok-next.ensures) c.if-next-code.false in
    let all : length c.slice.result.now ≡ bytes_left c.args.place.now =
    ap (λ (bytes : List ℕ). length bytes) c.slice.ensures in
    omega (arith, all, at_within c.args.code c.args.place.now c.borrowed-rest.result c.skip.new.input at)

pub returns-in_err-skip_in_order-2 : goal.returns-in_err-skip_in_order-2
returns-in_err-skip_in_order-2 g c =
    let before = run_before c.args.code c.args.place.now c.skip_in_order.new.input c.borrowed-rest.result _
    c.requires c.in-Counted.is c.in_ok-skip_in_order.ensures c.borrowed-rest.ensures in
    let at = is_at c.args.code c.args.place.now c.borrowed-rest.result c.skip.new.input c.in-Some.next before
    (subst (HasNext c.borrowed-rest.result c.skip.new.input) c.in-Some.is c.in_ok-next.ensures) c.if-next-code.false in
    seeks_refused c.args.code c.args.place.now c.skip_in_order.new.input c.from_residual-in_err-skip_in_order-2.result _
    c.from_residual-in_err-skip_in_order-2.ensures.1
    (after_refused c.args.code (length c.slice.result.now) c.args.place.now c.borrowed-rest.result c.skip.new.input
    c.skip_in_order-2.new.input _ at c.in_err-skip_in_order-2.ensures)

pub returns-in-Ended-2 : goal.returns-in-Ended-2
returns-in-Ended-2 g c =
    let before = run_before c.args.code c.args.place.now c.skip_in_order.new.input c.borrowed-rest.result _
    c.requires c.in-Counted.is c.in_ok-skip_in_order.ensures c.borrowed-rest.ensures in
    let at = is_at c.args.code c.args.place.now c.borrowed-rest.result c.skip.new.input c.in-Some.next before
    (subst (HasNext c.borrowed-rest.result c.skip.new.input) c.in-Some.is c.in_ok-next.ensures) c.if-next-code.false in
    after_ended c.args.code (length c.slice.result.now) c.args.place.now c.skip_in_order.new.input
    c.borrowed-rest.result c.skip.new.input c.skip_in_order-2.new.input _ at c.borrowed-rest.ensures c.in-Ended-2.is
    c.in_ok-skip_in_order-2.ensures

pub returns-in-Counted-2 : goal.returns-in-Counted-2
returns-in-Counted-2 g c =
    let before = run_before c.args.code c.args.place.now c.skip_in_order.new.input c.borrowed-rest.result _
    c.requires c.in-Counted.is c.in_ok-skip_in_order.ensures c.borrowed-rest.ensures in
    let at = is_at c.args.code c.args.place.now c.borrowed-rest.result c.skip.new.input c.in-Some.next before
    (subst (HasNext c.borrowed-rest.result c.skip.new.input) c.in-Some.is c.in_ok-next.ensures) c.if-next-code.false in
    let all : length c.slice.result.now ≡ bytes_left c.args.place.now =
    ap (λ (bytes : List ℕ). length bytes) c.slice.ensures in
    after_counted c.args.code (length c.slice.result.now) c.args.place.now c.skip_in_order.new.input
    c.borrowed-rest.result c.skip.new.input c.skip_in_order-2.new.input _ at c.borrowed-rest.ensures c.in-Counted-2.is
    all c.in_ok-skip_in_order-2.ensures

pub returns-in-Unordered-2 : goal.returns-in-Unordered-2
returns-in-Unordered-2 g c =
    let before = run_before c.args.code c.args.place.now c.skip_in_order.new.input c.borrowed-rest.result _
    c.requires c.in-Counted.is c.in_ok-skip_in_order.ensures c.borrowed-rest.ensures in
    let at = is_at c.args.code c.args.place.now c.borrowed-rest.result c.skip.new.input c.in-Some.next before
    (subst (HasNext c.borrowed-rest.result c.skip.new.input) c.in-Some.is c.in_ok-next.ensures) c.if-next-code.false in
    after_unordered c.args.code (length c.slice.result.now) c.args.place.now c.borrowed-rest.result c.skip.new.input
    c.skip_in_order-2.new.input _ at c.in-Unordered-2.is c.in_ok-skip_in_order-2.ensures
