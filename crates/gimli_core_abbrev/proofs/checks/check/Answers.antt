use Rattle.std.proofs.Common.{◌≡◌, ℕ, List, length, subst, Result, ap, sym, ◌∙◌}
use Rattle.gimli_core_readers.specs.View.{View, bytes_left}
use Rattle.gimli_core_readers.specs.Parsers.{value_of}
use Rattle.gimli_core_readers.specs.Repetition.{listing_in}
use Rattle.gimli_core_readers.specs.Error.{Error}
use Rattle.gimli_core_readers.proofs.RefusedCalls.{returns_refused}
use Rattle.gimli_core_readers.specs.Results.{refusal_of}
use Rattle.gimli_core_abbrev.specs.TableParsing.{declaration, table}
use Rattle.gimli_core_abbrev.specs.TableChecks.{IsInOrder}
use Rattle.gimli_core_abbrev.proofs.ExactRefusals.{exactly_refused}
use Rattle.gimli_core_abbrev.proofs.RunsInOrder.{checked_ended, checked_counted, checked_refused, checked_unordered}
use Rattle.gimli_core_abbrev.proofs.checks.check.Goals as goal

abbrev reads : View → Result (Unit {0}) Error
reads v = refusal_of (value_of (table v))

pub returns-in_err-skip_in_order-clause-value : goal.returns-in_err-skip_in_order-clause-value
returns-in_err-skip_in_order-clause-value g c =
    returns_refused _ c.from_residual.result _ _ c.from_residual.ensures.1
    (λ ne. ap reads (sym c.borrowed-place.ensures)
    ∙ checked_refused (length c.slice.result.now) c.borrowed-place.result c.skip_in_order.new.input _
    c.in_err-skip_in_order.ensures)

pub returns-in_err-skip_in_order-clause-free : goal.returns-in_err-skip_in_order-clause-free
returns-in_err-skip_in_order-clause-free g c =
    λ ordered. exactly_refused _ c.from_residual.result _ _ c.from_residual.ensures.1
    (ap reads (sym c.borrowed-place.ensures)
    ∙ checked_refused (length c.slice.result.now) c.borrowed-place.result c.skip_in_order.new.input _
    c.in_err-skip_in_order.ensures)

pub returns-in-Ended-clause-value : goal.returns-in-Ended-clause-value
returns-in-Ended-clause-value g c =
    ap reads (sym c.borrowed-place.ensures)
    ∙ checked_ended (length c.slice.result.now) c.borrowed-place.result _ _ c.in-Ended.is c.in_ok-skip_in_order.ensures

pub returns-in-Ended-clause-free : goal.returns-in-Ended-clause-free
returns-in-Ended-clause-free g c =
    λ ordered. ap reads (sym c.borrowed-place.ensures)
    ∙ checked_ended (length c.slice.result.now) c.borrowed-place.result _ _ c.in-Ended.is c.in_ok-skip_in_order.ensures

pub returns-in-Counted-clause-value : goal.returns-in-Counted-clause-value
returns-in-Counted-clause-value g c =
    let all : length c.slice.result.now ≡ bytes_left c.borrowed-place.result =
    ap (λ (bytes : List ℕ). length bytes) c.slice.ensures in
    ap reads (sym c.borrowed-place.ensures)
    ∙ checked_counted (length c.slice.result.now) c.borrowed-place.result _ _ c.in-Counted.is all
    c.in_ok-skip_in_order.ensures

pub returns-in-Counted-clause-free : goal.returns-in-Counted-clause-free
returns-in-Counted-clause-free g c =
    let all : length c.slice.result.now ≡ bytes_left c.borrowed-place.result =
    ap (λ (bytes : List ℕ). length bytes) c.slice.ensures in
    λ ordered. ap reads (sym c.borrowed-place.ensures)
    ∙ checked_counted (length c.slice.result.now) c.borrowed-place.result _ _ c.in-Counted.is all
    c.in_ok-skip_in_order.ensures

pub returns-in_err-_table-in-Unordered-clause-free : goal.returns-in_err-_table-in-Unordered-clause-free
returns-in_err-_table-in-Unordered-clause-free g c =
    λ ordered. absurd (checked_unordered (length c.slice.result.now) c.borrowed-place.result _ _ c.in-Unordered.is
    c.in_ok-skip_in_order.ensures
    (subst (λ (v : View). IsInOrder (listing_in bytes_left declaration v).items) (sym c.borrowed-place.ensures)
    ordered))
