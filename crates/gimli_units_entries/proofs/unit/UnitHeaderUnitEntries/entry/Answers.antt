use Rattle.std.proofs.Common.{arith}
use Rattle.std.proofs.lemmas.Grind.{common_steps}
use Rattle.gimli_core_base.proofs.RefusedCalls.{returns_refused}
use Rattle.gimli_units_entries.proofs.EntryLemmas.{entry_at-present, entry_at-null, entry_at-fault}
use Rattle.gimli_units_entries.proofs.unit.UnitHeaderUnitEntries.entry.Goals as goal

pub returns-in_err-read_entry : goal.returns-in_err-read_entry
returns-in_err-read_entry g c =
    returns_refused _ _ _ _ c.from_residual-in_err-read_entry.ensures.1
    (λ ne. entry_at-fault _ _ _ _ _ _ c.in_ok-entries.ensures.value (c.in_err-read_entry.ensures.value.0 ne))

pub returns-then-not-branch : goal.returns-then-not-branch
returns-then-not-branch g c = λ ne.
    entry_at-null _ _ _ _ _ _ _ _ _ c.in_ok-entries.ensures.value c.in_ok-read_entry.ensures.value
    (grind (arith, common_steps)) c.into_u64.ensures.value

pub returns : goal.returns
returns g c =
    entry_at-present _ _ _ _ _ _ _ _ c.in_ok-entries.ensures.value c.in_ok-read_entry.ensures.value
    (grind (arith, common_steps))
