-- What a lookup of a place leaves of a context.
use Rattle.std.proofs.Common.{◌≡◌, ◌≢◌, ℕ, List, map, Result, Ok, Err, sym, ap, subst}
use Rattle.addr2line_lookups.specs.Error.{Error}
use Rattle.addr2line_lookups.specs.Error.TheVariants.{Memory}
use Rattle.addr2line_lookups.specs.DwarfFiles.{DwarfFile}
use Rattle.addr2line_lookups.specs.UnitFacts.{UnitFacts}
use Rattle.addr2line_lookups.specs.NumberedRanges.{covering_ranges}
use Rattle.addr2line_lookups.specs.ContextUnits.{ordered_ranges}
use Rattle.addr2line_lookups.specs.ResolvedUnits.{ResolvedUnit, value_of_unit, plain_unit}
use Rattle.addr2line_lookups.specs.AnsweredUnits.{AreOfFile}
use Rattle.addr2line_lookups.specs.KeptUnits.{KeepsAsked, ReadsAsked, ReadsNoFunctions, AsksForRow}
use Rattle.addr2line_lookups.specs.LookupCosts.{AtMostLooks, row_looks}
use Rattle.addr2line_context.specs.KeptContexts.{ResolvedContext}
use Rattle.addr2line_context.specs.ContextCosts.{location_looks, AsksForPlace, AfterReading}
use Rattle.addr2line_context.proofs.ContextParts.{resolved_with, value_is, functions_since, after_lookup}
use Rattle.addr2line_context.proofs.ContextLooks.{location_looks_here, asks_here, asks_there}

module _ (file : DwarfFile) (us : List ResolvedUnit) (s : List UnitFacts)
    (of_file : AreOfFile file (map value_of_unit us)) (a : ℕ) (c : ResolvedContext)
    (is : resolved_with file us s ≡ c) where
  abbrev looks : ℕ
  looks =
      row_looks (map plain_unit us) (map value_of_unit us) a
      (covering_ranges a (ordered_ranges (map plain_unit us)))

  pub after_row : (new : List ResolvedUnit) → map value_of_unit new ≡ map value_of_unit us → AtMostLooks looks us new
      → ReadsAsked (AsksForRow (map plain_unit us) a) us new → ReadsNoFunctions us new
      → {A : Type 0} (result : Result A Error)
      → (result ≢ Err Memory → KeepsAsked (AsksForRow (map plain_unit us) a) new)
      → AfterReading (AsksForPlace c.value a) (location_looks c.value a) result c (resolved_with file new s)
  after_row new same cost reads none result asked =
      let value = value_is file us s c is in
      let after =
      after_lookup file us s c is looks (location_looks c.value a) new
      (location_looks_here file us s of_file a c.value value) same cost in
      let P : ResolvedContext → Type 0 = λ x. ReadsAsked (AsksForPlace c.value a) x.units new in
      record {
        value = after.value;
        cost = after.cost;
        asked = λ answered. asks_here file us s of_file a c.value value (λ asks. KeepsAsked asks new) (asked answered);
        reads = subst P is (asks_here file us s of_file a c.value value (λ asks. ReadsAsked asks us new) reads);
        functions = functions_since file us s c is new none;
      }

  -- the lines of the units that it asks are kept
  pub keeps_row : KeepsAsked (AsksForPlace c.value a) c.units → KeepsAsked (AsksForRow (map plain_unit us) a) us
  keeps_row h =
      let P : ResolvedContext → Type 0 = λ x. KeepsAsked (AsksForPlace c.value a) x.units in
      asks_there file us s of_file a c.value (value_is file us s c is) (λ asks. KeepsAsked asks us)
      (subst P (sym is) h)

-- a row that isn't refused when out of memory, nor is its place
abbrev refusal : (A : Type 0) → Error → Result A Error
refusal A e = Err e

pub same_refusal : {A B : Type 0} (e : Error) → refusal A e ≢ refusal A Memory → refusal B e ≢ refusal B Memory
same_refusal {A} e other is = let same : e ≡ Memory = cc in other (ap (refusal A) same)

-- a row that was found isn't out of memory
abbrev answer : (A : Type 0) → A → Result A Error
answer A x = Ok x

pub found_row : {A : Type 0} (x : A) → answer A x ≢ refusal A Memory
found_row {A} x same = cc
