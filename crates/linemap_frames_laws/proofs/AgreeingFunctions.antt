-- The function of an address among those that were agrees is the table's.
use Rattle.std.proofs.Common.{◌≡◌, ℕ, Bool, true, false, ◌||◌, List, [], ◌∷◌, ◌++◌, map, flat_map, filter, find, Option, Some, None, option_map, Result, Ok, Contains, refl, sym, ap, subst, ◌∙◌}
use Rattle.std.specs.List.{list_any}
use Rattle.std.proofs.lemmas.Bool.{or_parts, or_from}
use Rattle.std.proofs.lemmas.List.{map-append}
use Rattle.std.proofs.lemmas.List.Folds.{list_any-append}
use Rattle.linemap_places_laws.specs.Error.{Error}
use Rattle.linemap_places_laws.specs.Results.{and_then, some_of}
use Rattle.linemap_places_laws.specs.Choice.{holds, holder}
use Rattle.linemap_places_laws.specs.LookupLaws.{are_apart}
use Rattle.linemap_places_laws.specs.Pairs.{Pair, pairs_from}
use Rattle.linemap_places_laws.specs.Functions.{Function, ranges_of_function, function_at}
use Rattle.linemap_places_laws.specs.InlinedCalls.{FunctionCalls}
use Rattle.linemap_places_laws.specs.TableParts.{RangePart, FunctionPart, UnitPart}
use Rattle.linemap_places_laws.specs.Conditions.{IsSound, any_call, any_overlap, is_empty_range, has_empty_range, has_functions_overlap}
use Rattle.linemap_places_laws.specs.Meaning as table
use Rattle.linemap_places_laws.specs.Rule.TheVariants.{EmptyRange, FunctionsOverlap}
use Rattle.linemap_places_laws.proofs.SoundUnits.{sound_rule, none_passes}
use Rattle.linemap_places_laws.specs.LookupAgreement.{lookup_range}
use Rattle.linemap_frames_laws.specs.CallAgreement.{Likewise, EntryAgrees, FunctionAgrees, FunctionsAgree}
use Rattle.linemap_places_laws.specs.Frames.{FunctionAt, function_of_offset_if_any}
use Rattle.linemap_frames_laws.proofs.RangeCounts.{at_most_one, apart_by_count}
use Rattle.linemap_frames_laws.proofs.RangeOwners.{ranges_among, first_owner, find_likewise}
use Rattle.linemap_frames_laws.proofs.CallDepths.{has_empty}
use Rattle.linemap_frames_laws.proofs.AgreeingChains.{held_ranges_agree}

abbrev any_function : Function → Bool
any_function g = true

pub all_left : {X : Type 0} (xs : List X) → filter (λ x. true) xs ≡ xs
all_left [] = refl
all_left (x ∷ xs) = ap (λ l. x ∷ l) (all_left xs)

abbrev all_ranges : List FunctionPart → List RangePart
all_ranges fs = flat_map (λ f. f.ranges) fs

filled_functions : (fs : List FunctionPart)
    → list_any (λ f. list_any is_empty_range f.ranges || any_call has_empty f.calls) fs ≡ false
    → list_any is_empty_range (all_ranges fs) ≡ false
filled_functions [] h = refl
filled_functions (f ∷ fs) h =
    let p =
    or_parts (list_any is_empty_range f.ranges || any_call has_empty f.calls)
    (list_any (λ (f : FunctionPart). list_any is_empty_range f.ranges || any_call has_empty f.calls) fs) h in
    let q = or_parts (list_any is_empty_range f.ranges) (any_call has_empty f.calls) p.0 in
    list_any-append is_empty_range f.ranges (all_ranges fs)
    ∙ or_from (list_any is_empty_range f.ranges) (list_any is_empty_range (all_ranges fs)) q.0 (filled_functions fs p.1)

module _ (number : ℕ → ℕ) (at : ℕ → Result FunctionCalls Error) (a : ℕ) where
  ranges_agree : (fs : List FunctionPart) (gs : List Function) → FunctionsAgree number at fs gs
      → ranges_among ranges_of_function any_function gs ≡ map lookup_range (all_ranges fs)
  ranges_agree [] [] agrees = refl
  ranges_agree [] (g ∷ gs) agrees = absurd agrees
  ranges_agree (f ∷ fs) [] agrees = absurd agrees
  ranges_agree (f ∷ fs) (g ∷ gs) agrees =
      ap (λ rs. rs ++ ranges_among ranges_of_function any_function gs) agrees.0.ranges_agree
      ∙ ap (λ l. map lookup_range f.ranges ++ l) (ranges_agree fs gs agrees.1)
      ∙ sym (map-append lookup_range f.ranges (all_ranges fs))

  holds_alike : (f : FunctionPart) (g : Function) → FunctionAgrees number at f g
      → table.any_holds a f.ranges ≡ list_any (holds a) (ranges_of_function g)
  holds_alike f g agrees = sym (ap (list_any (holds a)) agrees.ranges_agree ∙ held_ranges_agree a f.ranges)

  function_agrees : (fs : List FunctionPart) (gs : List Function) → list_any is_empty_range (all_ranges fs) ≡ false
      → any_overlap (all_ranges fs) ≡ false → FunctionsAgree number at fs gs
      → Likewise (FunctionAgrees number at) (find (λ f. table.any_holds a f.ranges) fs) (function_at gs a)
  function_agrees fs gs filled apart agrees =
      let are : are_apart (ranges_among ranges_of_function any_function gs) ≡ true =
      ap are_apart (ranges_agree fs gs agrees)
      ∙ apart_by_count (all_ranges fs) filled (λ b. at_most_one b (all_ranges fs) apart) in
      let found =
      find_likewise (FunctionAgrees number at) (λ (f : FunctionPart). table.any_holds a f.ranges)
      (λ (g : Function). list_any (holds a) (ranges_of_function g)) holds_alike fs gs agrees in
      let first : function_at gs a ≡ find (λ (g : Function). list_any (holds a) (ranges_of_function g)) gs =
      sym (ap (λ (ps : List (Pair Function)). option_map (λ (p : Pair Function). p.unit)
      (holder (λ (p : Pair Function). p.range) a ps)) (all_left (pairs_from ranges_of_function 0 gs)))
      ∙ first_owner ranges_of_function any_function a gs are in
      let P : Option Function → Type 0 =
      λ o. Likewise (FunctionAgrees number at) (find (λ (f : FunctionPart). table.any_holds a f.ranges) fs) o in
      subst P (sym first) found

pub functions_meet : (number : ℕ → ℕ) (at : ℕ → Result FunctionCalls Error) (us : List UnitPart) (u : UnitPart)
    (gs : List Function) (a : ℕ) → IsSound us → Contains us u → FunctionsAgree number at u.functions gs
    → Likewise (FunctionAgrees number at) (table.function_at u a) (function_at gs a)
functions_meet number at us u gs a sound there agrees =
    let empty =
    or_parts (list_any is_empty_range u.ranges)
    (list_any (λ f. list_any is_empty_range f.ranges || any_call has_empty f.calls) u.functions)
    (none_passes has_empty_range us u (sound_rule us EmptyRange sound) there) in
    function_agrees number at a u.functions gs (filled_functions u.functions empty.1)
    (none_passes has_functions_overlap us u (sound_rule us FunctionsOverlap sound) there) agrees

-- ---- what is found

found_by : (number : ℕ → ℕ) (at : ℕ → Result FunctionCalls Error) (o : Option FunctionPart) (p : Option Function)
    → Likewise (FunctionAgrees number at) o p
    → (found : Option FunctionAt) × (function_of_offset_if_any at p ≡ Ok found)
    × Likewise (λ f x. EntryAgrees number f x.calls) o found
found_by number at None None h = (None, refl, tt)
found_by number at None (Some g) h = absurd h
found_by number at (Some f) None h = absurd h
found_by number at (Some f) (Some g) h =
    let made : Result FunctionCalls Error → Result (Option FunctionAt) Error =
    λ r. some_of (and_then r (λ calls. Ok (record { offset = g.offset; calls = calls }))) in
    (Some (record { offset = g.offset; calls = h.entry }), ap made h.at_entry, h.entry_agrees)

pub entries_meet : (number : ℕ → ℕ) (at : ℕ → Result FunctionCalls Error) (us : List UnitPart) (u : UnitPart)
    (gs : List Function) (a : ℕ) → IsSound us → Contains us u → FunctionsAgree number at u.functions gs
    → (found : Option FunctionAt) × (function_of_offset_if_any at (function_at gs a) ≡ Ok found)
    × Likewise (λ f x. EntryAgrees number f x.calls) (table.function_at u a) found
entries_meet number at us u gs a sound there agrees =
    found_by number at (table.function_at u a) (function_at gs a)
    (functions_meet number at us u gs a sound there agrees)
