-- The loads of a context are those of its units, by their numbers.
use Rattle.std.proofs.Common.{◌≡◌, ℕ, List, [], ◌∷◌, map, All, slice_get, Option, Some, None, option_map, option_and_then, Result, Ok, Err, refl, sym, ap, ◌∙◌, subst}
use Rattle.std.specs.List.{filter_map, cons_option}
use Rattle.std.proofs.lemmas.Simd.{map-map}
use Rattle.std.proofs.lemmas.Option.{slice_get-map, slice_get_within, get_or_from_slice_get}
use Rattle.std.proofs.lemmas.List.Elements.{All-get_or}
use Rattle.addr2line_unit.specs.Error.{Error}
use Rattle.addr2line_unit.specs.DwarfFiles.{DwarfFile}
use Rattle.addr2line_unit.specs.UnitFacts.{UnitFacts, in_file}
use Rattle.addr2line_unit.specs.Range.{Range}
use Rattle.addr2line_unit.specs.FirstAnswers.{SplitLoad, FirstAnswer, recorded_answer, PendingLoad, Lookup, decision, load_of}
use Rattle.addr2line_unit.specs.Lookups.{map_output, load_in, one_each, loads}
use Rattle.addr2line_unit.specs.Pairs.{Pair, covering_pairs}
use Rattle.addr2line_unit.specs.Contexts.{ContextUnit, ranges_of}
use Rattle.addr2line_unit.specs.NumberedRanges.{numbered_range, unit_ranges, covering_ranges}
use Rattle.addr2line_unit.specs.UnitPlaces.{UnitPlaces}
use Rattle.addr2line_unit.specs.ContextUnits.{unit_places, ordered_ranges}
use Rattle.addr2line_unit.specs.ResolvedUnits.{AnsweredUnit, ResolvedUnit, value_of_unit, main_unit, undecided, pending_load}
use Rattle.addr2line_unit.proofs.UnitAnswers.{Each, IsAt, covering_at, covering-map}
use Rattle.addr2line_unit.proofs.NewUnits.{unit_of}
use Rattle.addr2line_lookups.specs.AnsweredUnits.{first_of, answers_of, IsOfFile, AreOfFile}
use Rattle.addr2line_lookups.specs.Preloads.{numbered_load, load_at, loads_at}
use Rattle.addr2line_lookups.proofs.ContextOfUnits.{context_of_units}

abbrev ranges_in_places : UnitPlaces → List Range
ranges_in_places u = u.ranges

-- ---- one unit

-- the load of a decision is that of the unit
load_of_decision : (n : ℕ) (load : Result (Option SplitLoad) Error) (first : Option FirstAnswer)
    → load_in (map_output (λ (x : FirstAnswer). x) (decision n load first))
    ≡ option_map (numbered_load n) (undecided load first)
load_of_decision n (Ok None) first = refl
load_of_decision n (Err e) first = refl
load_of_decision n (Ok (Some l)) None = refl
load_of_decision n (Ok (Some l)) (Some x) = refl

all_at : {A : Type 0} (P : A → Type 0) (xs : List A) (n : ℕ) (x : A) → slice_get xs n ≡ Some x → All P xs → P x
all_at P xs n x is h =
    subst P (get_or_from_slice_get xs n x x is) (All-get_or P xs n x (slice_get_within xs n x is) h)

module _ (file : DwarfFile) (vs : List AnsweredUnit) (of_file : AreOfFile file vs) where
  abbrev units : List ContextUnit
  units = map unit_of vs

  abbrev decided_by : ℕ → DwarfFile → ContextUnit → Option FirstAnswer → Lookup FirstAnswer
  decided_by n f u first = decision n (load_of (in_file f u.facts)) first

  abbrev load_by : Lookup FirstAnswer → Option PendingLoad
  load_by d = load_in (map_output (λ (x : FirstAnswer). x) d)

  pub recorded_here : (n : ℕ) (v : AnsweredUnit) → slice_get vs n ≡ Some v → recorded_answer (answers_of vs) n ≡ v.first
  recorded_here n v is =
      ap (option_and_then (λ (x : Option FirstAnswer). x))
      (slice_get-map first_of vs n ∙ ap (option_map first_of) is)

  pub same_file : (n : ℕ) (v : AnsweredUnit) → slice_get vs n ≡ Some v → v.file ≡ file
  same_file n v is = all_at (IsOfFile file) vs n v is of_file

  pending_of : (n : ℕ) (u : ContextUnit) (o : Option AnsweredUnit) → slice_get vs n ≡ o → option_map unit_of o ≡ Some u
      → load_by (decided_by n file u (recorded_answer (answers_of vs) n))
      ≡ option_map (numbered_load n) (option_and_then pending_load o)
  pending_of n u None is here = absurd cc
  pending_of n u (Some v) is here =
      let same : v.unit ≡ u = cc in
      ap (λ x. load_by (decided_by n file x (recorded_answer (answers_of vs) n))) (sym same)
      ∙ ap (λ f. load_by (decided_by n f v.unit (recorded_answer (answers_of vs) n))) (sym (same_file n v is))
      ∙ ap (λ first. load_by (decided_by n v.file v.unit first)) (recorded_here n v is)
      ∙ load_of_decision n (load_of (main_unit v)) v.first

  pending_here : (n : ℕ) (u : ContextUnit) → slice_get units n ≡ Some u
      → load_by (decided_by n file u (recorded_answer (answers_of vs) n)) ≡ load_at vs n
  pending_here n u here =
      pending_of n u (slice_get vs n) refl (sym (slice_get-map unit_of vs n) ∙ here)

  -- ---- all

  abbrev load_of_pair : Pair ContextUnit → Option PendingLoad
  load_of_pair p = load_by (decided_by p.number file p.unit (recorded_answer (answers_of vs) p.number))

  loads_by_numbers : (ps : List (Pair ContextUnit)) → Each ranges_of (IsAt ranges_of units) ps
      → filter_map load_in
      (map (λ p. map_output (λ (x : FirstAnswer). x)
      (decided_by p.number file p.unit (recorded_answer (answers_of vs) p.number))) ps)
      ≡ loads_at vs (map numbered_range ps)
  loads_by_numbers [] h = refl
  loads_by_numbers (p ∷ ps) h =
      ap (λ l. cons_option (load_of_pair p) l) (loads_by_numbers ps h.1)
      ∙ ap (λ o. cons_option o (loads_at vs (map numbered_range ps))) (pending_here p.number p.unit h.0)

  pub covering_by_numbers : (a : ℕ)
      → covering_ranges a (ordered_ranges units) ≡ map numbered_range (covering_pairs ranges_of units a)
  covering_by_numbers a =
      ap (λ rs. covering_ranges a (unit_ranges rs)) (map-map ranges_in_places unit_places units)
      ∙ covering-map ranges_of units a

  -- the loads of a context with these units
  pub loads_of_units : (s : List UnitFacts) (a : ℕ)
      → loads (context_of_units file units s) (answers_of vs) a
      ≡ one_each (loads_at vs (covering_ranges a (ordered_ranges units)))
  loads_of_units s a =
      ap one_each (loads_by_numbers (covering_pairs ranges_of units a) (covering_at ranges_of units a)
      ∙ ap (loads_at vs) (sym (covering_by_numbers a)))

-- ---- a unit in a list

module _ (us : List ResolvedUnit) (n : ℕ) where
  load_of_unit : (o : Option ResolvedUnit) → o ≡ slice_get us n
      → load_at (map value_of_unit us) n
      ≡ option_map (numbered_load n) (option_and_then pending_load (option_map value_of_unit o))
  load_of_unit o found =
      ap (λ x. option_map (numbered_load n) (option_and_then pending_load x))
      (slice_get-map value_of_unit us n ∙ ap (option_map value_of_unit) (sym found))

  -- the load of the unit that is there
  pub load_there : {A : Type 0} (see : A → SplitLoad) (load : Option A) (u : ResolvedUnit) → Some u ≡ slice_get us n
      → option_map see load ≡ pending_load u.value
      → option_map (λ l. numbered_load n (see l)) load ≡ load_at (map value_of_unit us) n
  load_there see load u found is =
      seen_twice see load ∙ ap (option_map (numbered_load n)) is ∙ sym (load_of_unit (Some u) found)
    where
      seen_twice : {A : Type 0} (f : A → SplitLoad) (o : Option A)
          → option_map (λ l. numbered_load n (f l)) o ≡ option_map (numbered_load n) (option_map f o)
      seen_twice f None = refl
      seen_twice f (Some x) = refl

  -- or none
  pub no_load_past : None ≡ slice_get us n → None ≡ load_at (map value_of_unit us) n
  no_load_past none = sym (load_of_unit None none)
