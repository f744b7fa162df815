-- A context from its parts.
use Rattle.std.proofs.Common.{◌≡◌, ◌≢◌, ℕ, ◌+◌, List, map, Option, None, Result, Ok, Err, sym, ap, ◌∙◌, subst}
use Rattle.std.proofs.lemmas.Simd.{map-map}
use Rattle.addr2line_lookups.specs.Error.{Error}
use Rattle.addr2line_lookups.specs.Error.TheVariants.{Memory}
use Rattle.addr2line_lookups.specs.Repetition.{fault_of}
use Rattle.addr2line_lookups.specs.ArangeSets.{sets_to_come}
use Rattle.addr2line_lookups.specs.Tiling.{whole_section}
use Rattle.addr2line_lookups.specs.Results.{and_then, unless}
use Rattle.addr2line_lookups.specs.DwarfFiles.{DwarfFile, supplement}
use Rattle.addr2line_lookups.specs.UnitFacts.{UnitFacts}
use Rattle.addr2line_lookups.specs.FirstAnswers.{FirstAnswers}
use Rattle.addr2line_lookups.specs.Contexts.{ContextUnit, Context, units_of_file, units_of_supplement, context, FileContext, file_context}
use Rattle.addr2line_lookups.specs.ResolvedUnits.{ResolvedUnit, value_of_unit, plain_unit, new_units}
use Rattle.addr2line_lookups.proofs.NewUnits.{unit_of, units_alone, units_of_new}
use Rattle.addr2line_lookups.proofs.ContextOfUnits.{context_of_units}
use Rattle.addr2line_context.specs.AnsweredContexts.{AnsweredContext}
use Rattle.addr2line_context.specs.KeptContexts.{ResolvedContext}
use Rattle.addr2line_context.specs.ContextCosts.{AfterLookup, AfterStep, AsksForNext, AsksForStretches, stretch_looks}
use Rattle.addr2line_lookups.specs.ContextUnits.{ordered_ranges}
use Rattle.addr2line_lookups.specs.KeptUnits.{KeepsAsked, ReadsAsked, ReadsNoLines, ReadsNoFunctions}
use Rattle.addr2line_lookups.specs.RangeWalks.{AsksForNextStretch, StaysOnItsWay, walk_looks}
use Rattle.addr2line_lookups.specs.declared.range_walk.RangeWalk.{RangeWalk}
use Rattle.addr2line_lookups.specs.LookupCosts.{AtMostLooks, TakesLooks}
use Rattle.addr2line_lookups.specs.AnsweredUnits.{answers_of}
use Rattle.addr2line_lookups.specs.KeptCalls.{facts_of}
use Rattle.addr2line_lookups.specs.OrderedUnits.{AreInOrder}
use Rattle.addr2line_lookups.proofs.KeptLines.{same_plain}
use Rattle.addr2line_lookups.proofs.UnitsInOrder.{units_in_order}

-- ---- units

-- the units that were made are a context's
pub made_units : (file : DwarfFile) (us : List ResolvedUnit) → new_units file ≡ Ok (map value_of_unit us)
    → units_of_file file ≡ Ok (map plain_unit us)
made_units file us h =
    sym (units_of_new file) ∙ ap units_alone h ∙ ap Ok (map-map unit_of value_of_unit us)

-- they are in the order of their offsets
pub context_in_order : (file : DwarfFile) (us : List ResolvedUnit) → new_units file ≡ Ok (map value_of_unit us)
    → AreInOrder (map facts_of us)
context_in_order file us made =
    subst AreInOrder (map-map (λ (c : ContextUnit). c.facts) plain_unit us)
    (units_in_order file (map plain_unit us) (made_units file us made))

pub refused_units : (file : DwarfFile) (e : Error) → new_units file ≡ Err e → units_of_file file ≡ Err e
refused_units file e h = sym (units_of_new file) ∙ ap units_alone h

-- ---- a context

abbrev with_supplement : List ContextUnit → List UnitFacts → Result Context Error
with_supplement units supplement_units = Ok (record { units = units; supplement_units = supplement_units })

abbrev with_units : DwarfFile → List ContextUnit → Result Context Error
with_units s units = and_then (units_of_supplement (supplement s)) (with_supplement units)

abbrev with_sets : DwarfFile → Option Error → Result Context Error
with_sets s fault = unless fault (and_then (units_of_file s) (with_units s))

abbrev with_file : DwarfFile → Context → Result FileContext Error
with_file s c = Ok (record { file = s; context = c })

module _ (s : DwarfFile) where
  abbrev fault_of_sets : Option Error
  fault_of_sets = fault_of (sets_to_come s.offset_limit (whole_section s.sections.debug_aranges))

  -- refused by none of its parts
  context_of_parts : (units : List ContextUnit) (supplement_units : List UnitFacts) → fault_of_sets ≡ None
      → units_of_file s ≡ Ok units
      → units_of_supplement (supplement s) ≡ Ok supplement_units
      → context s ≡ Ok (record { units = units; supplement_units = supplement_units })
  context_of_parts units supplement_units sound file h =
      ap (with_sets s) sound ∙ ap (λ r. and_then r (with_units s)) file
      ∙ ap (λ r. and_then r (with_supplement units)) h

  pub file_context_of_parts : (units : List ContextUnit) (supplement_units : List UnitFacts) → fault_of_sets ≡ None
      → units_of_file s ≡ Ok units
      → units_of_supplement (supplement s) ≡ Ok supplement_units
      → file_context s
      ≡ Ok (record { file = s; context = record { units = units; supplement_units = supplement_units } })
  file_context_of_parts units supplement_units sound file h =
      ap (λ r. and_then r (with_file s)) (context_of_parts units supplement_units sound file h)

  -- refused by the last of them
  pub supplement_refused : (units : List ContextUnit) (e : Error) → fault_of_sets ≡ None
      → units_of_file s ≡ Ok units
      → units_of_supplement (supplement s) ≡ Err e → file_context s ≡ Err e
  supplement_refused units e sound file h =
      ap (λ r. and_then r (with_file s))
      (ap (with_sets s) sound ∙ ap (λ r. and_then r (with_units s)) file
      ∙ ap (λ r. and_then r (with_supplement units)) h)

  -- or by its units
  pub units_refused : (e : Error) → fault_of_sets ≡ None → units_of_file s ≡ Err e → file_context s ≡ Err e
  units_refused e sound file =
      ap (λ r. and_then r (with_file s)) (ap (with_sets s) sound ∙ ap (λ r. and_then r (with_units s)) file)

-- ---- a context whose units were read

abbrev pub file_context_with : DwarfFile → List ResolvedUnit → List UnitFacts → FileContext
file_context_with file us supplement_units =
    context_of_units file (map plain_unit us) supplement_units

-- with its answers
abbrev pub context_with : DwarfFile → List ResolvedUnit → List UnitFacts → AnsweredContext
context_with file us supplement_units = record {
  plain = file_context_with file us supplement_units;
  answers = answers_of (map value_of_unit us);
}

abbrev context_from : DwarfFile → List UnitFacts → List ContextUnit → FirstAnswers → AnsweredContext
context_from file supplement_units units answers =
    record { plain = context_of_units file units supplement_units; answers = answers }

-- it is the same where the units' values are
pub same_context : (file : DwarfFile) (us vs : List ResolvedUnit) (supplement_units : List UnitFacts)
    (c : AnsweredContext) → map value_of_unit vs ≡ map value_of_unit us → context_with file us supplement_units ≡ c
    → context_with file vs supplement_units ≡ c
same_context file us vs supplement_units c same is =
    ap (λ units. context_from file supplement_units units (answers_of (map value_of_unit vs))) (same_plain vs us same)
    ∙ ap (λ values. context_from file supplement_units (map plain_unit us) (answers_of values)) same ∙ is

-- ---- with what is kept

abbrev pub resolved_with : DwarfFile → List ResolvedUnit → List UnitFacts → ResolvedContext
resolved_with file us supplement_units =
    record { value = context_with file us supplement_units; units = us }

module _ (file : DwarfFile) (us : List ResolvedUnit) (supplement_units : List UnitFacts) (c : ResolvedContext)
    (is : resolved_with file us supplement_units ≡ c) where
  pub value_is : context_with file us supplement_units ≡ c.value
  value_is = ap (λ (x : ResolvedContext). x.value) is

  -- the looks since then
  pub looks_since : (n : ℕ) (vs : List ResolvedUnit) → AtMostLooks n us vs → AtMostLooks n c.units vs
  looks_since n vs = subst (λ (x : ResolvedContext). AtMostLooks n x.units vs) is

  -- where no lines were read since then
  pub lines_since : (vs : List ResolvedUnit) → ReadsNoLines us vs → ReadsNoLines c.units vs
  lines_since vs = subst (λ (x : ResolvedContext). ReadsNoLines x.units vs) is

  -- or no functions
  pub functions_since : (vs : List ResolvedUnit) → ReadsNoFunctions us vs → ReadsNoFunctions c.units vs
  functions_since vs = subst (λ (x : ResolvedContext). ReadsNoFunctions x.units vs) is

  -- a lookup that leaves the units' values
  pub after_lookup : (n m : ℕ) (vs : List ResolvedUnit) → n ≡ m → map value_of_unit vs ≡ map value_of_unit us
      → AtMostLooks n us vs → AfterLookup m c (resolved_with file vs supplement_units)
  after_lookup n m vs same_count same looks = record {
    value = same_context file us vs supplement_units c.value same value_is;
    cost = subst (λ k. AtMostLooks k c.units vs) same_count (looks_since n vs looks);
  }

  -- a step of a walk between two ends
  pub after_step : {A : Type 0} (result : Result A Error) (old new : RangeWalk) (vs : List ResolvedUnit)
      → map value_of_unit vs ≡ map value_of_unit us
      → TakesLooks (walk_looks (map plain_unit us) (ordered_ranges (map plain_unit us)) old + 3)
      (walk_looks (map plain_unit us) (ordered_ranges (map plain_unit us)) new) us vs
      → (result ≢ Err Memory → KeepsAsked (AsksForNextStretch (map plain_unit us) old) vs)
      → ReadsAsked (AsksForNextStretch (map plain_unit us) old) us vs → ReadsNoFunctions us vs
      → StaysOnItsWay (ordered_ranges (map plain_unit us)) old new
      → AfterStep result old new c (resolved_with file vs supplement_units)
  after_step result old new vs same looks asked reads none way =
      let takes : ResolvedContext → Type 0 =
      λ x. TakesLooks (stretch_looks x.value old + 3) (stretch_looks x.value new) x.units vs in
      let on_way : AnsweredContext → Type 0 =
      λ x. (n : ℕ) → AsksForStretches x new n → AsksForStretches x old n in
      record {
        value = same_context file us vs supplement_units c.value same value_is;
        cost = subst takes is looks;
        asked = λ answered. subst (λ x. KeepsAsked (AsksForNext x old) vs) value_is (asked answered);
        reads = subst (λ (x : ResolvedContext). ReadsAsked (AsksForNext x.value old) x.units vs) is reads;
        functions = functions_since vs none;
        way = subst on_way value_is way;
      }

  -- the lines that it asks for are kept
  pub keeps_stretch : (old : RangeWalk) → KeepsAsked (AsksForNext c.value old) c.units
      → KeepsAsked (AsksForNextStretch (map plain_unit us) old) us
  keeps_stretch old = subst (λ (x : ResolvedContext). KeepsAsked (AsksForNext x.value old) x.units) (sym is)

-- the same step with another result
pub with_result : {A B : Type 0} (r : Result A Error) (result : Result B Error) (old_walk new_walk : RangeWalk)
    (old new : ResolvedContext) → AfterStep r old_walk new_walk old new → (result ≢ Err Memory → r ≢ Err Memory)
    → AfterStep result old_walk new_walk old new
with_result r result old_walk new_walk old new h refused = record {
  value = h.value;
  cost = h.cost;
  asked = λ answered. h.asked (refused answered);
  reads = h.reads;
  functions = h.functions;
  way = h.way;
}
