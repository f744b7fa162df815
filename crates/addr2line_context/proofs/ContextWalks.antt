-- A walk over the units of a context is the definition's.
use Rattle.std.proofs.Common.{◌≡◌, inl, inr, List, map, take, Result, Ok, Err, refl, sym, ap, ◌∙◌, subst}
use Rattle.std.proofs.lemmas.Simd.{map-map}
use Rattle.addr2line_lookups.specs.Error.{Error}
use Rattle.addr2line_lookups.specs.Results.{and_then, each, refusal_of}
use Rattle.addr2line_lookups.specs.DwarfFiles.{DwarfFile}
use Rattle.addr2line_lookups.specs.UnitFacts.{UnitFacts, in_file}
use Rattle.addr2line_lookups.specs.FirstAnswers.{FirstAnswer}
use Rattle.addr2line_lookups.specs.Contexts.{ContextUnit, FileContext}
use Rattle.addr2line_lookups.specs.Histories.{functions_or_refusal, calls_or_refusal, parse_from}
use Rattle.addr2line_lookups.specs.Functions.{functions_of_unit}
use Rattle.addr2line_lookups.specs.InlinedCalls.{calls_of_function}
use Rattle.addr2line_lookups.specs.EntryReferences.{KnownUnits, HoldingUnit}
use Rattle.addr2line_lookups.specs.ContextNames.{known_units, naming_in, naming_from}
use Rattle.addr2line_lookups.specs.KeptCalls.{known_among}
use Rattle.addr2line_lookups.specs.ResolvedUnits.{AnsweredUnit, ResolvedUnit, value_of_unit, plain_unit, first_answer, functions_under, unit_of_functions}
use Rattle.addr2line_lookups.proofs.NewUnits.{unit_of}
use Rattle.addr2line_lookups.specs.AnsweredUnits.{AreOfFile, answers_of}
use Rattle.addr2line_lookups.specs.UnitParses.{check_functions_of, check_calls_of, WalksOrNoMemory}
use Rattle.addr2line_lookups.proofs.CallsLeft.{known_by_units}
use Rattle.addr2line_lookups.proofs.ContextOfUnits.{context_of_units}
use Rattle.addr2line_lookups.proofs.UnitWalks.{Walked, plain_walked, same_file_left}
use Rattle.addr2line_lookups.proofs.ParsedUnits.{Says, first_parsed, all_parsed}
use Rattle.addr2line_context.specs.AnsweredContexts.{AnsweredContext}
use Rattle.addr2line_context.specs.ContextParses.{ParsesOrNoMemory}
use Rattle.addr2line_context.proofs.ContextParts.{file_context_with, context_with}

-- ---- what is said of a unit

functions_said : (c : FileContext) (u : ContextUnit) (first : FirstAnswer)
    → refusal_of (functions_under (in_file c.file u.facts) first) ≡ functions_or_refusal c u first
functions_said c u (Ok split) = refl
functions_said c u (Err e) = refl

pub says_functions : (c : FileContext) → Says c.file (functions_or_refusal c) check_functions_of
says_functions c v of_file =
    ap (λ f. refusal_of (functions_under (in_file f v.unit.facts) (first_answer v))) of_file
    ∙ functions_said c v.unit (first_answer v)

abbrev calls_in : KnownUnits → HoldingUnit → Result (Unit {0}) Error
calls_in known h =
    and_then (functions_of_unit h.unit) (λ fs.
    refusal_of (each (λ f. calls_of_function h.unit (naming_from known h) f.offset) fs))

calls_said : (c : FileContext) (u : ContextUnit) (first : FirstAnswer)
    → and_then (unit_of_functions (in_file c.file u.facts) first) (calls_in (known_units c))
    ≡ calls_or_refusal c (naming_in c) u first
calls_said c u (Ok split) = refl
calls_said c u (Err e) = refl

says_calls : (c : FileContext) → Says c.file (calls_or_refusal c (naming_in c)) (check_calls_of (known_units c))
says_calls c v of_file =
    ap (λ f. and_then (unit_of_functions (in_file f v.unit.facts) (first_answer v)) (calls_in (known_units c))) of_file
    ∙ calls_said c v.unit (first_answer v)

-- that, with the names as a context finds them
abbrev parse_calls : FileContext → ContextUnit → FirstAnswer → Result (Unit {0}) Error
parse_calls c = calls_or_refusal c (naming_in c)

-- the units that a context knows
pub known_in : (file : DwarfFile) (us : List ResolvedUnit) (s : List UnitFacts)
    → known_units (file_context_with file us s) ≡ known_among us s
known_in file us s = sym (known_by_units us s)

-- ---- the context

module _ (file : DwarfFile) (us : List ResolvedUnit) (s : List UnitFacts)
    (of_file : AreOfFile file (map value_of_unit us))
    (parse : FileContext → ContextUnit → FirstAnswer → Result (Unit {0}) Error)
    (check : AnsweredUnit → Result (Unit {0}) Error) where
  abbrev here : FileContext
  here = file_context_with file us s

  module _ (says : Says file (parse here) check) (us' : List ResolvedUnit) (result : Result (Unit {0}) Error)
      (h : WalksOrNoMemory check result (map value_of_unit us) (map value_of_unit us')) where
    abbrev vs : List AnsweredUnit
    vs = map value_of_unit us

    units_here : map unit_of vs ≡ map plain_unit us
    units_here = map-map unit_of value_of_unit us

    walk_here : ParsesOrNoMemory here (parse here) result (answers_of vs) (answers_of (map value_of_unit us'))
    walk_here = by h
      where
        by : WalksOrNoMemory check result vs (map value_of_unit us')
            → ParsesOrNoMemory here (parse here) result (answers_of vs) (answers_of (map value_of_unit us'))
        by (inl all) =
            inl (ap (λ units. parse_from here (parse here) 0 units (answers_of vs)) (sym units_here)
            ∙ all_parsed here (parse here) check says vs of_file
            ∙ ap (λ (r : Walked). (r.0, answers_of r.1)) all)
        by (inr none) =
            let n = none.1.0 in
            let parsed =
            ap (λ units. (parse_from here (parse here) 0 (take n units) (answers_of vs)).1) (sym units_here)
            ∙ ap (λ r. r.1) (first_parsed here (parse here) check says n vs of_file) in
            inr (none.0, (n, ap answers_of none.1.1 ∙ sym parsed))

    -- of the context, as it is seen
    pub walk_of_context : (c : AnsweredContext) → context_with file us s ≡ c
        → ParsesOrNoMemory c.plain (parse c.plain) result c.answers (answers_of (map value_of_unit us'))
    walk_of_context c is =
        let P : AnsweredContext → Type 0 =
        λ x. ParsesOrNoMemory x.plain (parse x.plain) result x.answers (answers_of (map value_of_unit us')) in
        subst P is walk_here

    pub same_plain_walked : (c : AnsweredContext) → context_with file us s ≡ c → file_context_with file us' s ≡ c.plain
    same_plain_walked c is =
        ap (λ units. context_of_units file units s) (plain_walked check result us us' h)
        ∙ ap (λ (x : AnsweredContext). x.plain) is

    pub of_file_walked : AreOfFile file (map value_of_unit us')
    of_file_walked = same_file_left check result vs (map value_of_unit us') h file of_file

-- ---- the walk over the calls of functions

-- The units s of the supplement are handed in as a slice, which is `given`.
module _ (file : DwarfFile) (us : List ResolvedUnit) (s : List UnitFacts)
    (of_file : AreOfFile file (map value_of_unit us)) (given : List UnitFacts) (given_is : given ≡ s)
    (us' : List ResolvedUnit) (result : Result (Unit {0}) Error)
    (h : WalksOrNoMemory (check_calls_of (known_among us given)) result (map value_of_unit us)
    (map value_of_unit us')) where
  abbrev context_here : FileContext
  context_here = file_context_with file us s

  abbrev check_here : AnsweredUnit → Result (Unit {0}) Error
  check_here = check_calls_of (known_units context_here)

  walk_calls : WalksOrNoMemory check_here result (map value_of_unit us) (map value_of_unit us')
  walk_calls =
      let Walks : KnownUnits → Type 0 =
      λ known. WalksOrNoMemory (check_calls_of known) result (map value_of_unit us) (map value_of_unit us') in
      subst Walks (sym (known_in file us s))
      (subst (λ (units : List UnitFacts). Walks (known_among us units)) given_is h)

  pub of_file_calls : AreOfFile file (map value_of_unit us')
  of_file_calls =
      of_file_walked file us s of_file parse_calls check_here (says_calls context_here) us' result walk_calls

  module _ (c : AnsweredContext) (is : context_with file us s ≡ c) where
    pub calls_of_context : ParsesOrNoMemory c.plain (parse_calls c.plain) result c.answers
        (answers_of (map value_of_unit us'))
    calls_of_context =
        walk_of_context file us s of_file parse_calls check_here (says_calls context_here) us' result walk_calls c is

    pub same_plain_calls : file_context_with file us' s ≡ c.plain
    same_plain_calls =
        same_plain_walked file us s of_file parse_calls check_here (says_calls context_here) us' result walk_calls c
        is
