-- Where no unit of a context has a language, no name of a frame has one.
use Rattle.std.proofs.Common.{◌≡◌, ℕ, List, [], ◌∷◌, map, All, Bool, true, false, cond, Option, Some, None, Result, Ok, Err, refl, sym, subst}
use Rattle.std.specs.Prelude.{option_and_then}
use Rattle.std.proofs.lemmas.List.Elements.{All-nil, All-cons, All-head, All-tail, All-append}
use Rattle.linemap_lookup.specs.Contexts.{ContextUnit, FileContext, ranges_of}
use Rattle.linemap_lookup.specs.Error.{Error}
use Rattle.linemap_lookup.specs.FirstAnswers.{FirstAnswer, FirstAnswers, Lookup, output, pending}
use Rattle.linemap_lookup.specs.Frames.{Frame, FunctionAt, FunctionName, call_site, frame, frame_without_function, frames_in, frames_of, frames_of_unit, function_with_calls}
use Rattle.linemap_lookup.specs.InlinedCalls.{Call, chain_at}
use Rattle.linemap_lookup.specs.Lines.{Lines, Location, place_in}
use Rattle.linemap_lookup.specs.Lookups.{FunctionsUnit, Namings, decision_of, first_output, frames, frames_by, frames_under, functions_unit, is_answer, map_output}
use Rattle.linemap_lookup.specs.Pairs.{Pair, covering_pairs}
use Rattle.linemap_lookup.specs.Results.{and_then}
use Rattle.linemap_lookup.specs.View.{View}
use Rattle.linemap_image.specs.RecordedTableLaws.{HasNoLanguage}
use Rattle.linemap_image.proofs.LookupsWithoutLoads.{all_covering}

-- the language of a frame's name isn't known
abbrev pub IsOfNoLanguage : Frame → Type 0
IsOfNoLanguage f = option_and_then (λ (n : FunctionName). n.language) f.function ≡ None

-- ---- one unit

named : (offset : ℕ) (name : Option View) (here : Option Location) → IsOfNoLanguage (frame None offset name here)
named offset None here = refl
named offset (Some n) here = refl

alone : (f : Frame) → IsOfNoLanguage f → All IsOfNoLanguage (f ∷ [])
alone f none = All-cons IsOfNoLanguage f [] none (All-nil IsOfNoLanguage)

in_function : (files : List (List ℕ)) (here : Option Location) (offset : ℕ) (name : Option View) (cs : List Call)
    → All IsOfNoLanguage (frames_in None files here offset name cs)
in_function files here offset name [] = alone (frame None offset name here) (named offset name here)
in_function files here offset name (c ∷ inside) =
    All-append IsOfNoLanguage (frames_in None files here c.offset c.name inside) _
    (in_function files here c.offset c.name inside)
    (alone (frame None offset name (Some (call_site files c))) (named offset name (Some (call_site files c))))

without_function : (place : Option Location) → All IsOfNoLanguage (frame_without_function place)
without_function None = All-nil IsOfNoLanguage
without_function (Some l) = alone _ refl

of_function : (l : Lines) (a : ℕ) (f : Option FunctionAt) → All IsOfNoLanguage (frames_of None l a f)
of_function l a None = without_function (place_in l a)
of_function l a (Some f) = in_function l.files (place_in l a) f.offset f.calls.name (chain_at f.calls.calls a)

-- those of a result, if there are some
abbrev OfResult : Result (List Frame) Error → Type 0
OfResult (Ok fs) = All IsOfNoLanguage fs
OfResult (Err e) = Unit {0}

of_lines : (a : ℕ) (f : Option FunctionAt) (lines : Result Lines Error)
    → OfResult (and_then lines (λ l. Ok (frames_of None l a f)))
of_lines a f (Ok l) = of_function l a f
of_lines a f (Err e) = tt

of_calls : (a : ℕ) (found : Result (Option FunctionAt) Error) (lines : Result Lines Error)
    → OfResult (and_then found (λ f. and_then lines (λ l. Ok (frames_of None l a f))))
of_calls a (Ok f) lines = of_lines a f lines
of_calls a (Err e) lines = tt

-- ---- lookups

module _ (c : FileContext) (naming : Namings) (a : ℕ) where
  of_unit : (u : ContextUnit) → HasNoLanguage u → (f : FunctionsUnit) → OfResult (frames_by naming u a f)
  of_unit u none f =
      subst (λ (language : Option ℕ). OfResult (frames_of_unit f.unit (naming f) language u.lines a)) (sym none)
      (of_calls a (function_with_calls f.unit (naming f) a) u.lines)

  by_functions : (u : ContextUnit) → HasNoLanguage u → (f : Result FunctionsUnit Error)
      → OfResult (and_then f (frames_by naming u a))
  by_functions u none (Ok f) = of_unit u none f
  by_functions u none (Err e) = tt

  -- those that a lookup finds
  abbrev OfLookup : Lookup (Result (List Frame) Error) → Type 0
  OfLookup (output r) = OfResult r
  OfLookup (pending p) = Unit {0}

  by_answer : (u : ContextUnit) → HasNoLanguage u → (first : Lookup FirstAnswer)
      → OfLookup (map_output (frames_under c naming a u) first)
  by_answer u none (output first) = by_functions u none (functions_unit c u first)
  by_answer u none (pending p) = tt

  first_of : (r : Result (List Frame) Error) (rest : List (Lookup (Result (List Frame) Error))) (b : Bool)
      → OfResult r → OfLookup (first_output is_answer (Ok []) rest)
      → OfLookup (cond b (output r) (first_output is_answer (Ok []) rest))
  first_of r rest true here later = here
  first_of r rest false here later = later

  module _ (answers : FirstAnswers) where
    abbrev asked : Pair ContextUnit → Lookup (Result (List Frame) Error)
    asked p = map_output (frames_under c naming a p.unit) (decision_of c answers p.number p.unit)

    add_first : (l : Lookup (Result (List Frame) Error)) (rest : List (Lookup (Result (List Frame) Error)))
        → OfLookup l → OfLookup (first_output is_answer (Ok []) rest)
        → OfLookup (first_output is_answer (Ok []) (l ∷ rest))
    add_first (output r) rest here later = first_of r rest (is_answer r) here later
    add_first (pending p) rest here later = tt

    of_pairs : (ps : List (Pair ContextUnit)) → All (λ p. HasNoLanguage p.unit) ps
        → OfLookup (first_output is_answer (Ok []) (map asked ps))
    of_pairs [] none = All-nil IsOfNoLanguage
    of_pairs (p ∷ ps) none =
        add_first (asked p) (map asked ps)
        (by_answer p.unit (All-head (λ (q : Pair ContextUnit). HasNoLanguage q.unit) p ps none)
        (decision_of c answers p.number p.unit))
        (of_pairs ps (All-tail (λ (q : Pair ContextUnit). HasNoLanguage q.unit) p ps none))

-- the frames that are found
pub no_language : (c : FileContext) (naming : Namings) (answers : FirstAnswers) (a : ℕ) (fs : List Frame)
    → All HasNoLanguage c.context.units → frames c naming answers a ≡ output (Ok fs) → All IsOfNoLanguage fs
no_language c naming answers a fs none is =
    subst (OfLookup c naming a) is
    (of_pairs c naming a answers (covering_pairs ranges_of c.context.units a)
    (all_covering ranges_of HasNoLanguage c.context.units a none))
