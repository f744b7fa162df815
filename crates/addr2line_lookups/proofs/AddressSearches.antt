-- A search for an address among units, one after the other.
use Rattle.std.proofs.Common.{◌≡◌, ◌≢◌, ℕ, Bool, true, false, List, [], map, drop, None, Result, Ok, Err, refl, sym, ap, ◌∙◌, subst}
use Rattle.addr2line_unit.specs.Error.{Error}
use Rattle.addr2line_unit.specs.Error.TheVariants.{Memory}
use Rattle.addr2line_unit.specs.UnitFacts.{UnitFacts}
use Rattle.addr2line_unit.specs.FirstAnswers.{Lookup, output, pending}
use Rattle.addr2line_unit.specs.UnitRange.{UnitRange}
use Rattle.addr2line_unit.specs.NumberedRanges.{covering_ranges}
use Rattle.addr2line_unit.specs.EntryReferences.{KnownUnits}
use Rattle.addr2line_unit.specs.ResolvedUnits.{AnsweredUnit, ResolvedUnit, value_of_unit}
use Rattle.addr2line_lookups.specs.KeptUnits.{KeepsFunctionList, KeepsFunctionsAt, ReadsAsked, ReadsAskedFunctions}
use Rattle.addr2line_lookups.specs.KeptCalls.{known_among, HoldCalls}
use Rattle.addr2line_lookups.specs.Preloads.{load_at}
use Rattle.addr2line_lookups.specs.LookupCosts.{frame_probes_at}
use Rattle.addr2line_lookups.specs.UnitLookups.{ends_search, ask_at, first_asked, IsPending, Settles}
use Rattle.addr2line_lookups.specs.PassedUnits.{ComesNext, Pass, PassedAreKept, AsksUntil}
use Rattle.addr2line_lookups.specs.AddressSearches.{SearchesUnits, SearchesUnit, IsSomething, EndsSearch, SettlesAmong, found_nothing}
use Rattle.addr2line_lookups.specs.declared.settled.Settled.{Settled}
use Rattle.addr2line_lookups.specs.declared.settled.Settled.TheVariants.{Waits, Nothing, Found}
use Rattle.addr2line_lookups.proofs.CallsLeft.{known_same}
use Rattle.addr2line_lookups.proofs.UnitChanges.{changes_none, changes_both}
use Rattle.addr2line_lookups.proofs.UnitProbes.{LooksLeft, looks_none, looks_begin_after, looks_end}
use Rattle.addr2line_lookups.proofs.LookupProbes.{frame_probes_among, frames_further, frames_stop}
use Rattle.addr2line_lookups.proofs.AskedLines.{reads_none, reads_both}
use Rattle.addr2line_lookups.proofs.SettledUnits.{first_waits, first_answers, calls_same, calls_back}
use Rattle.addr2line_lookups.proofs.PassedUnits.{kept_still, kept_next, pass_next, asked_next, asked_from, probes_from}
use Rattle.addr2line_lookups.proofs.AskedFunctions.{FunctionsAsked, functions_begin, functions_here, functions_next, functions_last, functions_end}

-- ---- no unit

-- where none is asked
pub searches_none : (known : KnownUnits) (asks : ℕ → Type 0) (n : ℕ) (us : List ResolvedUnit) → HoldCalls known us
    → SearchesUnits known asks n us us
searches_none known asks n us calls = record {
  values = refl;
  calls = calls;
  cost = looks_none n us;
  reads = reads_none asks us;
  functions = changes_none KeepsFunctionList asks us;
}

-- ---- one unit

abbrev refusal : (P : Type 0) → Error → Result (Settled P) Error
refusal P e = Err e

-- nothing isn't a refusal
nothing_answers : (P : Type 0) (r : Result (Settled P) Error) → true ≡ found_nothing r → r ≢ refusal P Memory
nothing_answers P (Ok s) none same = cc
nothing_answers P (Err e) none same = absurd cc

-- a load that is pending is no answer
pending_knows : {A : Type 0} (m : Lookup A) (x : A) → IsPending m → m ≡ output x → ⊥
pending_knows {A} m x waits is = let never : pending waits.0 ≡ output x = sym waits.1 ∙ is in cc

module _ {A P : Type 0} (is_something : A → Bool) (nothing : A)
    (finds : List AnsweredUnit → List ResolvedUnit → Lookup A → P → Type 0) (refuses : Lookup A → Error → Type 0)
    (ends : EndsSearch is_something nothing finds refuses) where
  -- something isn't nothing
  something_knows : (m : Lookup A) → IsSomething is_something m → m ≡ output nothing → ⊥
  something_knows m some is =
      let x : A = some.0 in
      let outputs : output x ≡ output nothing = sym some.1 ∙ is in
      let same : x ≡ nothing = cc in
      let never : true ≡ false = sym some.2 ∙ ap is_something same ∙ ends.none in cc

  module _ (vs : List AnsweredUnit) (us : List ResolvedUnit) where
    abbrev settles : Lookup A → Result (Settled P) Error → Type 0
    settles m r = Settles (finds vs us) refuses nothing m r

    nothing_is : (m : Lookup A) (r : Result (Settled P) Error) → true ≡ found_nothing r → settles m r
        → m ≡ output nothing
    nothing_is m (Ok Waits) none h = absurd cc
    nothing_is m (Ok Nothing) none h = h
    nothing_is m (Ok (Found p)) none h = absurd cc
    nothing_is m (Err e) none h = absurd cc

    -- what ends a search is known
    end_knows : (m : Lookup A) (r : Result (Settled P) Error) → false ≡ found_nothing r → r ≢ refusal P Memory
        → settles m r → m ≡ output nothing → ⊥
    end_knows m (Ok Waits) ended other h is = pending_knows m nothing h is
    end_knows m (Ok Nothing) ended other h is = absurd cc
    end_knows m (Ok (Found p)) ended other h is = something_knows m (ends.found vs us m p h) is
    end_knows m (Err e) ended other h is =
        something_knows m (ends.refused m e h (λ same. other (ap (refusal P) same))) is

    -- and ends the lookup so
    end_is : (m n : Lookup A) → (IsPending m → IsPending n)
        → ((x : A) → m ≡ output x → is_something x ≡ true → n ≡ output x) → (r : Result (Settled P) Error)
        → false ≡ found_nothing r → settles m r → settles n r
    end_is m n waits same (Ok Waits) ended h = waits h
    end_is m n waits same (Ok Nothing) ended h = absurd cc
    end_is m n waits same (Ok (Found p)) ended h =
        let some = ends.found vs us m p h in
        subst (λ (l : Lookup A). finds vs us l p) (some.1 ∙ sym (same some.0 some.1 some.2)) h
    end_is m n waits same (Err e) ended h = ends.same m n e same h

-- ---- one unit after the other

-- Before an index the units know nothing and keep their functions. The units' values are the same, and looks are left
-- for the ranges that are left. Neither lines nor functions were read but of units that are asked, and the functions of
-- those that were asked are kept.
pub record Searched {A : Type 0} (is_something : A → Bool) (ask : AnsweredUnit → A) (nothing : A) (s : List UnitFacts)
    (a : ℕ) (rs : List UnitRange) (us vs : List ResolvedUnit) (from : ℕ) : Type 0 where
  pub values : map value_of_unit vs ≡ map value_of_unit us
  pub calls : HoldCalls (known_among us s) vs
  pub passed : Pass ask nothing (map value_of_unit us) a from rs
  pub looks : LooksLeft (frame_probes_among is_something ask nothing us s a (covering_ranges a rs))
      (frame_probes_among is_something ask nothing us s a (covering_ranges a (drop from rs))) us vs
  pub reads : ReadsAsked (AsksUntil ask nothing (map value_of_unit us) (covering_ranges a rs)) us vs
  pub functions : ReadsAskedFunctions (AsksUntil ask nothing (map value_of_unit us) (covering_ranges a rs)) us vs
  pub asked : FunctionsAsked ask nothing us (covering_ranges a rs) (covering_ranges a (drop from rs)) vs
  pub kept : PassedAreKept vs a from rs

module _ {A P : Type 0} (is_something : A → Bool) (nothing : A) (ask : KnownUnits → ℕ → AnsweredUnit → A)
    (finds : List AnsweredUnit → List ResolvedUnit → Lookup A → P → Type 0) (refuses : Lookup A → Error → Type 0)
    (ends : EndsSearch is_something nothing finds refuses) (s : List UnitFacts) (a : ℕ) (rs : List UnitRange)
    (us : List ResolvedUnit) where
  abbrev asks : AnsweredUnit → A
  asks = ask (known_among us s) a

  abbrev is_asked : ℕ → Type 0
  is_asked = AsksUntil asks nothing (map value_of_unit us) (covering_ranges a rs)

  abbrev left : ℕ → List UnitRange
  left from = covering_ranges a (drop from rs)

  abbrev whole : Lookup A
  whole = first_asked is_something asks nothing (map value_of_unit us) (covering_ranges a rs)

  abbrev all_probes : ℕ
  all_probes = frame_probes_among is_something asks nothing us s a (covering_ranges a rs)

  pub search_begins : (from : ℕ) → HoldCalls (known_among us s) us → Pass asks nothing (map value_of_unit us) a from rs
      → PassedAreKept us a from rs → Searched is_something asks nothing s a rs us us from
  search_begins from calls passed kept = record {
    values = refl;
    calls = calls;
    passed = passed;
    looks =
        looks_begin_after all_probes (frame_probes_among is_something asks nothing us s a (left from)) us
        (probes_from asks nothing (map value_of_unit us) a rs from passed is_something ends.none
        (frame_probes_at (known_among us s) (map value_of_unit us) a));
    reads = reads_none is_asked us;
    functions = changes_none KeepsFunctionList is_asked us;
    asked = functions_begin asks nothing us (covering_ranges a rs) kept.passed (left from) kept.are_first kept.hold;
    kept = kept;
  }

  module _ (vs : List ResolvedUnit) (from : ℕ) (h : Searched is_something asks nothing s a rs us vs from) where
    pub search_calls : HoldCalls (known_among vs s) vs
    search_calls = calls_same us vs h.values s vs h.calls

    whole_left : whole ≡ first_asked is_something asks nothing (map value_of_unit us) (left from)
    whole_left = asked_from asks nothing (map value_of_unit us) a rs from h.passed is_something ends.none

    -- where no range is left
    pub search_done : left from ≡ []
        → SettlesAmong is_something nothing asks finds refuses (known_among us s) a rs us (Ok Nothing) vs from
    search_done none = record {
      change = record {
        values = h.values;
        calls = h.calls;
        cost = looks_end all_probes (frame_probes_among is_something asks nothing us s a (left from)) us vs h.looks;
        reads = h.reads;
        functions = h.functions;
      };
      found = whole_left ∙ ap (first_asked is_something asks nothing (map value_of_unit us)) none;
      asked = λ answered.
          functions_end asks nothing us (covering_ranges a rs) (left from) vs none h.values h.asked;
      passed = h.passed;
      kept = h.kept;
    }

    -- the unit of the next range
    module _ (n next : ℕ) (comes : ComesNext a from rs n next) (new : List ResolvedUnit)
        (settled : Result (Settled P) Error) (change : SearchesUnit (known_among vs s) a n vs new)
        (found : Settles (finds (map value_of_unit vs) new) refuses nothing
        (ask_at (ask (known_among vs s) a) nothing (map value_of_unit vs) n) settled)
        (kept : settled ≢ refusal P Memory → load_at (map value_of_unit vs) n ≡ None → KeepsFunctionsAt new n) where
      abbrev r : UnitRange
      r = record { range = comes.0; unit = n }

      abbrev here : Lookup A
      here = ask_at asks nothing (map value_of_unit us) n

      found_here : Settles (finds (map value_of_unit us) new) refuses nothing here settled
      found_here =
          let Q : KnownUnits → Type 0 =
          λ known. Settles (finds (map value_of_unit vs) new) refuses nothing
          (ask_at (ask known a) nothing (map value_of_unit vs) n) settled in
          let R : List AnsweredUnit → Type 0 =
          λ xs. Settles (finds xs new) refuses nothing (ask_at asks nothing xs n) settled in
          subst R h.values (subst Q (known_same us vs h.values s) found)

      same_values : map value_of_unit new ≡ map value_of_unit us
      same_values = change.values ∙ h.values

      hold_calls : HoldCalls (known_among us s) new
      hold_calls = calls_back us vs h.values s new change.calls

      asks_here : is_asked n
      asks_here = asked_next asks nothing (map value_of_unit us) a rs from h.passed n next comes

      reads_asked : ReadsAsked is_asked us new
      reads_asked = reads_both is_asked us vs new n asks_here h.reads change.reads

      reads_functions : ReadsAskedFunctions is_asked us new
      reads_functions = changes_both KeepsFunctionList is_asked us vs new n asks_here h.functions change.functions

      -- where it has nothing
      pub search_goes_on : true ≡ found_nothing settled → Searched is_something asks nothing s a rs us new next
      search_goes_on none =
          let answered = nothing_answers P settled none in
          let knows =
          nothing_is is_something nothing finds refuses ends (map value_of_unit us) new here settled none found_here in
          record {
            values = same_values;
            calls = hold_calls;
            passed = pass_next asks nothing (map value_of_unit us) a rs from h.passed n next comes knows;
            looks =
                frames_further us vs h.values a all_probes r (left from) (left next) comes.1 new is_something asks
                nothing s h.looks change.cost (ap (ends_search is_something) knows ∙ ends.none);
            reads = reads_asked;
            functions = reads_functions;
            asked =
                functions_next asks nothing us (covering_ranges a rs) vs new r (left from) (left next) comes.1 h.values
                change.cost.functions (kept answered) h.asked;
            kept =
                kept_next a rs vs new from n next change.cost.functions h.kept comes
                (functions_here asks nothing us (covering_ranges a rs) vs new r h.values knows (kept answered));
          }

      -- where it ends the search
      pub search_ends : false ≡ found_nothing settled
          → SettlesAmong is_something nothing asks finds refuses (known_among us s) a rs us settled new from
      search_ends ended = record {
        change = record {
          values = same_values;
          calls = hold_calls;
          cost =
              frames_stop us vs h.values a all_probes r (left from) (left next) comes.1 new is_something asks nothing s
              h.looks change.cost;
          reads = reads_asked;
          functions = reads_functions;
        };
        found =
            end_is is_something nothing finds refuses ends (map value_of_unit us) new here whole
            (λ waits.
            let first =
            first_waits is_something asks nothing (map value_of_unit us) r (left from) (left next) comes.1 waits in
            (first.0, whole_left ∙ first.1))
            (λ x answers some.
            whole_left
            ∙ first_answers is_something asks nothing (map value_of_unit us) r (left from) (left next) comes.1 x answers
            some)
            settled ended found_here;
        asked = λ answered.
            functions_last asks nothing us (covering_ranges a rs) vs new r (left from) (left next) comes.1 h.values
            change.cost.functions (kept answered) h.asked
            (end_knows is_something nothing finds refuses ends (map value_of_unit us) new here settled ended answered
            found_here)
            same_values;
        passed = h.passed;
        kept = kept_still a rs vs new from change.cost.functions h.kept;
      }
