-- A tail of a list that was read is the list of the table that begins there.
use Rattle.std.proofs.Common.{◌≡◌, ◌≢◌, ℕ, zero, suc, ◌+◌, ◌≤◌, Bool, true, false, cond, ltb, List, [], ◌∷◌, length, drop, Option, Some, None, Result, Ok, Err, refl, sym, ap, subst, ◌∙◌, arith}
use Rattle.std.specs.Prelude.{MatchResult}
use Rattle.std.specs.Result.{IsErrAnd}
use Rattle.std.proofs.lemmas.Bool.{le-ltb, ltb-false}
use Rattle.gimli_core_readers.specs.Error.TheVariants.{Memory}
use Rattle.gimli_core_readers.specs.Error.{Error}
use Rattle.gimli_core_readers.specs.View.{View, bytes_left, after, unexpected_end}
use Rattle.gimli_core_readers.specs.Parsers.{proceed, give, skip, value_of}
use Rattle.gimli_core_readers.specs.Repetition.{Listing, prepend, next_item, listing_in, whole_of}
use Rattle.gimli_core_readers.proofs.StepParts.{value_is, state_is}
use Rattle.gimli_core_readers.proofs.Listings.{listing_next}
use Rattle.gimli_core_abbrev.specs.Declarations.{Declaration, by_code, repeated_code}
use Rattle.gimli_core_abbrev.specs.TableParsing.{declaration, distinct, table, table_at}
use Rattle.gimli_core_abbrev.specs.TableLayout.{declaration_list, IsListOf, IsListAt}
use Rattle.gimli_core_abbrev.proofs.DeclarationSizes.{declarations-shrink}
use Rattle.gimli_core_abbrev.proofs.DeclarationPlaces.{once_from}
use Rattle.gimli_core_abbrev.proofs.DeclarationMoves.{IsPart-IsPart, declaration_leaves}
use Rattle.gimli_core_abbrev.proofs.TableCollection.{table_refused}

abbrev all : View → Listing View Declaration
all v = listing_in bytes_left declaration v

-- ---- the table at an offset

abbrev table_after : Result (Unit {0} × View) Error → Result (List Declaration) Error
table_after r = value_of (proceed r (λ _. table))

abbrev ok_skip : View → Result (Unit {0} × View) Error
ok_skip v = Ok (tt, v)

skip_is : (place : ℕ) (section : View) → place ≤ bytes_left section → skip place section ≡ ok_skip (after place section)
skip_is place section h =
    ap (λ (b : Bool). cond b (Err (unexpected_end section)) (ok_skip (after place section)))
    (le-ltb (length section.bytes) place h)

table_at-is : (place : ℕ) (section : View) → place ≤ bytes_left section
    → table_at place section ≡ value_of (table (after place section))
table_at-is place section h = ap table_after (skip_is place section h)

-- what a skip that went well says
record Skips (place : ℕ) (section v : View) : Type 0 where
  inside : place ≤ bytes_left section
  is_there : v ≡ after place section

skips : (place : ℕ) (section v : View) → skip place section ≡ ok_skip v → Skips place section v
skips place section v e = by_test (ltb (length section.bytes) place) refl e
  where
    by_test : (b : Bool) → ltb (length section.bytes) place ≡ b
        → cond b (Err (unexpected_end section)) (ok_skip (after place section)) ≡ ok_skip v → Skips place section v
    by_test true t h = absurd cc
    by_test false t h = record { inside = ltb-false _ _ t; is_there = sym (state_is tt tt (after place section) v h) }

pub list_refused : (place : ℕ) (section v : View) (e : Error) → skip place section ≡ Ok (tt, v)
    → declaration_list v ≡ Err e → table_at place section ≡ Err e
list_refused place section v e there h = ap table_after there ∙ ap value_of (table_refused v e h)

-- ---- a list

-- one that was just read
record Whole (v : View) (ds : List Declaration) : Type 0 where
  once : repeated_code ds ≡ None
  items : (all v).items ≡ ds
  rest : View
  ending : (all v).ending ≡ Ok rest

listed_whole : (v w : View) (ds : List Declaration) → declaration_list v ≡ Ok (ds, w) → Whole v ds
unfolding declaration_list
listed_whole v w ds e = cases (repeated_code (all v).items) (all v).ending refl refl e
  where
    cases : (o : Option ℕ) (r : Result View Error) → repeated_code (all v).items ≡ o → (all v).ending ≡ r
        → distinct o (whole_of (all v).items r) ≡ Ok (ds, w) → Whole v ds
    cases (Some code) r once end h = absurd cc
    cases None (Err d) once end h = absurd cc
    cases None (Ok t) once end h =
        let is : (all v).items ≡ ds = value_is (all v).items ds t w h in
        record { once = ap repeated_code (sym is) ∙ once; items = is; rest = t; ending = end }

pub list_begins : (place : ℕ) (section v w : View) (ds xs : List Declaration) → skip place section ≡ Ok (tt, v)
    → declaration_list v ≡ Ok (ds, w) → xs ≡ ds → IsListAt section place xs 0 v
list_begins place section v w ds xs there read same =
    let s = skips place section v there in
    let whole = listed_whole v w ds read in (
      record {
        once = ap repeated_code same ∙ whole.once;
        place = place;
        inside = s.inside;
        is_there = s.is_there;
        items = whole.items ∙ sym same;
        rest = whole.rest;
        ending = whole.ending;
      },
      s.inside,
      s.is_there,
    )

-- its next declaration
drop-next : (n : ℕ) (ds xs : List Declaration) (d : Declaration) → d ∷ xs ≡ drop n ds → xs ≡ drop (suc n) ds
drop-next zero ds xs d e = ap (λ (ys : List Declaration). drop 1 ys) e
drop-next (suc n) [] xs d e = absurd cc
drop-next (suc n) (y ∷ ds) xs d e = drop-next n ds xs d e

pub list_goes_on : (section v w : View) (ds : List Declaration) (before next : ℕ) (d : Declaration)
    → IsListOf section ds before v → declaration v ≡ Ok (Some d, w) → next ≡ before + 1 → IsListOf section ds next w
list_goes_on section v w ds before next d was read count =
    let part = IsPart-IsPart section v w (record { count = was.place; within = was.inside; rest = was.is_there })
    (declaration_leaves v (Some d) w read) in
    let listing : all v ≡ prepend (d ∷ []) (all w) = listing_next declarations-shrink v
    ∙ ap (λ (r : Result (Option Declaration × View) Error). next_item r all) read in
    let items : d ∷ (all w).items ≡ drop before ds =
    sym (ap (λ (l : Listing View Declaration). l.items) listing) ∙ was.items in
    record {
      once = was.once;
      place = part.count;
      inside = part.within;
      is_there = part.rest;
      items = drop-next before ds (all w).items d items
          ∙ ap (λ (n : ℕ). drop n ds) (let same : suc before ≡ next = omega (arith, count) in same);
      rest = was.rest;
      ending = sym (ap (λ (l : Listing View Declaration). l.ending) listing) ∙ was.ending;
    }

-- the tail is the table's list
table_of_tail : (v w : View) (ds : List Declaration) → repeated_code ds ≡ None → (all v).items ≡ ds
    → (all v).ending ≡ Ok w → table v ≡ Ok (by_code ds, w)
unfolding table
table_of_tail v w ds once items ending =
    ap (λ (xs : List Declaration). distinct (repeated_code xs)
    (proceed (whole_of xs (all v).ending) (λ ys. give (by_code ys))))
    items
    ∙ rw (once, ending) refl

pub list_table : (section v : View) (ds : List Declaration) (before place : ℕ) → IsListAt section place ds before v
    → table_at place section ≡ Ok (by_code (drop before ds))
list_table section v ds before place at =
    let list = at.0 in
    table_at-is place section at.1
    ∙ ap (λ (u : View). value_of (table u)) (sym at.2)
    ∙ ap value_of (table_of_tail v list.rest (drop before ds) (once_from ds list.once before) list.items list.ending)

-- ---- calls

-- a refusal is handed on
pub match_refused : {A B : Type 0} (r : Result A Error) (P : A → Type 0) (wanted : Result B Error) (d : Error)
    → IsErrAnd r (λ e. e ≡ d) → (d ≢ Memory → wanted ≡ Err d) → MatchResult r P (λ e. e ≢ Memory → wanted ≡ Err e)
match_refused (Ok x) P wanted d h k = absurd h
match_refused {A} {B} (Err e) P wanted d h k = λ ne. k (λ is. ne (h ∙ is)) ∙ ap refusal (sym h)
  where
    refusal : Error → Result B Error
    refusal x = Err x

pub match_ok : {A E : Type 0} (r : Result A E) (x : A) (P : A → Type 0) (Q : E → Type 0) → r ≡ Ok x
    → MatchResult r P Q → P x
match_ok (Ok y) x P Q e h = let is : y ≡ x = cc in subst P is h
match_ok (Err y) x P Q e h = absurd cc
