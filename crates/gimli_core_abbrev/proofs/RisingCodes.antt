-- The codes of a table rise from above 0.
use Rattle.std.proofs.Common.{◌≡◌, ℕ, zero, suc, ◌<◌, ◌≤◌, Bool, ◌||◌, eqb, List, [], ◌∷◌, ◌++◌, Option, Some, None, is_some, Result, Ok, Err, refl, ap, subst, ◌∙◌, inl, inr, arith}
use Rattle.std.proofs.lemmas.Bool.{cases_lt, ne_eqb, eqb-false, lt-ltb, le-ltb}
use Rattle.gimli_core_readers.specs.Error.{Error}
use Rattle.gimli_core_readers.specs.View.{View, bytes_left}
use Rattle.gimli_core_readers.specs.Parsers.{proceed, give, skip, ◌>>◌}
use Rattle.gimli_core_readers.specs.Repetition.{Listing, items_within, listing_in, next_item, item_or_end, whole_of}
use Rattle.gimli_core_readers.proofs.StepParts.{begins, value_of-Ok, value_is, read}
use Rattle.gimli_core_abbrev.specs.Declarations.{Declaration, declaration_at, has_code, put, put_all, by_code, repeated_after, repeated_code}
use Rattle.gimli_core_abbrev.specs.TableParsing.{declaration, distinct, table_of, table, table_at}
use Rattle.gimli_core_abbrev.proofs.TableCollection.{has_code-put, none_there, none_later, declaration-coded}

-- the codes rise from above n
abbrev pub Rise : ℕ → List Declaration → Type 0
Rise n [] = Unit {0}
Rise n (d ∷ ds) = (n < d.code) × Rise d.code ds

-- none of the codes is 0
abbrev pub NoneIsZero : List Declaration → Type 0
NoneIsZero [] = Unit {0}
NoneIsZero (d ∷ ds) = (0 < d.code) × NoneIsZero ds

-- ---- what is put among those that rise

Rise-put : (n : ℕ) (d : Declaration) (ds : List Declaration) → Rise n ds → n < d.code → declaration_at d.code ds ≡ None
    → Rise n (put d ds)
Rise-put n d [] rises above absent = (above, tt)
Rise-put n d (e ∷ ds) rises above absent =
    let other = none_later (eqb e.code d.code) e (declaration_at d.code ds) absent in
    elim (cases_lt d.code e.code) [
      | inl less ↦ rw (lt-ltb d.code e.code less) (above, (less, rises.1))
      | inr le ↦
          let more : e.code < d.code = omega (arith, le, eqb-false e.code d.code other.0) in
          rw (le-ltb d.code e.code le) (rises.0, Rise-put e.code d ds rises.1 more other.1)
    ]

Rise-put_all : (before so_far ds : List Declaration)
    → ((code : ℕ) → is_some (declaration_at code so_far) ≡ has_code code before) → Rise 0 so_far → NoneIsZero ds
    → repeated_after before ds ≡ None → Rise 0 (put_all so_far ds)
Rise-put_all before so_far [] same rises counted once = rises
Rise-put_all before so_far (d ∷ ds) same rises counted once =
    let here = none_later (has_code d.code before) d.code (repeated_after (d ∷ before) ds) once in
    let absent : declaration_at d.code so_far ≡ None =
    none_there (declaration_at d.code so_far) (same d.code ∙ here.0) in
    Rise-put_all (d ∷ before) (put d so_far) ds
    (λ code. has_code-put code d so_far ∙ ap (λ (b : Bool). eqb d.code code || b) (same code))
    (Rise-put 0 d so_far rises counted.0 absent) counted.1 here.1

-- ---- what is listed

NoneIsZero-listed : (k : ℕ) (v : View) → NoneIsZero (items_within k declaration v).items
unfolding items_within
NoneIsZero-listed zero v = tt
NoneIsZero-listed (suc k) v = by_step (declaration v) refl (λ t. NoneIsZero-listed k t)
  where
    by_step : (r : Result (Option Declaration × View) Error) → declaration v ≡ r
        → ((t : View) → NoneIsZero (items_within k declaration t).items)
        → NoneIsZero (next_item r (items_within k declaration)).items
    by_step (Err e) is rest = tt
    by_step (Ok r) is rest = by_item r.0
        (λ d e. declaration-coded v d r.1 (is ∙ ap (λ (o : Option Declaration). read o r.1) e))
      where
        by_item : (o : Option Declaration) → ((d : Declaration) → o ≡ Some d → 0 < d.code)
            → NoneIsZero (item_or_end o r.1 (items_within k declaration)).items
        by_item None counts = tt
        by_item (Some d) counts = (counts d refl, rest r.1)

none_is_zero : (v : View) → NoneIsZero (listing_in bytes_left declaration v).items
unfolding listing_in
none_is_zero v = NoneIsZero-listed (suc (bytes_left v)) v

-- ---- the table

table_of-rises : (l : Listing View Declaration) (ds : List Declaration) (u : View) → NoneIsZero l.items
    → table_of l ≡ Ok (ds, u) → Rise 0 ds
table_of-rises l ds u counted made = cases (repeated_code l.items) l.ending refl made
  where
    cases : (o : Option ℕ) (r : Result View Error) → repeated_code l.items ≡ o
        → distinct o (proceed (whole_of l.items r) (λ xs. give (by_code xs))) ≡ Ok (ds, u) → Rise 0 ds
    cases (Some code) r e h = absurd cc
    cases None (Err d) e h = absurd cc
    cases None (Ok w) e h = subst (λ (xs : List Declaration). Rise 0 xs) (value_is (by_code l.items) ds w u h)
        (Rise-put_all [] [] l.items (λ code. refl) tt counted e)

pub table-rises : (v : View) (ds : List Declaration) (u : View) → table v ≡ Ok (ds, u) → Rise 0 ds
unfolding table
table-rises v ds u made = table_of-rises (listing_in bytes_left declaration v) ds u (none_is_zero v) made

pub table_at-rises : (offset : ℕ) (section : View) (ds : List Declaration) → table_at offset section ≡ Ok ds → Rise 0 ds
table_at-rises offset section ds made =
    let read = value_of-Ok ((skip offset >> table) section) ds made in
    let begun = begins (skip offset section) (λ _. table) ds read.0 read.1 in
    table-rises begun.1 ds read.0 begun.3

-- ---- what that says

pub below_all : (n code : ℕ) (ds : List Declaration) → Rise n ds → code ≤ n → declaration_at code ds ≡ None
below_all n code [] rises le = refl
below_all n code (d ∷ ds) rises le =
    rw (ne_eqb d.code code (λ e. omega (arith, e, le, rises.0)))
    (below_all d.code code ds rises.1 (omega (arith, le, rises.0)))

Rise-parts : (n : ℕ) (before after : List Declaration) (d : Declaration) → Rise n (before ++ d ∷ after)
    → (declaration_at d.code before ≡ None) × Rise d.code after × (n < d.code)
Rise-parts n [] after d rises = (refl, rises.1, rises.0)
Rise-parts n (e ∷ before) after d rises =
    let rest = Rise-parts e.code before after d rises.1 in
    (rw (ne_eqb e.code d.code (λ is. omega (arith, is, rest.2))) rest.0, rest.1, omega (arith, rises.0, rest.2))

pub no_code_0 : (offset : ℕ) (section : View) (ds : List Declaration) → table_at offset section ≡ Ok ds
    → declaration_at 0 ds ≡ None
no_code_0 offset section ds made = below_all 0 0 ds (table_at-rises offset section ds made) (omega arith)

pub codes_occur_once : (offset : ℕ) (section : View) (before after : List Declaration) (d : Declaration)
    → table_at offset section ≡ Ok (before ++ d ∷ after) → (declaration_at d.code before ≡ None)
    × (declaration_at d.code after ≡ None)
codes_occur_once offset section before after d made =
    let parts = Rise-parts 0 before after d (table_at-rises offset section (before ++ d ∷ after) made) in
    (parts.0, below_all d.code d.code after parts.1 (omega arith))
