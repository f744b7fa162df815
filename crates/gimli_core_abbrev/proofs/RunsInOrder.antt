-- Declarations whose codes are in order, and the table that they are of.
use Rattle.std.proofs.Common.{◌≡◌, ◌≢◌, ℕ, zero, suc, ◌+◌, ◌-◌, ◌<◌, false, List, [], ◌∷◌, ◌++◌, length, Some, None, Ok, Err, refl, sym, ap, subst, ◌∙◌, inl, inr, arith, append_assoc, length-append, add-zero}
use Rattle.std.specs.List.{slice_get}
use Rattle.std.proofs.lemmas.Bool.{cases_lt, ne_eqb}
use Rattle.gimli_core_readers.specs.Error.{Error}
use Rattle.gimli_core_readers.specs.View.{View, bytes_left}
use Rattle.gimli_core_readers.specs.Parsers.{value_of}
use Rattle.gimli_core_readers.specs.Repetition.{listing_in}
use Rattle.gimli_core_readers.proofs.Listings.{item_smaller}
use Rattle.gimli_core_readers.specs.Results.{refusal_of}
use Rattle.gimli_core_abbrev.specs.Declarations.{Declaration, has_code, by_code, repeated_after, repeated_code}
use Rattle.gimli_core_abbrev.specs.TableParsing.{coded_declaration, declaration, unless_ended, table}
use Rattle.gimli_core_abbrev.specs.declared.checks.Skipped.{Skipped}
use Rattle.gimli_core_abbrev.specs.declared.checks.Skipped.TheVariants.{Ended, Counted, Unordered}
use Rattle.gimli_core_abbrev.specs.TableChecks.{IsInOrder, IsRun, SkipsInOrder}
use Rattle.gimli_core_abbrev.proofs.DeclarationSizes.{declarations-shrink}
use Rattle.gimli_core_abbrev.proofs.TableCollection.{list_end, list_fault, listing_further, table_is, table_refused}

-- ---- lists

pub item-before : {X : Type 0} (xs ys : List X) (i : ℕ) → i < length xs → slice_get (xs ++ ys) i ≡ slice_get xs i
item-before [] ys i lt = absurd (omega arith)
item-before (x ∷ xs) ys zero lt = refl
item-before (x ∷ xs) ys (suc i) lt = item-before xs ys i (omega arith)

pub item-after : {X : Type 0} (xs ys : List X) (i : ℕ) → slice_get (xs ++ ys) (length xs + i) ≡ slice_get ys i
item-after [] ys i = ap (slice_get ys) (omega arith)
item-after (x ∷ xs) ys i =
    ap (slice_get (x ∷ xs ++ ys)) (let next : suc (length xs) + i ≡ suc (length xs + i) = omega arith in next)
    ∙ item-after xs ys i

-- ---- codes in order

abbrev pub FromCode : ℕ → List Declaration → Type 0
FromCode first ds = (place : ℕ) (d : Declaration) → slice_get ds place ≡ Some d → d.code ≡ first + place + 1

pub later : (first : ℕ) (d : Declaration) (ds : List Declaration) → FromCode first (d ∷ ds) → FromCode (suc first) ds
later first d ds h place x e = let is = h (suc place) x e in omega (arith, is)

abbrev NoneFrom : ℕ → List Declaration → Type 0
NoneFrom first before = (code : ℕ) → first < code → has_code code before ≡ false

none_from : (first : ℕ) (d : Declaration) (before : List Declaration) → d.code ≡ suc first → NoneFrom first before
    → NoneFrom (suc first) (d ∷ before)
none_from first d before is none code above =
    rw (ne_eqb d.code code (λ e. omega (arith, e, is, above))) (none code (omega (arith, above)))

once_after : (first : ℕ) (before ds : List Declaration) → FromCode first ds → NoneFrom first before
    → repeated_after before ds ≡ None
once_after first before [] h none = refl
once_after first before (d ∷ ds) h none =
    let is : d.code ≡ suc first = (let first_is = h 0 d refl in omega (arith, first_is)) in
    rw (none d.code (omega (arith, is)))
    (once_after (suc first) (d ∷ before) ds (later first d ds h) (none_from first d before is none))

pub once_in_order : (first : ℕ) (ds : List Declaration) → FromCode first ds → repeated_code ds ≡ None
once_in_order first ds h = once_after first [] ds h (λ code above. refl)

-- ---- runs

abbrev pub run-none : (first : ℕ) (v : View) → IsRun first v v
run-none first v = record {
  declarations = [];
  listing = refl;
  in_order = λ place d e. absurd cc;
  sizes = omega arith;
}

pub in_order-more : (first : ℕ) (ds : List Declaration) (d : Declaration) → FromCode first ds
    → d.code ≡ first + length ds + 1 → FromCode first (ds ++ d ∷ [])
in_order-more first ds d h is place x e = elim (cases_lt place (length ds)) [
  | inl lt ↦ h place x (sym (item-before ds (d ∷ []) place lt) ∙ e)
  | inr le ↦ last (place - length ds) (omega (arith, le))
]
  where
    last : (i : ℕ) → place ≡ length ds + i → x.code ≡ first + place + 1
    last zero p =
        let there : Some d ≡ Some x =
        sym (item-after ds (d ∷ []) 0) ∙ ap (slice_get (ds ++ d ∷ [])) (sym p) ∙ e in
        let same : d ≡ x = cc in
        let code_is = ap (λ (y : Declaration). y.code) same in
        omega (arith, code_is, is, p)
    last (suc i) p =
        let there : None ≡ Some x =
        sym (item-after ds (d ∷ []) (suc i)) ∙ ap (slice_get (ds ++ d ∷ [])) (sym p) ∙ e in absurd cc

abbrev pub run-more : (first : ℕ) (v w u : View) (run : IsRun first v w) (d : Declaration)
    → declaration w ≡ Ok (Some d, u) → d.code ≡ first + length run.declarations + 1 → IsRun first v u
run-more first v w u run d item is = record {
  declarations = run.declarations ++ d ∷ [];
  listing = listing_further run.declarations d v w u run.listing item;
  in_order = in_order-more first run.declarations d run.in_order is;
  sizes =
      let longer = length-append run.declarations (d ∷ []) in
      let smaller = item_smaller declarations-shrink w d u item in
      let was = run.sizes in omega (arith, longer, smaller, was);
}

-- ---- the table

pub run_ends : (v u w : View) (run : IsRun 0 v u) → declaration u ≡ Ok (None, w)
    → table v ≡ Ok (by_code run.declarations, w)
run_ends v u w run end =
    table_is v w run.declarations
    (list_end run.declarations v u w run.listing (once_in_order 0 run.declarations run.in_order) end)

pub run_refused : (v u : View) (e : Error) (run : IsRun 0 v u) → declaration u ≡ Err e → table v ≡ Err e
run_refused v u e run fault =
    table_refused v e
    (list_fault run.declarations v u e run.listing (once_in_order 0 run.declarations run.in_order) fault)

no_bytes : (bytes : List ℕ) → length bytes ≡ 0 → bytes ≡ []
no_bytes [] e = refl
no_bytes (b ∷ bytes) e = absurd (omega (arith, e))

pub ends_without_bytes : (v : View) → bytes_left v ≡ 0 → declaration v ≡ Ok (None, v)
unfolding declaration
ends_without_bytes v e = ap (λ (bytes : List ℕ). unless_ended bytes coded_declaration v) (no_bytes v.bytes e)

-- the listing goes on with one whose code isn't the next, so the codes aren't in order
pub not_in_order : (v u w : View) (run : IsRun 0 v u) (d : Declaration) → declaration u ≡ Ok (Some d, w)
    → d.code ≢ 0 + length run.declarations + 1 → IsInOrder (listing_in bytes_left declaration v).items → ⊥
not_in_order v u w run d item ne ordered =
    let rest = listing_in bytes_left declaration w in
    let items : (run.declarations ++ d ∷ []) ++ rest.items ≡ (listing_in bytes_left declaration v).items =
    ap (λ l. l.items) (listing_further run.declarations d v u w run.listing item) in
    let there : slice_get (listing_in bytes_left declaration v).items (length run.declarations) ≡ Some d =
    ap (λ (ds : List Declaration). slice_get ds (length run.declarations))
    (sym items ∙ append_assoc run.declarations (d ∷ []) rest.items)
    ∙ ap (slice_get (run.declarations ++ d ∷ rest.items)) (sym (add-zero (length run.declarations)))
    ∙ item-after run.declarations (d ∷ rest.items) 0 in
    let is = ordered (length run.declarations) d there in
    ne (omega (arith, is))

-- ---- what a check answers

pub checked_ended : (limit : ℕ) (v w : View) (s : Skipped) → s ≡ Ended → SkipsInOrder 0 limit (Ok s) v w
    → refusal_of (value_of (table v)) ≡ Ok tt
checked_ended limit v w s is skips =
    let h = subst (λ (x : Skipped). SkipsInOrder 0 limit (Ok x) v w) is skips in
    ap (λ r. refusal_of (value_of r)) (run_ends v h.0 w h.1 h.3)

pub checked_counted : (limit : ℕ) (v w : View) (s : Skipped) → s ≡ Counted → limit ≡ bytes_left v
    → SkipsInOrder 0 limit (Ok s) v w → refusal_of (value_of (table v)) ≡ Ok tt
checked_counted limit v w s is all skips =
    let h = subst (λ (x : Skipped). SkipsInOrder 0 limit (Ok x) v w) is skips in
    let sizes = h.0.sizes in
    let none : bytes_left w ≡ 0 = omega (arith, sizes, h.1, all) in
    ap (λ r. refusal_of (value_of r)) (run_ends v w w h.0 (ends_without_bytes w none))

pub checked_refused : (limit : ℕ) (v w : View) (e : Error) → SkipsInOrder 0 limit (Err e) v w
    → refusal_of (value_of (table v)) ≡ Err e
checked_refused limit v w e h = ap (λ r. refusal_of (value_of r)) (run_refused v h.0 e h.1 h.2)

pub checked_unordered : (limit : ℕ) (v w : View) (s : Skipped) → s ≡ Unordered → SkipsInOrder 0 limit (Ok s) v w
    → IsInOrder (listing_in bytes_left declaration v).items → ⊥
checked_unordered limit v w s is skips ordered =
    let h = subst (λ (x : Skipped). SkipsInOrder 0 limit (Ok x) v w) is skips in
    not_in_order v h.0 w h.1 h.2 h.3 h.4 ordered
