-- The declaration of a code, found while its table is checked.
use Rattle.std.proofs.Common.{◌≡◌, ℕ, suc, ◌+◌, ◌-◌, ◌<◌, ◌≤◌, Bool, true, false, cond, eqb, List, [], ◌∷◌, ◌++◌, length, Option, Some, None, Result, Ok, Err, refl, sym, ap, subst, ◌∙◌, inl, inr, arith, append_assoc, append-nil, length-append}
use Rattle.std.specs.Prelude.{IfSome}
use Rattle.std.specs.List.{slice_get}
use Rattle.std.specs.Result.{IsErrAnd}
use Rattle.std.proofs.lemmas.Bool.{cases_lt, ne_eqb, eq-eqb}
use Rattle.gimli_core_readers.specs.Error.{Error}
use Rattle.gimli_core_readers.specs.View.{View, bytes_left}
use Rattle.gimli_core_readers.specs.Parsers.{value_of, map_value}
use Rattle.gimli_core_readers.specs.Repetition.{Listing, prepend, listing_in, next_item}
use Rattle.gimli_core_readers.specs.Calls.{ReturnsAsOrNoMemory}
use Rattle.gimli_core_readers.proofs.StepParts.{value_of-Ok}
use Rattle.gimli_core_readers.proofs.Listings.{item_smaller, listing_next, listing_end}
use Rattle.gimli_core_readers.specs.Results.{refusal_of}
use Rattle.gimli_core_abbrev.specs.Declarations.{Declaration, declaration_at}
use Rattle.gimli_core_abbrev.specs.TableParsing.{declaration, table}
use Rattle.gimli_core_abbrev.specs.declared.checks.Skipped.{Skipped}
use Rattle.gimli_core_abbrev.specs.declared.checks.Skipped.TheVariants.{Ended, Counted, Unordered}
use Rattle.gimli_core_abbrev.specs.declared.checks.CodePlace.{CodePlace}
use Rattle.gimli_core_abbrev.specs.declared.checks.CodePlace.TheVariants.{Here}
use Rattle.gimli_core_abbrev.specs.TableChecks.{find_declaration, IsInOrder, IsRun, SkipsInOrder, SeeksInOrder}
use Rattle.gimli_core_abbrev.proofs.DeclarationSizes.{declarations-shrink}
use Rattle.gimli_core_abbrev.proofs.SkippedDeclarations.{code_of, skipped_some}
use Rattle.gimli_core_abbrev.proofs.TableCollection.{found_by_code}
use Rattle.gimli_core_abbrev.proofs.RisingCodes.{below_all, table-rises}
use Rattle.gimli_core_abbrev.proofs.RunsInOrder.{FromCode, item-before, item-after, later, once_in_order, run-more, run_ends, run_refused, ends_without_bytes, not_in_order}

-- ---- lists

absent_above : (first : ℕ) (ds : List Declaration) (code : ℕ) → FromCode first ds → first + length ds < code
    → declaration_at code ds ≡ None
absent_above first [] code h above = refl
absent_above first (d ∷ ds) code h above =
    let is = h 0 d refl in
    rw (ne_eqb d.code code (λ e. omega (arith, e, is, above)))
    (absent_above (suc first) ds code (later first d ds h) (omega (arith, above)))

found_after : (ds more : List Declaration) (d : Declaration) (code : ℕ) → declaration_at code ds ≡ None
    → d.code ≡ code → declaration_at code ((ds ++ d ∷ []) ++ more) ≡ Some d
found_after [] more d code none is = rw (eq-eqb d.code code is) refl
found_after (x ∷ ds) more d code none is = by_test (eqb x.code code) none (λ e. found_after ds more d code e is)
  where
    by_test : (b : Bool) → cond b (Some x) (declaration_at code ds) ≡ None
        → (declaration_at code ds ≡ None → declaration_at code ((ds ++ d ∷ []) ++ more) ≡ Some d)
        → cond b (Some x) (declaration_at code ((ds ++ d ∷ []) ++ more)) ≡ Some d
    by_test true e k = absurd cc
    by_test false e k = k e

in_order-join : (ds more : List Declaration) (code : ℕ) → FromCode 0 ds → length ds ≡ code → FromCode code more
    → FromCode 0 (ds ++ more)
in_order-join ds more code h is k place x e = elim (cases_lt place (length ds)) [
  | inl lt ↦ h place x (sym (item-before ds more place lt) ∙ e)
  | inr le ↦
      let p : place ≡ length ds + (place - length ds) = omega (arith, le) in
      let code_is = k (place - length ds) x
      (sym (item-after ds more (place - length ds)) ∙ ap (slice_get (ds ++ more)) (sym p) ∙ e) in
      omega (arith, code_is, is, le)
]

-- two runs, one after the other
abbrev run_join : (count : ℕ) (v b u : View) (run : IsRun 0 v b) → length run.declarations ≡ count → IsRun count b u
    → IsRun 0 v u
run_join count v b u run is next = record {
  declarations = run.declarations ++ next.declarations;
  listing =
      ap (λ (ds : List Declaration). record {
        items = ds;
        ending = (listing_in bytes_left declaration u).ending;
      }) (append_assoc run.declarations next.declarations (listing_in bytes_left declaration u).items)
      ∙ ap (prepend run.declarations) next.listing ∙ run.listing;
  in_order = in_order-join run.declarations next.declarations count run.in_order is next.in_order;
  sizes =
      let both = length-append run.declarations next.declarations in
      let first = run.sizes in
      let second = next.sizes in
      omega (arith, both, first, second);
}

-- ---- what is found

abbrev find : ℕ → Result (List Declaration × View) Error → Result (Option Declaration) Error
find code read = find_declaration code (value_of read)

abbrev found : Option Declaration → Result (Option Declaration) Error
found o = Ok o

abbrev refusal : Error → Result (Option Declaration) Error
refusal e = Err e

pub find_refused : (v u : View) (run : IsRun 0 v u) (code : ℕ) (e : Error) → declaration u ≡ Err e
    → find_declaration code (value_of (table v)) ≡ Err e
find_refused v u run code e fault = ap (find code) (run_refused v u e run fault)

pub find_none : (v u w : View) (run : IsRun 0 v u) (code : ℕ) → length run.declarations < code
    → declaration u ≡ Ok (None, w) → find_declaration code (value_of (table v)) ≡ Ok None
find_none v u w run code above end =
    ap (find code) (run_ends v u w run end)
    ∙ ap found (found_by_code code run.declarations (once_in_order 0 run.declarations run.in_order)
    ∙ absent_above 0 run.declarations code run.in_order (omega (arith, above)))

-- no table has the code 0
pub find-0 : (v : View) (x : Unit {0}) → refusal_of (value_of (table v)) ≡ Ok x
    → find_declaration 0 (value_of (table v)) ≡ Ok None
find-0 v x read = by_result (value_of (table v)) refl read
  where
    by_result : (r : Result (List Declaration) Error) → value_of (table v) ≡ r → refusal_of r ≡ Ok x
        → find_declaration 0 r ≡ Ok None
    by_result (Err e) is h = absurd cc
    by_result (Ok ds) is h =
        let made = value_of-Ok (table v) ds is in
        ap found (below_all 0 0 ds (table-rises v ds made.0 made.1) (omega arith))

-- ---- a declaration and those around it

-- Between two views are the declarations whose codes come before one.
abbrev pub RunBefore : ℕ → View → View → Type 0
RunBefore code v b = (run : IsRun 0 v b) × (length run.declarations + 1 ≡ code)

-- After those between v and b comes the declaration of a code, and then t.
pub record IsAt (code : ℕ) (v b t : View) : Type 0 where
  pub run : IsRun 0 v b
  pub count : length run.declarations + 1 ≡ code
  pub here : Declaration
  pub item : declaration b ≡ Ok (Some here, t)
  pub is : here.code ≡ code

pub run_before : (code : ℕ) (v w b : View) (s : Skipped) → 0 < code → s ≡ Counted
    → SkipsInOrder 0 (code - 1) (Ok s) v w → b ≡ w → RunBefore code v b
run_before code v w b s above is skips same =
    let h = subst (λ (x : Skipped). SkipsInOrder 0 (code - 1) (Ok x) v w) is skips in
    subst (RunBefore code v) (sym same) (h.0, omega (arith, h.1, above))

pub is_at : (code : ℕ) (v b t : View) (next : ℕ) → RunBefore code v b
    → map_value code_of declaration b ≡ Ok (Some next, t) → next ≡ code → IsAt code v b t
is_at code v b t next before skipped same =
    let read = skipped_some b t next skipped in
    record { run = before.0; count = before.1; here = read.0; item = read.1; is = read.2 ∙ same }

-- those up to it, and it
abbrev up_to : (code : ℕ) (v b t : View) → IsAt code v b t → IsRun 0 v t
up_to code v b t at =
    let is = at.is in
    let count = at.count in
    run-more 0 v b t at.run at.here at.item (omega (arith, is, count))

up_to-count : (code : ℕ) (v b t : View) (at : IsAt code v b t) → length (up_to code v b t at).declarations ≡ code
up_to-count code v b t at =
    let count = at.count in
    omega (arith, length-append at.run.declarations (at.here ∷ []), count)

-- and those after it
abbrev through : (code : ℕ) (v b t u : View) → IsAt code v b t → IsRun code t u → IsRun 0 v u
through code v b t u at next = run_join code v t u (up_to code v b t at) (up_to-count code v b t at) next

at_found : (code : ℕ) (v b t u x : View) (at : IsAt code v b t) → IsRun code t u → declaration u ≡ Ok (None, x)
    → find_declaration code (value_of (table v)) ≡ Ok (Some at.here)
at_found code v b t u x at next end =
    let run = through code v b t u at next in
    let count = at.count in
    ap (find code) (run_ends v u x run end)
    ∙ ap found (found_by_code code run.declarations (once_in_order 0 run.declarations run.in_order)
    ∙ found_after at.run.declarations next.declarations at.here code
    (absent_above 0 at.run.declarations code at.run.in_order (omega (arith, count))) at.is)

-- each declaration takes a byte at least
pub at_within : (code : ℕ) (v b t : View) → IsAt code v b t → code ≤ bytes_left v
at_within code v b t at =
    let count = at.count in
    let sizes = at.run.sizes in
    let smaller = item_smaller declarations-shrink b at.here t at.item in
    omega (arith, count, sizes, smaller)

-- ---- what a search for the declaration of a code answers

pub seeks_refused : (code : ℕ) (v w : View) (r : Result CodePlace Error) (d : Error) → IsErrAnd r (λ e. e ≡ d)
    → find_declaration code (value_of (table v)) ≡ Err d → SeeksInOrder code r v w
seeks_refused code v w (Ok x) d h k = absurd h
seeks_refused code v w (Err e) d h k = k ∙ ap refusal (sym h)

pub seeks_nowhere : (code : ℕ) (v w : View) (s : Skipped) → 0 < code → s ≡ Ended → SkipsInOrder 0 (code - 1) (Ok s) v w
    → find_declaration code (value_of (table v)) ≡ Ok None
seeks_nowhere code v w s above is skips =
    let h = subst (λ (x : Skipped). SkipsInOrder 0 (code - 1) (Ok x) v w) is skips in
    find_none v h.0 w h.1 code (omega (arith, h.2, above)) h.3

-- the declarations after that of the code
pub after_refused : (code limit : ℕ) (v b t x : View) (e : Error) → IsAt code v b t
    → SkipsInOrder code limit (Err e) t x → find_declaration code (value_of (table v)) ≡ Err e
after_refused code limit v b t x e at h = find_refused v h.0 (through code v b t h.0 at h.1) code e h.2

pub after_ended : (code limit : ℕ) (v w b t x : View) (s : Skipped) → IsAt code v b t → b ≡ w → s ≡ Ended
    → SkipsInOrder code limit (Ok s) t x → SeeksInOrder code (Ok Here) v w
after_ended code limit v w b t x s at same is skips =
    let h = subst (λ (y : Skipped). SkipsInOrder code limit (Ok y) t x) is skips in
    (at.here, t, ap declaration (sym same) ∙ at.item, at_found code v b t h.0 x at h.1 h.3)

pub after_counted : (code limit : ℕ) (v w b t x : View) (s : Skipped) → IsAt code v b t → b ≡ w → s ≡ Counted
    → limit ≡ bytes_left v → SkipsInOrder code limit (Ok s) t x → SeeksInOrder code (Ok Here) v w
after_counted code limit v w b t x s at same is all skips =
    let h = subst (λ (y : Skipped). SkipsInOrder code limit (Ok y) t x) is skips in
    let sizes = (through code v b t x at h.0).sizes in
    let both = length-append (up_to code v b t at).declarations h.0.declarations in
    let count = up_to-count code v b t at in
    let none : bytes_left x ≡ 0 = omega (arith, sizes, both, count, h.1, all) in
    (at.here, t, ap declaration (sym same) ∙ at.item, at_found code v b t x x at h.0 (ends_without_bytes x none))

pub after_unordered : (code limit : ℕ) (v b t x : View) (s : Skipped) → IsAt code v b t → s ≡ Unordered
    → SkipsInOrder code limit (Ok s) t x → IsInOrder (listing_in bytes_left declaration v).items → ⊥
after_unordered code limit v b t x s at is skips ordered =
    let h = subst (λ (y : Skipped). SkipsInOrder code limit (Ok y) t x) is skips in
    let both = length-append (up_to code v b t at).declarations h.1.declarations in
    let count = up_to-count code v b t at in
    let ne = h.4 in
    not_in_order v h.0 x (through code v b t h.0 at h.1) h.2 h.3 (λ e. ne (omega (arith, e, both, count))) ordered

-- ---- a declaration that is read after its table was skipped

-- the declarations of a run up to the end
run_items : (first : ℕ) (v u w : View) (run : IsRun first v u) → declaration u ≡ Ok (None, w)
    → listing_in bytes_left declaration v ≡ record { items = run.declarations; ending = Ok w }
run_items first v u w run end =
    sym run.listing
    ∙ ap (λ (l : Listing View Declaration). prepend run.declarations l) (listing_end declarations-shrink u w end)
    ∙ ap (λ (ds : List Declaration). record { items = ds; ending = Ok w }) (append-nil run.declarations)

-- what is read where a run begins is its first declaration
run_begins : (first : ℕ) (v u w t : View) (run : IsRun first v u) (d : Declaration) → declaration u ≡ Ok (None, w)
    → declaration v ≡ Ok (Some d, t) → d ∷ (listing_in bytes_left declaration t).items ≡ run.declarations
run_begins first v u w t run d end item =
    let all = listing_in bytes_left declaration in
    ap (λ (l : Listing View Declaration). l.items)
    (ap (λ (r : Result (Option Declaration × View) Error). next_item r all) (sym item)
    ∙ sym (listing_next declarations-shrink v) ∙ run_items first v u w run end)

-- the declaration of a code, and that it is found
abbrev pub IsFound : ℕ → View → Declaration → Type 0
IsFound code v d = (d.code ≡ code) × (find_declaration code (value_of (table v)) ≡ Ok (Some d))

found_between : (code : ℕ) (v b u w t : View) (run : IsRun 0 v b) (next : IsRun (code - 1) b u) (d : Declaration)
    → 0 < code → length run.declarations ≡ code - 1 → declaration u ≡ Ok (None, w) → declaration b ≡ Ok (Some d, t)
    → IsFound code v d
found_between code v b u w t run next d above count end item =
    let more = (listing_in bytes_left declaration t).items in
    let items : d ∷ more ≡ next.declarations = run_begins (code - 1) b u w t next d end item in
    let first = next.in_order 0 d (ap (λ (ds : List Declaration). slice_get ds 0) (sym items)) in
    let is : d.code ≡ code = omega (arith, first, above) in
    let whole = run_join (code - 1) v b u run count next in (
      is,
      ap (find code) (run_ends v u w whole end)
          ∙ ap found (found_by_code code whole.declarations (once_in_order 0 whole.declarations whole.in_order)
          ∙ ap (λ (ds : List Declaration). declaration_at code (run.declarations ++ ds)) (sym items)
          ∙ ap (declaration_at code) (sym (append_assoc run.declarations (d ∷ []) more))
          ∙ found_after run.declarations more d code
          (absent_above 0 run.declarations code run.in_order (omega (arith, count, above))) is),
    )

pub found_alone : (code limit : ℕ) (v w b x t : View) (s r : Skipped) (read : Result (Option Declaration) Error)
    (o : Option Declaration) → 0 < code → s ≡ Counted → SkipsInOrder 0 (code - 1) (Ok s) v w → b ≡ w → r ≡ Ended
    → SkipsInOrder (code - 1) limit (Ok r) b x → read ≡ Ok o
    → ReturnsAsOrNoMemory (λ a. (a, t)) read (declaration w) → IfSome o (IsFound code v)
found_alone code limit v w b x t s r read None above counted skips same ended goes was is = tt
found_alone code limit v w b x t s r read (Some d) above counted skips same ended goes was is =
    let h = subst (λ (y : Skipped). SkipsInOrder 0 (code - 1) (Ok y) v w) counted skips in
    let k = subst (λ (y : Skipped). SkipsInOrder (code - 1) limit (Ok y) b x) ended goes in
    found_between code v w k.0 x t h.0 (subst (λ (y : View). IsRun (code - 1) y k.0) same k.1) d above
    (omega (arith, h.1)) k.3 (subst (λ z. ReturnsAsOrNoMemory (λ a. (a, t)) z (declaration w)) was is)
