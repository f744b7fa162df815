-- The symbol of an address, among entries by their values.
use Rattle.std.proofs.Common.{◌≡◌, Result, Ok, ℕ, suc, ◌+◌, ◌<◌, Bool, true, false, cond, not, ◌&&◌, List, [], ◌∷◌, get_or, Option, Some, None, filter, refl, ap, sym, ◌∙◌, subst, inl, inr, ltb, arith, rules, tests}
use Rattle.std.specs.List.{find, filter_map, cons_option}
use Rattle.std.specs.List.Sorted.{IsSortedBy, IsStableBy}
use Rattle.std.specs.Option.{is_some, option_and_then}
use Rattle.std.proofs.lemmas.Bool.{cases_lt, lt-ltb, le-ltb, ltb-false}
use Rattle.addr2line_elf.specs.declared.symbol_entries.SymbolEntry.{SymbolEntry}
use Rattle.addr2line_elf.specs.declared.stretch.SymbolStretch.{SymbolStretch}
use Rattle.gimli_core_readers.specs.View.{View}
use Rattle.gimli_core_readers.specs.Results.{◌>>=◌}
use Rattle.addr2line_elf.specs.declared.class.Class.{Class}
use Rattle.addr2line_elf.specs.declared.error.LoadError.{LoadError}
use Rattle.addr2line_elf.specs.ElfSymbols.{NamedSymbol, entries_in, symbols_in, symbol_of, is_defined, named_symbol, as_name, holds, if_holds, first_highest, higher, highest, symbol_at}
use Rattle.addr2line_elf.specs.ElfTexts.{text_at}
use Rattle.addr2line_elf.specs.SymbolStretches.{is_named, AreNamed, IsDivided}
use Rattle.addr2line_elf.specs.SymbolSweeps.{entry_covers, first_value, Falls, AnswersFor}

-- ---- the highest entry that passes a test

-- by their values, the greatest first
abbrev pub comes_before : SymbolEntry → SymbolEntry → Bool
comes_before x y = ltb y.value x.value

abbrev top : SymbolEntry → Option SymbolEntry → Option SymbolEntry
top x None = Some x
top x (Some y) = cond (ltb x.value y.value) (Some y) (Some x)

abbrev best : (SymbolEntry → Bool) → List SymbolEntry → Option SymbolEntry
best p [] = None
best p (x ∷ xs) = cond (p x) (top x (best p xs)) (best p xs)

-- two values are neither below the other
abbrev tie : ℕ → ℕ → Bool
tie v w = not (ltb w v) && not (ltb v w)

tie-same : (v : ℕ) → tie v v ≡ true
tie-same v = search (rules, tests)

tie-above : (v w : ℕ) → w < v → tie v w ≡ false
tie-above v w h = search (rules, tests)

-- the first of a value that passes
abbrev first_of : (SymbolEntry → Bool) → ℕ → List SymbolEntry → Option SymbolEntry
first_of p v xs = find p (filter (λ x. tie v x.value) xs)

first_of-more : (p : SymbolEntry → Bool) (v : ℕ) (x : SymbolEntry) (xs : List SymbolEntry) (b : Bool)
    → tie v x.value ≡ b → first_of p v (x ∷ xs) ≡ cond b (cond (p x) (Some x) (first_of p v xs)) (first_of p v xs)
first_of-more p v x xs b is =
    ap (λ t. find p (cond t (x ∷ filter (λ y. tie v y.value) xs) (filter (λ y. tie v y.value) xs))) is
    ∙ elim b as (λ t. find p (cond t (x ∷ filter (λ y. tie v y.value) xs) (filter (λ y. tie v y.value) xs))
    ≡ cond t (cond (p x) (Some x) (first_of p v xs)) (first_of p v xs)) [ true ↦ refl | false ↦ refl ]

-- an entry is the first of its value, and there is none of a greater value
abbrev IsBest : (ℕ → Option SymbolEntry) → Option SymbolEntry → Type 0
IsBest f None = (y : SymbolEntry) → f y.value ≡ None
IsBest f (Some x) = (f x.value ≡ Some x) × ((y : SymbolEntry) → x.value < y.value → f y.value ≡ None)

best_once : (f g : ℕ → Option SymbolEntry) (o r : Option SymbolEntry) → ((y : SymbolEntry) → f y.value ≡ g y.value)
    → IsBest f o → IsBest g r → o ≡ r
best_once f g None None same h k = refl
best_once f g None (Some y) same h k = let wrong : None ≡ Some y = sym (h y) ∙ same y ∙ k.0 in cc
best_once f g (Some x) None same h k = let wrong : None ≡ Some x = sym (k x) ∙ sym (same x) ∙ h.0 in cc
best_once f g (Some x) (Some y) same h k =
    elim (cases_lt x.value y.value) [
      | inl below ↦ let wrong : None ≡ Some y = sym (h.1 y below) ∙ same y ∙ k.0 in cc
      | inr over ↦ elim (cases_lt y.value x.value) [
        | inl above ↦ let wrong : None ≡ Some x = sym (k.1 x above) ∙ sym (same x) ∙ h.0 in cc
        | inr le ↦
            let level : y.value ≡ x.value = omega arith in
            sym h.0 ∙ same x ∙ ap g (sym level) ∙ k.0
      ]
    ]

-- a further entry that passes, and is of a value
here : (p : SymbolEntry → Bool) (x : SymbolEntry) (xs : List SymbolEntry) → p x ≡ true
    → first_of p x.value (x ∷ xs) ≡ Some x
here p x xs passes =
    first_of-more p x.value x xs true (tie-same x.value) ∙ ap (λ b. cond b (Some x) (first_of p x.value xs)) passes

-- one of a lower value
lower : (p : SymbolEntry → Bool) (v : ℕ) (x : SymbolEntry) (xs : List SymbolEntry) → x.value < v
    → first_of p v (x ∷ xs) ≡ first_of p v xs
lower p v x xs lt = first_of-more p v x xs false (tie-above v x.value lt)

-- one that doesn't pass
passed : (p : SymbolEntry → Bool) (v : ℕ) (x : SymbolEntry) (xs : List SymbolEntry) → p x ≡ false
    → first_of p v (x ∷ xs) ≡ first_of p v xs
passed p v x xs fails =
    first_of-more p v x xs (tie v x.value) refl
    ∙ ap (λ b. cond (tie v x.value) (cond b (Some x) (first_of p v xs)) (first_of p v xs)) fails
    ∙ elim (tie v x.value) as (λ b. cond b (first_of p v xs) (first_of p v xs) ≡ first_of p v xs) [
      | true ↦ refl
      | false ↦ refl
    ]

IsBest-passed : (p : SymbolEntry → Bool) (x : SymbolEntry) (xs : List SymbolEntry) (o : Option SymbolEntry)
    → p x ≡ false → IsBest (λ v. first_of p v xs) o → IsBest (λ v. first_of p v (x ∷ xs)) o
IsBest-passed p x xs None fails h = λ y. passed p y.value x xs fails ∙ h y
IsBest-passed p x xs (Some z) fails h =
    (passed p z.value x xs fails ∙ h.0, λ y lt. passed p y.value x xs fails ∙ h.1 y lt)

IsBest-top : (p : SymbolEntry → Bool) (x : SymbolEntry) (xs : List SymbolEntry) (o : Option SymbolEntry) → p x ≡ true
    → IsBest (λ v. first_of p v xs) o → IsBest (λ v. first_of p v (x ∷ xs)) (top x o)
IsBest-top p x xs None passes h = (here p x xs passes, λ y lt. lower p y.value x xs lt ∙ h y)
IsBest-top p x xs (Some z) passes h =
    elim (cases_lt x.value z.value) [
      | inl below ↦
          subst (IsBest (λ v. first_of p v (x ∷ xs)))
          (sym (ap (λ b. cond b (Some z) (Some x)) (lt-ltb x.value z.value below)))
          (lower p z.value x xs below ∙ h.0, λ y lt. lower p y.value x xs (omega arith) ∙ h.1 y lt)
      | inr over ↦
          subst (IsBest (λ v. first_of p v (x ∷ xs)))
          (sym (ap (λ b. cond b (Some z) (Some x)) (le-ltb x.value z.value over)))
          (here p x xs passes, λ y lt. lower p y.value x xs lt ∙ h.1 y (omega arith))
    ]

IsBest-best : (p : SymbolEntry → Bool) (xs : List SymbolEntry) → IsBest (λ v. first_of p v xs) (best p xs)
IsBest-best p [] = λ y. refl
IsBest-best p (x ∷ xs) =
    elim (p x) as (λ b. p x ≡ b → IsBest (λ v. first_of p v (x ∷ xs)) (cond b (top x (best p xs)) (best p xs))) [
      | true ↦ λ passes. IsBest-top p x xs (best p xs) passes (IsBest-best p xs)
      | false ↦ λ fails. IsBest-passed p x xs (best p xs) fails (IsBest-best p xs)
    ] refl

-- of entries by their values none is above the first
none_above : (p : SymbolEntry → Bool) (v : ℕ) (xs : List SymbolEntry) → Falls xs → first_value xs < v
    → first_of p v xs ≡ None
none_above p v [] h lt = refl
none_above p v (x ∷ xs) h lt = lower p v x xs lt ∙ none_above p v xs h.1 (omega (arith, h.0))

IsBest-find : (p : SymbolEntry → Bool) (xs : List SymbolEntry) → Falls xs → IsBest (λ v. first_of p v xs) (find p xs)
IsBest-find p [] h = λ y. refl
IsBest-find p (x ∷ xs) h =
    elim (p x) as (λ b. p x ≡ b → IsBest (λ v. first_of p v (x ∷ xs)) (cond b (Some x) (find p xs))) [
      | true ↦ λ passes.
          (here p x xs passes, λ y lt. lower p y.value x xs lt ∙ none_above p y.value xs h.1 (omega (arith, h.0)))
      | false ↦ λ fails. IsBest-passed p x xs (find p xs) fails (IsBest-find p xs h.1)
    ] refl

-- entries sorted stably by their values, the greatest first: the first that passes is the best
find-best : (p : SymbolEntry → Bool) (xs sorted : List SymbolEntry) → Falls sorted → IsStableBy comes_before xs sorted
    → find p sorted ≡ best p xs
find-best p xs sorted falls stable =
    best_once (λ v. first_of p v sorted) (λ v. first_of p v xs) (find p sorted) (best p xs)
    (λ y. ap (find p) (stable y)) (IsBest-find p sorted falls) (IsBest-best p xs)

pub Falls-from_sorted : (xs : List SymbolEntry) → IsSortedBy comes_before xs → Falls xs
Falls-from_sorted [] h = tt
Falls-from_sorted (x ∷ []) h = (omega arith, tt)
Falls-from_sorted (x ∷ y ∷ xs) h = (
  ltb-false x.value y.value (h 0 x (omega arith) (omega arith)),
  Falls-from_sorted (y ∷ xs) (λ k d low high.
      let next : suc k + 1 ≡ suc (k + 1) = omega arith in
      subst (λ n. comes_before (get_or (x ∷ y ∷ xs) n d) (get_or (y ∷ xs) k d) ≡ false) next
      (h (suc k) d (omega arith) (omega arith))),
)

-- ---- the symbols of entries

-- the symbol of an entry has its address and its size
abbrev IsOf : SymbolEntry → Option NamedSymbol → Type 0
IsOf e None = Unit {0}
IsOf e (Some s) = (s.address ≡ e.value) × (s.size ≡ e.size)

named-IsOf : (e : SymbolEntry) (o : Option (List ℕ)) → IsOf e (named_symbol e o)
named-IsOf e None = tt
named-IsOf e (Some name) = (refl, refl)

symbol_of-IsOf : (texts : List ℕ) (e : SymbolEntry) → IsOf e (symbol_of texts e)
symbol_of-IsOf texts e =
    let o = named_symbol e (option_and_then as_name (text_at texts e.name)) in
    elim (is_defined e) as (λ b. IsOf e (cond b o None)) [
      | true ↦ named-IsOf e (option_and_then as_name (text_at texts e.name))
      | false ↦ tt
    ]

best_named : (texts : List ℕ) (p : SymbolEntry → Bool) (es : List SymbolEntry) (x : SymbolEntry) → AreNamed texts es
    → best p es ≡ Some x → is_named texts x ≡ true
best_named texts p [] x named is = absurd cc
best_named texts p (e ∷ es) x named is =
    elim (p e) as (λ b. cond b (top e (best p es)) (best p es) ≡ Some x → is_named texts x ≡ true) [
      | true ↦ of_top (best p es) (λ z. best_named texts p es z named.1)
      | false ↦ best_named texts p es x named.1
    ] is
  where
    this : (z : SymbolEntry) → is_named texts z ≡ true → Some z ≡ Some x → is_named texts x ≡ true
    this z is_so same = let z_is : z ≡ x = cc in ap (is_named texts) (sym z_is) ∙ is_so

    of_top : (o : Option SymbolEntry) → ((z : SymbolEntry) → o ≡ Some z → is_named texts z ≡ true)
        → top e o ≡ Some x → is_named texts x ≡ true
    of_top None rest = this e named.0
    of_top (Some z) rest =
        elim (ltb e.value z.value) as (λ b. cond b (Some z) (Some e) ≡ Some x → is_named texts x ≡ true) [
          | true ↦ this z (rest z refl)
          | false ↦ this e named.0
        ]

-- the highest one that an entry and further symbols give
further : (address : ℕ) (s : NamedSymbol) (b : Bool) (rest : List NamedSymbol)
    → highest (cond b (s ∷ rest) rest) ≡ higher (cond b (Some s) None) (highest rest)
further address s true rest = refl
further address s false rest = refl

one_more : (address : ℕ) (o : Option NamedSymbol) (rest : List NamedSymbol)
    → symbol_at address (cons_option o rest) ≡ higher (if_holds address o) (symbol_at address rest)
one_more address None rest = refl
one_more address (Some s) rest = further address s (holds address s) (filter (holds address) rest)

-- the first of two symbols against that of a further entry
highest_step : (texts : List ℕ) (a : ℕ) (e : SymbolEntry) (o : Option SymbolEntry) (s : Option NamedSymbol)
    → symbol_of texts e ≡ s → is_some s ≡ true
    → ((x : SymbolEntry) → o ≡ Some x → is_named texts x ≡ true)
    → option_and_then (symbol_of texts) (cond (entry_covers a e) (top e o) o)
    ≡ higher (if_holds a s) (option_and_then (symbol_of texts) o)
highest_step texts a e o None is named all = absurd cc
highest_step texts a e o (Some s) is named all =
    let of = subst (IsOf e) is (symbol_of-IsOf texts e) in
    let same : holds a s ≡ entry_covers a e = rw (of.0, of.1) refl in
    elim (entry_covers a e) as (λ b. option_and_then (symbol_of texts) (cond b (top e o) o)
    ≡ higher (cond b (Some s) None) (option_and_then (symbol_of texts) o)) [
      | true ↦ with_first o all
      | false ↦ refl
    ]
    ∙ sym (ap (λ b. higher (cond b (Some s) None) (option_and_then (symbol_of texts) o)) same)
  where
    against : (z : SymbolEntry) (t : Option NamedSymbol) → symbol_of texts z ≡ t → is_some t ≡ true
        → option_and_then (symbol_of texts) (cond (ltb e.value z.value) (Some z) (Some e)) ≡ first_highest s t
    against z None is_z none = absurd cc
    against z (Some t) is_z some =
        let of = subst (IsOf e) is (symbol_of-IsOf texts e) in
        let of_z = subst (IsOf z) is_z (symbol_of-IsOf texts z) in
        elim (ltb e.value z.value) as (λ b. option_and_then (symbol_of texts) (cond b (Some z) (Some e))
        ≡ cond b (Some t) (Some s)) [
          | true ↦ is_z
          | false ↦ is
        ]
        ∙ ap (λ n. cond (ltb n z.value) (Some t) (Some s)) (sym of.0)
        ∙ ap (λ n. cond (ltb s.address n) (Some t) (Some s)) (sym of_z.0)

    with_first : (o : Option SymbolEntry) → ((x : SymbolEntry) → o ≡ Some x → is_named texts x ≡ true)
        → option_and_then (symbol_of texts) (top e o) ≡ first_highest s (option_and_then (symbol_of texts) o)
    with_first None all = is
    with_first (Some z) all = against z (symbol_of texts z) refl (all z refl)

-- the symbol of the best entry is the symbol of the address
best_symbol : (texts : List ℕ) (a : ℕ) (es : List SymbolEntry) → AreNamed texts es
    → option_and_then (symbol_of texts) (best (entry_covers a) es) ≡ symbol_at a (filter_map (symbol_of texts) es)
best_symbol texts a [] named = refl
best_symbol texts a (e ∷ es) named =
    highest_step texts a e (best (entry_covers a) es) (symbol_of texts e) refl named.0
    (λ x found. best_named texts (entry_covers a) es x named.1 found)
    ∙ ap (higher (if_holds a (symbol_of texts e))) (best_symbol texts a es named.1)
    ∙ sym (one_more a (symbol_of texts e) (filter_map (symbol_of texts) es))

pub stretches_divide : (texts : List ℕ) (entries sorted : List SymbolEntry) (stretches : List SymbolStretch)
    → IsSortedBy comes_before sorted → IsStableBy comes_before entries sorted → AnswersFor sorted stretches
    → AreNamed texts entries → IsDivided texts entries stretches
stretches_divide texts entries sorted stretches up stable answer named =
    record {
      order = answer.order;
      answers = λ a fits. ap (option_and_then (symbol_of texts)) (answer.answers a fits
          ∙ find-best (entry_covers a) entries sorted (Falls-from_sorted sorted up) stable)
          ∙ best_symbol texts a entries named;
    }

-- ---- the entries that have a symbol

pub named_kept : (texts : List ℕ) (es : List SymbolEntry) → AreNamed texts (filter (is_named texts) es)
named_kept texts [] = tt
named_kept texts (e ∷ es) =
    elim (is_named texts e) as (λ b. is_named texts e ≡ b
    → AreNamed texts (cond b (e ∷ filter (is_named texts) es) (filter (is_named texts) es))) [
      | true ↦ λ is_so. (is_so, named_kept texts es)
      | false ↦ λ _. named_kept texts es
    ] refl

pub symbols_kept : (texts : List ℕ) (es : List SymbolEntry)
    → filter_map (symbol_of texts) (filter (is_named texts) es) ≡ filter_map (symbol_of texts) es
symbols_kept texts [] = refl
symbols_kept texts (e ∷ es) =
    kept_or_not (symbol_of texts e) refl
    ∙ ap (cons_option (symbol_of texts e)) (symbols_kept texts es)
  where
    kept_or_not : (o : Option NamedSymbol) → symbol_of texts e ≡ o
        → filter_map (symbol_of texts) (cond (is_some (symbol_of texts e)) (e ∷ filter (is_named texts) es)
        (filter (is_named texts) es))
        ≡ cons_option (symbol_of texts e) (filter_map (symbol_of texts) (filter (is_named texts) es))
    kept_or_not None is =
        ap (λ b. filter_map (symbol_of texts) (cond b (e ∷ filter (is_named texts) es) (filter (is_named texts) es)))
        (ap is_some is)
        ∙ ap (λ t. cons_option t (filter_map (symbol_of texts) (filter (is_named texts) es))) (sym is)
    kept_or_not (Some s) is =
        ap (λ b. filter_map (symbol_of texts) (cond b (e ∷ filter (is_named texts) es) (filter (is_named texts) es)))
        (ap is_some is)

abbrev symbols_are : List NamedSymbol → Result (List NamedSymbol) LoadError
symbols_are symbols = Ok symbols

-- the symbols of a table are those of the entries that are kept
pub read_kept : (class : Class) (table texts : View) (entries kept : List SymbolEntry)
    → entries_in class table ≡ Ok entries → kept ≡ filter (is_named texts.bytes) entries
    → symbols_in class table texts ≡ Ok (filter_map (symbol_of texts.bytes) kept)
read_kept class table texts entries kept read is =
    ap (λ r. r >>= (λ es. symbols_are (filter_map (symbol_of texts.bytes) es))) read
    ∙ ap symbols_are (sym (symbols_kept texts.bytes entries) ∙ ap (filter_map (symbol_of texts.bytes)) (sym is))
