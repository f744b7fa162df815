-- The table that a loop over the declarations collects.
use Rattle.std.proofs.Common.{◌≡◌, ℕ, ◌<◌, Bool, true, false, cond, ◌||◌, eqb, ltb, List, [], ◌∷◌, ◌++◌, Option, Some, None, is_some, option_map, Result, Ok, Err, refl, sym, ap, subst, ◌∙◌, arith, append_assoc}
use Rattle.std.proofs.Math.Bool.{or-false}
use Rattle.std.proofs.lemmas.Bool.{eqb-true, eqb-false}
use Rattle.std.proofs.lemmas.List.{append-nil}
use Rattle.gimli_core_readers.specs.Error.{Error}
use Rattle.gimli_core_readers.specs.Error.TheVariants.{DuplicateAbbreviationCode}
use Rattle.gimli_core_readers.specs.View.{View, bytes_left}
use Rattle.gimli_core_readers.specs.Parsers.{Step, ◌>>=◌, proceed, give, branch}
use Rattle.gimli_core_readers.specs.Repetition.{Listing, prepend, listing_in, whole}
use Rattle.gimli_core_readers.proofs.StepParts.{begins, value_is}
use Rattle.gimli_core_readers.proofs.Listings.{listing_item, listing_end, listing_fault}
use Rattle.gimli_core_readers.specs.NumberParsers.{unsigned}
use Rattle.gimli_core_abbrev.specs.Declarations.{Declaration, declaration_at, has_code, put, put_all, by_code, repeated_after, repeated_code}
use Rattle.gimli_core_abbrev.specs.TableParsing.{declaration_of, coded_declaration, unless_ended, declaration, distinct, table}
use Rattle.gimli_core_abbrev.specs.TableLayout.{declaration_list}
use Rattle.gimli_core_abbrev.proofs.DeclarationSizes.{declarations-shrink}

-- ---- codes

-- one of the declarations has the code, or it is there already
pub has_code-put : (code : ℕ) (d : Declaration) (table : List Declaration)
    → is_some (declaration_at code (put d table)) ≡ (eqb d.code code || is_some (declaration_at code table))
has_code-put code d [] = one (eqb d.code code)
  where
    one : (b : Bool) → is_some (cond b (Some d) None) ≡ (b || false)
    one true = refl
    one false = refl
has_code-put code d (e ∷ table) = by_place (ltb d.code e.code) (has_code-put code d table)
  where
    first : (a b : Bool) (o : Option Declaration) → is_some (cond a (Some d) (cond b (Some e) o))
        ≡ (a || is_some (cond b (Some e) o))
    first true b o = refl
    first false b o = refl

    second : (a b : Bool) (o p : Option Declaration) → is_some p ≡ (a || is_some o)
        → is_some (cond b (Some e) p) ≡ (a || is_some (cond b (Some e) o))
    second true true o p h = refl
    second false true o p h = refl
    second a false o p h = h

    by_place : (b : Bool) → is_some (declaration_at code (put d table))
        ≡ (eqb d.code code || is_some (declaration_at code table))
        → is_some (declaration_at code (cond b (d ∷ e ∷ table) (e ∷ put d table)))
        ≡ (eqb d.code code || is_some (declaration_at code (e ∷ table)))
    by_place true h = first (eqb d.code code) (eqb e.code code) (declaration_at code table)
    by_place false h = second (eqb d.code code) (eqb e.code code) (declaration_at code table)
        (declaration_at code (put d table)) h

or_swap : (a b c : Bool) → ((a || b) || c) ≡ (b || (a || c))
or_swap true true c = refl
or_swap true false c = refl
or_swap false true c = refl
or_swap false false c = refl

has_code-put_all : (code : ℕ) (table ds : List Declaration)
    → is_some (declaration_at code (put_all table ds)) ≡ (is_some (declaration_at code table) || has_code code ds)
has_code-put_all code table [] = sym (or-false (is_some (declaration_at code table)))
has_code-put_all code table (d ∷ ds) =
    has_code-put_all code (put d table) ds ∙ ap (λ (b : Bool). b || has_code code ds) (has_code-put code d table)
    ∙ or_swap (eqb d.code code) (is_some (declaration_at code table)) (has_code code ds)

pub has_code-by_code : (code : ℕ) (ds : List Declaration)
    → is_some (declaration_at code (by_code ds)) ≡ has_code code ds
has_code-by_code code ds = has_code-put_all code [] ds

-- ---- the answer of a look-up

pub is_some-map : {A B : Type 0} (f : A → B) (o : Option A) → is_some (option_map f o) ≡ is_some o
is_some-map f None = refl
is_some-map f (Some x) = refl

pub none_there : (o : Option Declaration) → is_some o ≡ false → o ≡ None
none_there None e = refl
none_there (Some x) e = absurd cc

-- ---- the first code that is there twice

-- where none is found, the first isn't the one that is looked for, nor is any after it
pub none_later : {X : Type 0} (b : Bool) (x : X) (o : Option X) → cond b (Some x) o ≡ None → (b ≡ false) × (o ≡ None)
none_later true x o e = absurd cc
none_later false x o e = (refl, e)

-- a declaration whose code one before it has is the first such one
repeated_first : (before ds rest : List Declaration) (d : Declaration) → repeated_after before ds ≡ None
    → (has_code d.code before || has_code d.code ds) ≡ true → repeated_after before (ds ++ d ∷ rest) ≡ Some d.code
repeated_first before [] rest d once twice = rw (sym (or-false (has_code d.code before)) ∙ twice) refl
repeated_first before (x ∷ ds) rest d once twice =
    let here = none_later (has_code x.code before) x.code (repeated_after (x ∷ before) ds) once in
    rw here.0 (repeated_first (x ∷ before) ds rest d here.1
    (or_swap (eqb x.code d.code) (has_code d.code before) (has_code d.code ds) ∙ twice))

repeated_further : (before ds : List Declaration) (d : Declaration) → repeated_after before ds ≡ None
    → (has_code d.code before || has_code d.code ds) ≡ false → repeated_after before (ds ++ d ∷ []) ≡ None
repeated_further before [] d once new = rw (sym (or-false (has_code d.code before)) ∙ new) refl
repeated_further before (x ∷ ds) d once new =
    let here = none_later (has_code x.code before) x.code (repeated_after (x ∷ before) ds) once in
    rw here.0 (repeated_further (x ∷ before) ds d here.1
    (or_swap (eqb x.code d.code) (has_code d.code before) (has_code d.code ds) ∙ new))

pub repeated_push : (ds : List Declaration) (d : Declaration) → repeated_code ds ≡ None
    → declaration_at d.code (by_code ds) ≡ None → repeated_code (ds ++ d ∷ []) ≡ None
repeated_push ds d once absent = repeated_further [] ds d once (sym (has_code-by_code d.code ds) ∙ ap is_some absent)

-- ---- what a code finds

found_put : (code : ℕ) (d : Declaration) (ds : List Declaration) → declaration_at d.code ds ≡ None
    → declaration_at code (put d ds) ≡ cond (eqb d.code code) (Some d) (declaration_at code ds)
found_put code d [] absent = refl
found_put code d (e ∷ ds) absent =
    let other = none_later (eqb e.code d.code) e (declaration_at d.code ds) absent in
    by_place (ltb d.code e.code) (found_put code d ds other.1)
    (λ p q. eqb-false e.code d.code other.0 (eqb-true e.code code q ∙ sym (eqb-true d.code code p)))
  where
    swap_conds : (a b : Bool) (o : Option Declaration) → (a ≡ true → b ≡ true → ⊥)
        → cond b (Some e) (cond a (Some d) o) ≡ cond a (Some d) (cond b (Some e) o)
    swap_conds true true o never = absurd (never refl refl)
    swap_conds true false o never = refl
    swap_conds false true o never = refl
    swap_conds false false o never = refl

    by_place : (b : Bool) → declaration_at code (put d ds) ≡ cond (eqb d.code code) (Some d) (declaration_at code ds)
        → (eqb d.code code ≡ true → eqb e.code code ≡ true → ⊥)
        → declaration_at code (cond b (d ∷ e ∷ ds) (e ∷ put d ds))
        ≡ cond (eqb d.code code) (Some d) (declaration_at code (e ∷ ds))
    by_place true rest never = refl
    by_place false rest never = ap (λ (o : Option Declaration). cond (eqb e.code code) (Some e) o) rest
        ∙ swap_conds (eqb d.code code) (eqb e.code code) (declaration_at code ds) never

-- one, else the other
abbrev first_of : Option Declaration → Option Declaration → Option Declaration
first_of (Some d) o = Some d
first_of None o = o

found_put_all : (code : ℕ) (before so_far ds : List Declaration)
    → ((c : ℕ) → is_some (declaration_at c so_far) ≡ has_code c before) → repeated_after before ds ≡ None
    → declaration_at code (put_all so_far ds) ≡ first_of (declaration_at code so_far) (declaration_at code ds)
found_put_all code before so_far [] same once = end (declaration_at code so_far)
  where
    end : (o : Option Declaration) → o ≡ first_of o None
    end (Some d) = refl
    end None = refl
found_put_all code before so_far (d ∷ ds) same once =
    let here = none_later (has_code d.code before) d.code (repeated_after (d ∷ before) ds) once in
    let absent : declaration_at d.code so_far ≡ None =
    none_there (declaration_at d.code so_far) (same d.code ∙ here.0) in
    found_put_all code (d ∷ before) (put d so_far) ds
    (λ c. has_code-put c d so_far ∙ ap (λ (b : Bool). eqb d.code c || b) (same c)) here.1
    ∙ ap (λ (o : Option Declaration). first_of o (declaration_at code ds)) (found_put code d so_far absent)
    ∙ by_test (eqb d.code code) (λ p. subst (λ (c : ℕ). declaration_at c so_far ≡ None) (eqb-true d.code code p) absent)
  where
    by_test : (b : Bool) → (b ≡ true → declaration_at code so_far ≡ None)
        → first_of (cond b (Some d) (declaration_at code so_far)) (declaration_at code ds)
        ≡ first_of (declaration_at code so_far) (cond b (Some d) (declaration_at code ds))
    by_test true none = sym (ap (λ (o : Option Declaration). first_of o (Some d)) (none refl))
    by_test false none = refl

-- the same by the codes as in order
pub found_by_code : (code : ℕ) (ds : List Declaration) → repeated_code ds ≡ None
    → declaration_at code (by_code ds) ≡ declaration_at code ds
found_by_code code ds once = found_put_all code [] [] ds (λ c. refl) once

-- ---- a loop that began at v, has read ds and is at w

abbrev list_of : Listing View Declaration → Result (List Declaration × View) Error
list_of l = distinct (repeated_code l.items) (whole l)

pub list_fault : (ds : List Declaration) (v w : View) (e : Error)
    → prepend ds (listing_in bytes_left declaration w) ≡ listing_in bytes_left declaration v → repeated_code ds ≡ None
    → declaration w ≡ Err e → declaration_list v ≡ Err e
unfolding declaration_list
list_fault ds v w e same once fault =
    ap list_of (sym same ∙ ap (prepend ds) (listing_fault declarations-shrink w e fault))
    ∙ rw (append-nil ds, once) refl

pub list_end : (ds : List Declaration) (v w u : View) → prepend ds (listing_in bytes_left declaration w)
    ≡ listing_in bytes_left declaration v → repeated_code ds ≡ None → declaration w ≡ Ok (None, u)
    → declaration_list v ≡ Ok (ds, u)
unfolding declaration_list
list_end ds v w u same once end =
    ap list_of (sym same ∙ ap (prepend ds) (listing_end declarations-shrink w u end)) ∙ rw (append-nil ds, once) refl

pub list_repeated : (ds : List Declaration) (d : Declaration) (v w u : View)
    → prepend ds (listing_in bytes_left declaration w) ≡ listing_in bytes_left declaration v → repeated_code ds ≡ None
    → declaration w ≡ Ok (Some d, u) → is_some (declaration_at d.code (by_code ds)) ≡ true
    → declaration_list v ≡ Err (DuplicateAbbreviationCode d.code)
unfolding declaration_list
list_repeated ds d v w u same once item twice =
    let rest = listing_in bytes_left declaration u in
    let items : repeated_code ((ds ++ d ∷ []) ++ rest.items) ≡ Some d.code =
    ap repeated_code (append_assoc ds (d ∷ []) rest.items)
    ∙ repeated_first [] ds rest.items d once (sym (has_code-by_code d.code ds) ∙ twice) in
    ap list_of (sym same ∙ listing_item declarations-shrink ds d w u item) ∙ rw items refl

-- a table is its list by the codes
by_codes : (o : Option ℕ) (r : Result (List Declaration × View) Error)
    → distinct o (proceed r (λ ds. give (by_code ds))) ≡ proceed (distinct o r) (λ ds. give (by_code ds))
by_codes (Some code) r = refl
by_codes None r = refl

pub table_listed : (v : View) → table v ≡ proceed (declaration_list v) (λ ds. give (by_code ds))
unfolding table declaration_list
table_listed v =
    by_codes (repeated_code (listing_in bytes_left declaration v).items) (whole (listing_in bytes_left declaration v))

pub table_refused : (v : View) (e : Error) → declaration_list v ≡ Err e → table v ≡ Err e
table_refused v e h = table_listed v ∙ ap (λ r. proceed r (λ ds. give (by_code ds))) h

pub table_is : (v u : View) (ds : List Declaration) → declaration_list v ≡ Ok (ds, u) → table v ≡ Ok (by_code ds, u)
table_is v u ds h = table_listed v ∙ ap (λ r. proceed r (λ ds. give (by_code ds))) h

pub listing_further : (ds : List Declaration) (d : Declaration) (v w u : View)
    → prepend ds (listing_in bytes_left declaration w) ≡ listing_in bytes_left declaration v
    → declaration w ≡ Ok (Some d, u) → prepend (ds ++ d ∷ []) (listing_in bytes_left declaration u)
    ≡ listing_in bytes_left declaration v
listing_further ds d v w u same item = sym (listing_item declarations-shrink ds d w u item) ∙ same

-- ---- no declaration has the code 0

record HasCode (code : ℕ) (r : Result (Declaration × View) Error) : Type 0 where
  is : (d : Declaration) (s : View) → r ≡ Ok (d, s) → d.code ≡ code

HasCode-Ok : {code : ℕ} {d : Declaration} {s : View} → d.code ≡ code → HasCode code (Ok (d, s))
HasCode-Ok {code} {d} {s} h = record { is = λ x t e. sym (ap (λ (y : Declaration). y.code) (value_is d x s t e)) ∙ h }

HasCode-proceed : {A : Type 0} {code : ℕ} (r : Result (A × View) Error) (f : A → Step View Declaration)
    → ((x : A) (s : View) → HasCode code (f x s)) → HasCode code (proceed r f)
HasCode-proceed r f h = record { is = λ y t e. let b = begins r f y t e in (h b.0 b.1).is y t b.3 }

declaration_of-code : (code : ℕ) (v : View) → HasCode code (declaration_of code v)
unfolding declaration_of
declaration_of-code code v = search (HasCode-Ok, HasCode-proceed, refl) depth 20

-- an item has a code above 0
record Counts (r : Result (Option Declaration × View) Error) : Type 0 where
  is : (d : Declaration) (s : View) → r ≡ Ok (Some d, s) → 0 < d.code

Counts-None : (s : View) → Counts (Ok (None, s))
Counts-None s = record { is = λ d t e. let is = value_is {A = Option Declaration} None (Some d) s t e in absurd cc }

Counts-some : {code : ℕ} (r : Result (Declaration × View) Error) → HasCode code r → 0 < code
    → Counts (proceed r (λ d. give (Some d)))
Counts-some {code} r h above = record {
  is = λ d t e.
      let b = begins r (λ x. give (Some x)) (Some d) t e in
      let same : Some b.0 ≡ Some d = value_is {A = Option Declaration} (Some b.0) (Some d) b.1 t b.3 in
      let is : b.0 ≡ d = cc in
      let code_is = h.is b.0 b.1 b.2 in
      omega (arith, above, code_is, ap (λ (x : Declaration). x.code) is);
}

Counts-coded : (code : ℕ) (s : View) (b : Bool) → eqb code 0 ≡ b
    → Counts (cond b (Ok (None, s)) (proceed (declaration_of code s) (λ d. give (Some d))))
Counts-coded code s true e = Counts-None s
Counts-coded code s false e =
    Counts-some (declaration_of code s) (declaration_of-code code s) (omega (arith, eqb-false code 0 e))

coded_declaration-coded : (v : View) → Counts (coded_declaration v)
unfolding coded_declaration
coded_declaration-coded v = record {
  is = λ d t e.
      let b = begins (unsigned v) (λ code. branch (eqb code 0) (give None) (declaration_of code >>= λ x. give (Some x)))
      (Some d) t e in
      (Counts-coded b.0 b.1 (eqb b.0 0) refl).is d t b.3;
}

unless_ended-coded : (bytes : List ℕ) (v : View) → Counts (unless_ended bytes coded_declaration v)
unless_ended-coded [] v = Counts-None v
unless_ended-coded (b ∷ bytes) v = coded_declaration-coded v

pub declaration-coded : (v : View) (d : Declaration) (w : View) → declaration v ≡ Ok (Some d, w) → 0 < d.code
unfolding declaration
declaration-coded v d w e = (unless_ended-coded v.bytes v).is d w e
