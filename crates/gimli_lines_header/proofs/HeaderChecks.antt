-- What a header is refused for: what its parts are refused for, whatever the unit's directory and name are.
use Rattle.std.proofs.Common.{◌≡◌, ℕ, Option, Result, Ok, Err, refl, sym, ◌∙◌, ap}
use Rattle.gimli_units_headers.specs.Error.{Error}
use Rattle.gimli_units_headers.specs.View.{View}
use Rattle.gimli_units_headers.specs.Calls.{ReturnsAs, Returns}
use Rattle.gimli_units_headers.specs.Parsers.{Step, proceed, give, lift, value_of, within, part, skip}
use Rattle.gimli_units_headers.specs.NumberParsers.{initial_length, word}
use Rattle.gimli_units_headers.specs.Encoding.{Encoding}
use Rattle.gimli_units_headers.specs.Format.{Format}
use Rattle.gimli_units_headers.specs.Results.{refusal_of}
use Rattle.gimli_lines_header.specs.Checks.{check}
use Rattle.gimli_lines_header.specs.HeaderTables.{directories, files}
use Rattle.gimli_lines_header.specs.HeaderParsing.{Bounds, LineUnit, line_sizes, line_parameters, opcodes, header_fields, header_in, line_header, header_at}

-- ---- the fields

-- what is read of a value and what is checked of it are refused alike
passes : {S A B : Type 0} (r : Result (A × S) Error) (f : A → Step S B) (g : Step S (Unit {0}))
    → ((x : A) (s : S) → proceed (f x s) (λ _. give (tt {0})) ≡ g s)
    → proceed (proceed r f) (λ _. give (tt {0})) ≡ proceed (proceed r (λ _. give (tt {0}))) (λ _. g)
passes (Ok r) f g alike = alike r.0 r.1
passes (Err d) f g alike = refl

passes_value : {S A B : Type 0} (r : Result (A × S) Error) (f : A → Step S B) (g : Step S (Unit {0}))
    → ((x : A) (s : S) → proceed (f x s) (λ _. give (tt {0})) ≡ g s)
    → proceed (proceed r f) (λ _. give (tt {0})) ≡ proceed r (λ _. g)
passes_value (Ok r) f g alike = alike r.0 r.1
passes_value (Err d) f g alike = refl

forgets : {S A B : Type 0} (r : Result (A × S) Error) (f : A → B)
    → proceed (proceed r (λ x. give (f x))) (λ _. give (tt {0})) ≡ proceed r (λ _. give (tt {0}))
forgets (Ok r) f = refl
forgets (Err d) f = refl

-- the parts of the fields that are checked
abbrev pub parts_check : ℕ → Encoding → Step View (Unit {0})
parts_check limit e v =
    proceed (line_parameters e.version v) (λ _ s. proceed (check opcodes s) (λ _ t.
    proceed (check (directories limit e) t) (λ _. check (files limit e))))

parts_of : (limit : ℕ) (directory name : Option View) (b : Bounds) (v : View)
    → check (header_fields limit directory name b) v ≡ parts_check limit b.encoding v
unfolding header_fields
parts_of limit directory name b v =
    passes_value (line_parameters b.encoding.version v) _ _ (λ parameters s.
    passes (opcodes s) _ _ (λ base t.
    passes (directories limit b.encoding t) _ _ (λ ds u.
    forgets (files limit b.encoding u) _)))

pub fields_checked : (limit : ℕ) (directory name : Option View) (b : Bounds) (e : Encoding) → b.encoding ≡ e
    → (v : View) → check (header_fields limit directory name b) v ≡ parts_check limit e v
fields_checked limit directory name b e same v =
    parts_of limit directory name b v ∙ ap (λ (x : Encoding). parts_check limit x v) same

-- ---- results

-- a part that was read, and one that was refused
pub refusal_next : {S A B : Type 0} (r : Result (A × S) Error) (f : A → Step S B) (x : A) (s : S) → r ≡ Ok (x, s)
    → refusal_of (value_of (proceed r f)) ≡ refusal_of (value_of (f x s))
refusal_next {S} {A} r f x s e = ap (λ (q : Result (A × S) Error). refusal_of (value_of (proceed q f))) e

pub refusal_here : {S A B : Type 0} (r : Result (A × S) Error) (f : A → Step S B) (d : Error) → r ≡ Err d
    → refusal_of (value_of (proceed r f)) ≡ Err d
refusal_here {S} {A} r f d e = ap (λ (q : Result (A × S) Error). refusal_of (value_of (proceed q f))) e

-- a part of the bytes that is checked
pub refusal_within : {S T A : Type 0} (t : T) (p : Step T A) (s : S)
    → refusal_of (value_of (within t p s)) ≡ value_of (check p t)
refusal_within {S} {T} {A} t p s = by_result (p t)
  where
    by_result : (r : Result (A × T) Error)
        → refusal_of (value_of (lift {S = S} (value_of r) s)) ≡ value_of (proceed r (λ _. give (tt {0})))
    by_result (Ok r) = refl
    by_result (Err d) = refl

-- the same of a part that is refused as its value is
pub refusal_inside : {S T A : Type 0} (t : T) (p : Step T A) (s : S)
    → refusal_of (value_of (within t p s)) ≡ refusal_of (value_of (p t))
refusal_inside {S} {T} {A} t p s = by_result (p t)
  where
    by_result : (r : Result (A × T) Error)
        → refusal_of (value_of (lift {S = S} (value_of r) s)) ≡ refusal_of (value_of r)
    by_result (Ok r) = refl
    by_result (Err d) = refl

-- what a check returns, without what is left
pub check_returns : (r : Result (Unit {0}) Error) (w : View) (read : Result ((Unit {0}) × View) Error)
    → ReturnsAs (λ (_ : Unit {0}). (tt {0}, w)) r read → Returns r (value_of read)
check_returns (Ok u) w read is = ap value_of is
check_returns (Err d) w read is = ap value_of is

pub returns_as : (r meaning same : Result (Unit {0}) Error) → Returns r meaning → same ≡ meaning → Returns r same
returns_as (Ok u) meaning same is e = e ∙ is
returns_as (Err d) meaning same is e = e ∙ is

-- the same meaning, said otherwise
pub means_same : {A B : Type 0} (see : A → B) (r : Result A Error) (meaning same : Result B Error)
    → ReturnsAs see r meaning → same ≡ meaning → ReturnsAs see r same
means_same see (Ok x) meaning same is e = e ∙ is
means_same see (Err d) meaning same is e = e ∙ is

-- ---- headers

abbrev unit_of : ℕ → Option View → Option View → LineUnit
unit_of address_bytes directory name = record { address_bytes = address_bytes; directory = directory; name = name }

-- what the fields of a header are refused for, whatever else is known of it
abbrev pub FieldsReturn : ℕ → Encoding → Result (Unit {0}) Error → View → View → Type 0
FieldsReturn limit e r v w = (directory name : Option View) (b : Bounds) → b.encoding ≡ e
    → ReturnsAs (λ (_ : Unit {0}). (tt {0}, w)) r (check (header_fields limit directory name b) v)

-- the fields are checked after the sizes and the second length
pub after_length_checked : (limit offset unit_length address_bytes : ℕ) (directory name : Option View) (format : Format)
    (v s t h u : View) (e : Encoding) (m n : ℕ) → m ≡ n → line_sizes format address_bytes v ≡ Ok (e, s)
    → word limit format s ≡ Ok (n, t) → part m t ≡ Ok (h, u) → (r : Result (Unit {0}) Error) (w : View)
    → FieldsReturn limit e r h w
    → Returns r (refusal_of (value_of (header_in limit offset (unit_of address_bytes directory name) unit_length format
    v)))
unfolding header_in
after_length_checked limit offset unit_length address_bytes directory name format v s t h u e m n is e1 e2 e3 r w
    fields =
    let b : Bounds = record {
      offset = offset;
      unit_length = unit_length;
      encoding = e;
      header_length = n;
      program = u;
    } in
    returns_as r (value_of (check (header_fields limit directory name b) h)) _
    (check_returns r w (check (header_fields limit directory name b) h) (fields directory name b refl))
    (refusal_next _ _ e s e1 ∙ refusal_next _ _ n t e2
    ∙ refusal_next _ _ h u (ap (λ (k : ℕ). part k t) (sym is) ∙ e3)
    ∙ refusal_within h (header_fields limit directory name b) u)

-- what a header is refused for after its length, whatever is known before it
abbrev pub HeaderReturns : ℕ → ℕ → Result (Unit {0}) Error → Format → View → Type 0
HeaderReturns limit address_bytes r format v = (offset unit_length : ℕ) (directory name : Option View)
    → Returns r (refusal_of (value_of (header_in limit offset (unit_of address_bytes directory name) unit_length format
    v)))

abbrev no_rest : ℕ → View → Result ((Unit {0}) × View) Error
no_rest k v = skip k v

-- where the skip of a place began
skip_from : (offset o : ℕ) (section start : View) → start ≡ section → o ≡ offset
    → skip offset section ≡ no_rest o start
skip_from offset o section start same is =
    ap (λ (k : ℕ). no_rest k section) (sym is) ∙ ap (λ (v : View). no_rest o v) (sym same)

pub header_checked : (limit offset o address_bytes : ℕ) (directory name : Option View) (format : Format)
    (section start s t h u : View) (m n : ℕ) → start ≡ section → o ≡ offset → m ≡ n
    → skip o start ≡ Ok (tt {0}, s) → initial_length limit s ≡ Ok ((n, format), t) → part m t ≡ Ok (h, u)
    → (r : Result (Unit {0}) Error) → HeaderReturns limit address_bytes r format h
    → Returns r (refusal_of (header_at limit offset (unit_of address_bytes directory name) section))
unfolding line_header
header_checked limit offset o address_bytes directory name format section start s t h u m n same is length_is e1 e2 e3 r
    returns =
    let unit = unit_of address_bytes directory name in
    returns_as r (refusal_of (value_of (header_in limit offset unit n format h))) _ (returns offset n directory name)
    (refusal_next _ _ (tt {0}) s (skip_from offset o section start same is ∙ e1) ∙ refusal_next _ _ (n, format) t e2
    ∙ refusal_next _ _ h u (ap (λ (k : ℕ). part k t) (sym length_is) ∙ e3)
    ∙ refusal_inside h (header_in limit offset unit n format) u)

-- refusals before that
pub skip_refused : (limit offset o : ℕ) (unit : LineUnit) (section start : View) (d : Error) → start ≡ section
    → o ≡ offset → skip o start ≡ Err d → refusal_of (header_at limit offset unit section) ≡ Err d
skip_refused limit offset o unit section start d same is e1 =
    refusal_here (skip offset section) (λ _. line_header limit offset unit) d
    (skip_from offset o section start same is ∙ e1)

pub length_refused : (limit offset o : ℕ) (unit : LineUnit) (section start s : View) (d : Error) → start ≡ section
    → o ≡ offset → skip o start ≡ Ok (tt {0}, s) → initial_length limit s ≡ Err d
    → refusal_of (header_at limit offset unit section) ≡ Err d
unfolding line_header
length_refused limit offset o unit section start s d same is e1 e2 =
    refusal_next (skip offset section) (λ _. line_header limit offset unit) (tt {0}) s
    (skip_from offset o section start same is ∙ e1) ∙ refusal_here _ _ d e2

pub part_refused : (limit offset o : ℕ) (unit : LineUnit) (format : Format) (section start s t : View) (m n : ℕ)
    (d : Error) → start ≡ section → o ≡ offset → m ≡ n → skip o start ≡ Ok (tt {0}, s)
    → initial_length limit s ≡ Ok ((n, format), t) → part m t ≡ Err d
    → refusal_of (header_at limit offset unit section) ≡ Err d
unfolding line_header
part_refused limit offset o unit format section start s t m n d same is length_is e1 e2 e3 =
    refusal_next (skip offset section) (λ _. line_header limit offset unit) (tt {0}) s
    (skip_from offset o section start same is ∙ e1)
    ∙ refusal_next _ _ (n, format) t e2 ∙ refusal_here _ _ d (ap (λ (k : ℕ). part k t) (sym length_is) ∙ e3)
