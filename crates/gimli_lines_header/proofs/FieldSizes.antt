-- The value of a field takes a byte at least.
use Rattle.std.proofs.Common.{◌≡◌, ℕ, ◌<◌, ◌≤◌, Bool, true, false, cond, eqb, not, ◌&&◌, ◌||◌, List, [], ◌∷◌, None, Result, Ok, Err, refl, ◌∙◌, ap, arith, lit<}
use Rattle.std.specs.Prelude.{nat_lt}
use Rattle.std.specs.List.{list_any, list_all}
use Rattle.std.proofs.lemmas.Bool.{eqb-true, ltb-true, and_parts, not-true}
use Rattle.gimli_units_headers.specs.Error.{Error}
use Rattle.gimli_units_headers.specs.Error.TheVariants.{UnknownForm}
use Rattle.gimli_units_headers.specs.View.{View, bytes_left}
use Rattle.gimli_units_headers.specs.Parsers.{Parser, map_value, part}
use Rattle.gimli_units_headers.proofs.StepSizes.{Below, Below-Ok, Below-Err, Below-proceed, Below-lift, AtMost-part, Below-null_terminated}
use Rattle.gimli_units_headers.specs.Encoding.{Encoding}
use Rattle.gimli_units_headers.specs.Format.{Format}
use Rattle.gimli_units_headers.specs.Format.TheVariants.{Dwarf32, Dwarf64}
use Rattle.gimli_units_headers.specs.NumberParsers.{fixed, unsigned, offset_below}
use Rattle.gimli_units_headers.proofs.NumberReadSizes.{Below-fixed, Below-unsigned, Below-signed}
use Rattle.gimli_units_forms.specs.declared.spelling.Spelling.{Spelling}
use Rattle.gimli_units_forms.specs.declared.spelling.Spelling.TheVariants.{Address, Fixed, Sixteen, Block, LongBlock, Unsigned, Signed, Text, Indirect, Constant, Unknown}
use Rattle.gimli_units_forms.specs.FormSpellings.{spelling}
use Rattle.gimli_units_forms.specs.AttributeValues.{RawAttribute}
use Rattle.gimli_units_forms.specs.AttributeReading.{attribute, final_form, form_within, value, spelled_value, bytes_by_length, number_value}
use Rattle.gimli_lines_header.specs.TableEntries.{entry_forms, is_entry_form, entry_value}

-- a value that is spelled so takes a byte
abbrev takes_byte : Spelling → Bool
takes_byte Address = false
takes_byte (Fixed n) = nat_lt 0 n
takes_byte Sixteen = true
takes_byte (Block n) = nat_lt 0 n
takes_byte LongBlock = true
takes_byte Unsigned = true
takes_byte Signed = true
takes_byte Text = true
takes_byte Indirect = false
takes_byte Constant = false
takes_byte Unknown = false

-- a form takes a byte, and isn't indirect
abbrev is_full : Encoding → ℕ → Bool
is_full e form = takes_byte (spelling e form) && not (eqb form 0x16)

-- all forms of fields do
all_full : (size version : ℕ) (format : Format)
    → list_all (λ form. is_full (record { address_size = size; format = format; version = version }) form) entry_forms
    ≡ true
unfolding spelling
all_full size version Dwarf32 = refl
all_full size version Dwarf64 = refl

-- what is so of the first, or else of one among the others
first_or_other : (p : ℕ → Bool) (form f : ℕ) (b : Bool) (rest : Bool) → eqb form f ≡ b → p f ≡ true
    → (rest ≡ true → p form ≡ true) → b || rest ≡ true → p form ≡ true
first_or_other p form f true rest same here there any = ap p (eqb-true form f same) ∙ here
first_or_other p form f false rest other here there any = there any

-- what is so of all is so of one among them
among : (p : ℕ → Bool) (form : ℕ) (forms : List ℕ) → list_all p forms ≡ true → list_any (λ f. eqb form f) forms ≡ true
    → p form ≡ true
among p form [] all any = absurd cc
among p form (f ∷ forms) all any =
    let both = and_parts (p f) (list_all p forms) all in
    first_or_other p form f (eqb form f) (list_any (λ g. eqb form g) forms) refl both.0
    (λ h. among p form forms both.1 h) any

full : (e : Encoding) (form : ℕ) → is_entry_form form ≡ true → is_full e form ≡ true
full e form known = among (is_full e) form entry_forms (all_full e.address_size e.version e.format) known

-- ---- reading

Below-counted : {n : ℕ} (limit : ℕ) (p : Parser ℕ) (v : View) → Below bytes_left n (p v)
    → Below bytes_left n (bytes_by_length limit p v)
unfolding bytes_by_length
Below-counted limit p v takes =
    Below-proceed takes (λ length s s_less.
    Below-proceed (Below-lift (offset_below limit length) s s_less) (λ o t t_less.
    less_part o t t_less))
  where
    less_part : {n : ℕ} (k : ℕ) (t : View) → bytes_left t < n → Below bytes_left n (part k t)
    less_part k t h =
        record { left = λ x w e. let le = (AtMost-part {n = bytes_left t} k t (omega arith)).left x w e in omega arith }

Below-spelled : {n : ℕ} (limit : ℕ) (e : Encoding) (form : ℕ) (s : Spelling) (v : View) → takes_byte s ≡ true
    → bytes_left v ≤ n → Below bytes_left n (spelled_value limit e 0 form None s v)
Below-spelled limit e form Address v takes h = absurd cc
Below-spelled limit e form (Fixed width) v takes h = Below-proceed (Below-fixed width v (ltb-true 0 width takes) h)
    (λ x s less. Below-lift (number_value limit e 0 form x) s less)
Below-spelled limit e form Sixteen v takes h = Below-proceed (Below-fixed 16 v (lit< tt) h) (λ x s less. Below-Ok less)
Below-spelled limit e form (Block width) v takes h =
    Below-proceed (Below-counted limit (fixed width) v (Below-fixed width v (ltb-true 0 width takes) h))
    (λ x s less. Below-Ok less)
Below-spelled limit e form LongBlock v takes h =
    Below-proceed (Below-counted limit unsigned v (Below-unsigned v h)) (λ x s less. Below-Ok less)
Below-spelled limit e form Unsigned v takes h =
    Below-proceed (Below-unsigned v h) (λ x s less. Below-lift (number_value limit e 0 form x) s less)
Below-spelled limit e form Signed v takes h = Below-proceed (Below-signed v h) (λ x s less. Below-Ok less)
Below-spelled limit e form Text v takes h = Below-proceed (Below-null_terminated v h) (λ x s less. Below-Ok less)
Below-spelled limit e form Indirect v takes h = absurd cc
Below-spelled limit e form Constant v takes h = absurd cc
Below-spelled limit e form Unknown v takes h = absurd cc

-- a form that isn't indirect is the one that is read
abbrev pub form_read : ℕ → View → Result (ℕ × View) Error
form_read form v = Ok (form, v)

pub own_form : (form : ℕ) (v : View) → eqb form 0x16 ≡ false → final_form form v ≡ form_read form v
unfolding final_form form_within
own_form form v other = rw other refl

Below-attribute : {n : ℕ} (limit : ℕ) (e : Encoding) (form : ℕ) (v : View) → is_full e form ≡ true → bytes_left v ≤ n
    → Below bytes_left n (attribute limit e (record { name = 0; form = form; implicit_const = None }) v)
unfolding attribute value
Below-attribute {n} limit e form v is h =
    let both = and_parts (takes_byte (spelling e form)) (not (eqb form 0x16)) is in
    rw (own_form form v (not-true (eqb form 0x16) both.1))
    (Below-proceed (Below-spelled limit e form (spelling e form) v both.0 h) (λ x s less. Below-Ok less))

pub Below-entry_value : {n : ℕ} (limit : ℕ) (e : Encoding) (form : ℕ) (v : View) → bytes_left v ≤ n
    → Below bytes_left n (entry_value limit e form v)
unfolding entry_value
Below-entry_value {n} limit e form v h = cases (is_entry_form form) refl
  where
    cases : (b : Bool) → is_entry_form form ≡ b
        → Below bytes_left n (cond b (map_value (λ (a : RawAttribute). a.value)
        (attribute limit e (record { name = 0; form = form; implicit_const = None })) v)
        (Err (UnknownForm (record { 0 = form }))))
    cases true known = Below-proceed (Below-attribute limit e form v (full e form known) h) (λ x s less. Below-Ok less)
    cases false unknown = Below-Err
