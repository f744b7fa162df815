-- Bytes that were written: nothing in them was refused.
use Rattle.std.proofs.Common.{◌≡◌, ℕ, ◌<◌, ◌^◌, nat_lt, Bool, true, false, cond, List, [], ◌∷◌, ◌++◌, Result, Ok, Err, refl, sym, ◌∙◌}
use Rattle.std.specs.Prelude.{◌==◌, All, flat_map}
use Rattle.std.proofs.lemmas.Bool.{eqb-true, ltb-true}
use Rattle.std.proofs.lemmas.List.Elements.{All-nil, All-cons}
use Rattle.gimli_lines_write_unit.specs.Encoding.{Encoding}
use Rattle.gimli_lines_write_unit.specs.Format.{Format}
use Rattle.gimli_lines_write_unit.specs.FormatSizes.{word_size}
use Rattle.gimli_lines_write_unit.specs.Fixed.{number_bytes}
use Rattle.gimli_lines_write_unit.specs.WriteError.{Error}
use Rattle.gimli_lines_write_unit.specs.WriteError.TheVariants.{ValueTooLarge}
use Rattle.gimli_lines_write_unit.specs.NumberBytes.{bytes_in_width}
use Rattle.gimli_lines_write_unit.specs.EntryBytes.{join_bytes}
use Rattle.gimli_lines_write_unit.specs.HeaderTexts.{Text, in_header, of_strings, of_line_strings, form_of}
use Rattle.gimli_lines_write_unit.specs.HeaderBytes.{bytes_or_refusal, mismatch, offset_refusals, reference_refusals, text_refusals}
use Rattle.gimli_lines_write_unit.proofs.RefusedBytes.{word_is}

-- ---- parts

-- both of two parts that make something
pub both_parts : (r s : Result (List ℕ) Error) (bytes : List ℕ) → join_bytes r s ≡ Ok bytes → (a : List ℕ)
    × (b : List ℕ) × (r ≡ Ok a) × (s ≡ Ok b) × (a ++ b ≡ bytes)
both_parts (Ok a) (Ok b) bytes e = (a, b, refl, refl, cc)
both_parts (Ok a) (Err f) bytes e = absurd (cc)
both_parts (Err f) s bytes e = absurd (cc)

abbrev ok_bytes : List ℕ → Result (List ℕ) Error
ok_bytes a = Ok a

pub same_ok : (a b : List ℕ) → ok_bytes a ≡ ok_bytes b → a ≡ b
same_ok a b e = cc

-- ---- lists without refusals

pub both_empty : {A : Type 0} (xs ys : List A) → xs ++ ys ≡ [] → (xs ≡ []) × (ys ≡ [])
both_empty [] ys e = (refl, e)
both_empty (x ∷ xs) ys e = absurd (cc)

pub each_empty : {A B : Type 0} (f : A → List B) (xs : List A) → flat_map f xs ≡ [] → All (λ x. f x ≡ []) xs
each_empty f [] e = All-nil (λ x. f x ≡ [])
each_empty f (x ∷ xs) e =
    let parts = both_empty (f x) (flat_map f xs) e in
    All-cons (λ y. f y ≡ []) x xs parts.0 (each_empty f xs parts.1)

-- ---- numbers and texts

offset_is : (format : Format) (n : ℕ) → offset_refusals format n ≡ [] → n < 256 ^ word_size format
offset_is format n h = by (nat_lt n (256 ^ word_size format)) refl h
  where
    by : (b : Bool) → nat_lt n (256 ^ word_size format) ≡ b → cond b [] (ValueTooLarge ∷ []) ≡ []
        → n < 256 ^ word_size format
    by true is k = ltb-true n (256 ^ word_size format) is
    by false is k = absurd (cc)

-- a number of a format's size that was written
pub sized_is : (is_big : Bool) (format : Format) (n : ℕ) (bytes : List ℕ) → bytes_in_width is_big (word_size format) n
    ≡ Ok bytes → (n < 256 ^ word_size format) × (bytes ≡ number_bytes is_big (word_size format) n)
sized_is is_big format n bytes e =
    by (offset_refusals format n) (offset_is format n) (sym (word_is is_big format n) ∙ e)
  where
    by : (rs : List Error) → (rs ≡ [] → n < 256 ^ word_size format)
        → bytes_or_refusal rs (number_bytes is_big (word_size format) n) ≡ Ok bytes
        → (n < 256 ^ word_size format) × (bytes ≡ number_bytes is_big (word_size format) n)
    by [] low k = (low refl, sym (same_ok (number_bytes is_big (word_size format) n) bytes k))
    by (d ∷ rs) low k = absurd (cc)

-- an offset that n bytes hold
abbrev pub Fits : Format → Text → Type 0
Fits format (in_header text) = Unit {0}
Fits format (of_strings offset) = offset < 256 ^ word_size format
Fits format (of_line_strings offset) = offset < 256 ^ word_size format

reference_is : (format : Format) (t : Text) → reference_refusals format t ≡ [] → Fits format t
reference_is format (in_header text) h = tt
reference_is format (of_strings offset) h = offset_is format offset h
reference_is format (of_line_strings offset) h = offset_is format offset h

-- a text that isn't refused in a list of a form
pub text_is : (e : Encoding) (form : ℕ) (t : Text) → text_refusals e form t ≡ []
    → (form_of t ≡ form) × Fits e.format t
text_is e form t h = by (form_of t == form) refl h
  where
    by : (b : Bool) → (form_of t == form) ≡ b
        → cond b (reference_refusals e.format t) (mismatch e.version ∷ []) ≡ []
        → (form_of t ≡ form) × Fits e.format t
    by true is k = (eqb-true (form_of t) form is, reference_is e.format t k)
    by false is k = absurd (cc)
