-- What is read of bytes, whatever follows them.
use Rattle.std.proofs.Common.{◌≡◌, ℕ, ◌+◌, ◌<◌, ◌^◌, Bool, true, List, [], ◌∷◌, ◌++◌, length, Option, Some, None, Result, Ok, refl, sym, ap, subst, ◌∙◌, arith, append_assoc, false}
use Rattle.std.specs.Prelude.{◌==◌, flat_map, All}
use Rattle.std.specs.List.{list_any}
use Rattle.std.proofs.lemmas.List.{length-append}
use Rattle.std.proofs.lemmas.List.Elements.{All-head, All-tail}
use Rattle.std.proofs.lemmas.Bool.{lt-ltb}
use Rattle.std.proofs.Math.Nat.{mod-eq_of_lt}
use Rattle.gimli_core_base.specs.declared.error.Error.{Error}
use Rattle.gimli_core_base.specs.View.{View, bytes_left}
use Rattle.gimli_core_base.specs.Repetition.{Listing, all_of, listing_in, whole, prepend}
use Rattle.gimli_core_base.proofs.Listings.{Shrinks, listing_item, listing_end}
use Rattle.gimli_core_base.specs.Parsers.{Parser, ◌>>=◌, proceed, give, lift, part, null_terminated}
use Rattle.gimli_core_base.proofs.PrefixReads.{part_again, text_again}
use Rattle.gimli_core_base.specs.declared.common.Format.{Format}
use Rattle.gimli_core_base.specs.declared.common.Format.TheVariants.{Dwarf32, Dwarf64}
use Rattle.gimli_core_base.specs.FormatSizes.{word_size}
use Rattle.gimli_core_base.specs.Fixed.{number_bytes}
use Rattle.gimli_core_base.specs.NumberParsers.{fixed, unsigned, offset_below, word, sized_offset, initial_length, length_of}
use Rattle.gimli_core_base.specs.Spelling.{unsigned_string}
use Rattle.gimli_core_base.proofs.NumberRoundTrip.{fixed_reads_back, unsigned_reads_back, length-spelled}
use Rattle.gimli_lines_write_bytes.specs.BytesAt.{bytes_at, values_at}
use Rattle.gimli_lines_write_bytes.specs.NumberBytes.{length_limit, spelled_length}

-- The parser reads the value from the bytes, and leaves what follows them.
pub record Again {A : Type 0} (is_big : Bool) (first : ℕ) (p : Parser A) (x : A) (string : List ℕ) : Type 0 where
  pub again : (rest : List ℕ) → p (bytes_at is_big first (string ++ rest))
      ≡ Ok (x, bytes_at is_big (first + length string) rest)

abbrev read_to : {A : Type 0} → Bool → A → List ℕ → ℕ → Result (A × View) Error
read_to is_big x rest n = Ok (x, bytes_at is_big n rest)

pub again_nothing : {A : Type 0} (is_big : Bool) (first : ℕ) (x : A) → Again is_big first (give x) x []
again_nothing is_big first x =
    record { again = λ rest. let same : first ≡ first + 0 = omega arith in ap (read_to is_big x rest) same }

pub again_onward : {A B : Type 0} {is_big : Bool} {first : ℕ} {p : Parser A} (f : A → Parser B) {x : A} {y : B}
    {xs ys : List ℕ} → Again is_big first p x xs → Again is_big (first + length xs) (f x) y ys
    → Again is_big first (p >>= f) y (xs ++ ys)
again_onward {A} {B} {is_big} {first} {p} f {x} {y} {xs} {ys} h j = record {
  again = λ rest.
      let long : first + length xs + length ys ≡ first + length (xs ++ ys) = omega (arith, length-append xs ys) in
      ap (λ (bytes : List ℕ). proceed (p (bytes_at is_big first bytes)) f) (append_assoc xs ys rest)
      ∙ ap (λ (r : Result (A × View) Error). proceed r f) (h.again (ys ++ rest))
      ∙ j.again rest
      ∙ ap (read_to is_big y rest) long;
}

-- a step after which nothing is read
pub again_then : {A B : Type 0} {is_big : Bool} {first : ℕ} {p : Parser A} (f : A → Parser B) {x : A} {y : B}
    {xs : List ℕ} → Again is_big first p x xs → ((v : View) → f x v ≡ Ok (y, v)) → Again is_big first (p >>= f) y xs
again_then {A} {B} {is_big} {first} {p} f {x} {y} {xs} h k = record {
  again = λ rest. ap (λ (r : Result (A × View) Error). proceed r f) (h.again rest)
      ∙ k (bytes_at is_big (first + length xs) rest);
}

-- the same parser by another name
pub again_same : {A : Type 0} {is_big : Bool} {first : ℕ} {p q : Parser A} {x : A} {xs : List ℕ}
    → ((v : View) → q v ≡ p v) → Again is_big first p x xs → Again is_big first q x xs
again_same {is_big = is_big} {first = first} {xs = xs} same h =
    record { again = λ rest. same (bytes_at is_big first (xs ++ rest)) ∙ h.again rest }

pub again_fixed : (is_big : Bool) (first n x : ℕ) → x < 256 ^ n
    → Again is_big first (fixed n) x (number_bytes is_big n x)
again_fixed is_big first n x h = record {
  again = λ rest. fixed_reads_back n x rest (bytes_at is_big first (number_bytes is_big n x ++ rest)) h refl
      ∙ ap (λ (k : ℕ). read_to is_big x rest (first + k)) (sym (length-spelled is_big n x));
}

pub again_unsigned : (is_big : Bool) (first n : ℕ) → n < 2 ^ 64 → Again is_big first unsigned n (unsigned_string n)
again_unsigned is_big first n h =
    record { again = λ rest. unsigned_reads_back n rest (bytes_at is_big first (unsigned_string n ++ rest)) h refl }

-- an offset below the limit
pub offset_is_below : (limit n : ℕ) → n < limit → offset_below limit n ≡ Ok n
offset_is_below limit n h = rw (lt-ltb n limit h) refl

-- a byte
pub one_byte : (is_big : Bool) (first n : ℕ) → n < 256 → Again is_big first (fixed 1) n (n ∷ [])
one_byte true first n h =
    subst (λ (b : ℕ). Again true first (fixed 1) n (b ∷ [])) (mod-eq_of_lt h) (again_fixed true first 1 n h)
one_byte false first n h =
    subst (λ (b : ℕ). Again false first (fixed 1) n (b ∷ [])) (mod-eq_of_lt h) (again_fixed false first 1 n h)

-- a number of bytes
pub part_is : (is_big : Bool) (first : ℕ) (xs : List ℕ)
    → Again is_big first (part (length xs)) (bytes_at is_big first xs) xs
part_is is_big first xs =
    record { again = λ rest. part_again (bytes_at is_big first (xs ++ rest)) xs rest (length xs) refl refl }

-- a text
pub null_again : (is_big : Bool) (first : ℕ) (text : List ℕ) → list_any (λ b. b == 0) text ≡ false
    → Again is_big first null_terminated (bytes_at is_big first text) (text ++ 0 ∷ [])
null_again is_big first text none = record {
  again = λ rest.
      let regrouped : (text ++ 0 ∷ []) ++ rest ≡ text ++ 0 ∷ rest = append_assoc text (0 ∷ []) rest in
      let long : first + (length text + 1) ≡ first + length (text ++ 0 ∷ []) =
      omega (arith, length-append text (0 ∷ [])) in
      text_again (bytes_at is_big first ((text ++ 0 ∷ []) ++ rest)) text rest none regrouped
      ∙ ap (λ (n : ℕ). Ok (bytes_at is_big first text, bytes_at is_big n rest)) long;
}

-- a word of a format
pub word_again : (limit : ℕ) (is_big : Bool) (first : ℕ) (format : Format) (n : ℕ) → n < 256 ^ word_size format
    → n < limit → Again is_big first (word limit format) n (number_bytes is_big (word_size format) n)
unfolding word sized_offset
word_again limit is_big first format n fits small =
    again_then (λ o. lift (offset_below limit o)) (again_fixed is_big first (word_size format) n fits)
    (λ v. rw (offset_is_below limit n small) refl)

-- an initial length
pub length_again : (limit : ℕ) (is_big : Bool) (first : ℕ) (format : Format) (n : ℕ) → n < length_limit format
    → n < limit → Again is_big first (initial_length limit) (n, format) (spelled_length format is_big n)
unfolding initial_length sized_offset
length_again limit is_big first Dwarf32 n fits small =
    again_then (length_of limit) (again_fixed is_big first 4 n (omega arith)) (λ v. rw (lt-ltb n 0xfffffff0 fits) refl)
length_again limit is_big first Dwarf64 n fits small =
    again_onward (length_of limit) (again_escape is_big)
    (again_then (λ m. give (m, Dwarf64))
    (again_then (λ o. lift (offset_below limit o)) (again_fixed is_big (first + 4) 8 n (omega arith))
    (λ v. rw (offset_is_below limit n small) refl)) (λ v. refl))
  where
    again_escape : (b : Bool) → Again b first (fixed 4) 0xffffffff (255 ∷ 255 ∷ 255 ∷ 255 ∷ [])
    again_escape true = again_fixed true first 4 0xffffffff (omega arith)
    again_escape false = again_fixed false first 4 0xffffffff (omega arith)

-- items, up to one that isn't there
module _ {A T : Type 0} (p : Parser (Option A)) (shrinks : Shrinks bytes_left p) (is_big : Bool)
    (string_of : T → List ℕ) (value : ℕ → T → A) (Good : T → Type 0) where
  again_items : (first : ℕ) (ts : List T) (end rest : List ℕ)
      → ((n : ℕ) (t : T) → Good t → Again is_big n p (Some (value n t)) (string_of t))
      → ((n : ℕ) → Again is_big n p None end) → All Good ts
      → listing_in bytes_left p (bytes_at is_big first ((flat_map string_of ts ++ end) ++ rest))
      ≡ record {
        items = values_at string_of value first ts;
        ending = Ok (bytes_at is_big (first + length (flat_map string_of ts ++ end)) rest);
      }
  again_items first [] end rest each last good =
      listing_end shrinks (bytes_at is_big first (end ++ rest)) (bytes_at is_big (first + length end) rest)
      ((last first).again rest)
  again_items first (t ∷ ts) end rest each last good =
      let string = string_of t in
      let more = flat_map string_of ts ++ end in
      let regrouped : ((string ++ flat_map string_of ts) ++ end) ++ rest ≡ string ++ (more ++ rest) =
      ap (λ l. l ++ rest) (append_assoc string (flat_map string_of ts) end) ∙ append_assoc string more rest in
      let long : first + length string + length more ≡ first + length ((string ++ flat_map string_of ts) ++ end) =
      omega (arith, length-append string more, ap length (append_assoc string (flat_map string_of ts) end)) in
      ap (λ l. listing_in bytes_left p (bytes_at is_big first l)) regrouped
      ∙ listing_item shrinks [] (value first t) (bytes_at is_big first (string ++ (more ++ rest)))
      (bytes_at is_big (first + length string) (more ++ rest))
      ((each first t (All-head Good t ts good)).again (more ++ rest))
      ∙ ap (λ (l : Listing View A). prepend (value first t ∷ []) l)
      (again_items (first + length string) ts end rest each last (All-tail Good t ts good))
      ∙ ap (λ (n : ℕ). record {
        items = value first t ∷ values_at string_of value (first + length string) ts;
        ending = Ok (bytes_at is_big n rest);
      }) long

  pub all_again : (first : ℕ) (ts : List T) (end : List ℕ)
      → ((n : ℕ) (t : T) → Good t → Again is_big n p (Some (value n t)) (string_of t))
      → ((n : ℕ) → Again is_big n p None end) → All Good ts
      → Again is_big first (all_of bytes_left p) (values_at string_of value first ts) (flat_map string_of ts ++ end)
  all_again first ts end each last good = record {
    again = λ rest. ap whole (again_items first ts end rest each last good);
  }
