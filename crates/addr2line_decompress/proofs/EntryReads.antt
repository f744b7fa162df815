-- Section headers read from the bytes of their entries, as they are or with fields written anew.
use Rattle.std.proofs.Common.{◌≡◌, ℕ, ◌+◌, ◌≤◌, Bool, cond, List, [], ◌∷◌, ◌++◌, length, take, drop, Result, Ok, Err, refl, sym, ap, subst, ◌∙◌, arith, length-drop}
use Rattle.std.proofs.lemmas.Bool.{le-ltb}
use Rattle.std.proofs.lemmas.List.{length-append, length-take, take-append-drop, take_at}
use Rattle.gimli_core_readers.specs.Error.{Error}
use Rattle.gimli_core_readers.specs.View.{View, after, unexpected_end}
use Rattle.gimli_core_readers.specs.Parsers.{Parser, ◌>>=◌, give, skip}
use Rattle.gimli_core_readers.specs.Fixed.{number}
use Rattle.gimli_core_readers.specs.NumberParsers.{fixed}
use Rattle.gimli_lines_write_bytes.specs.BytesAt.{bytes_at}
use Rattle.gimli_lines_write_bytes.proofs.PrefixReads.{after_is}
use Rattle.gimli_lines_write_bytes.proofs.FollowedReads.{Again, again_nothing, again_onward}
use Rattle.addr2line_elf.specs.declared.class.Class.{Class}
use Rattle.addr2line_elf.specs.declared.class.Class.TheVariants.{Elf32, Elf64}
use Rattle.addr2line_elf.specs.ElfClasses.{word_size}
use Rattle.addr2line_elf.specs.ElfHeaders.{file_header}
use Rattle.addr2line_decompress.specs.ImageTables.{file_header_size}

-- ---- a number of bytes that is skipped, or read as a number

pub again_skip : (is_big : Bool) (first k : ℕ) (xs : List ℕ) → length xs ≡ k → Again is_big first (skip k) tt xs
again_skip is_big first k xs len = record {
  again = λ rest.
      let v = bytes_at is_big first (xs ++ rest) in
      let enough : k ≤ length (xs ++ rest) = omega (arith, length-append xs rest) in
      ap (λ (b : Bool). cond {A = Result (Unit {0} × View) Error} b (Err (unexpected_end v)) (Ok (tt, after k v)))
      (le-ltb _ _ enough)
      ∙ ap (λ (w : View). Ok (tt, w)) (after_is v xs rest k refl len)
      ∙ ap (λ (n : ℕ). Ok (tt, bytes_at is_big (first + n) rest)) (sym len);
}

pub again_number : (is_big : Bool) (first k : ℕ) (xs : List ℕ) → length xs ≡ k
    → Again is_big first (fixed k) (number is_big xs) xs
unfolding fixed
again_number is_big first k xs len = record {
  again = λ rest.
      let v = bytes_at is_big first (xs ++ rest) in
      let value = number is_big (take k (xs ++ rest)) in
      let enough : k ≤ length (xs ++ rest) = omega (arith, length-append xs rest) in
      ap (λ (b : Bool). cond {A = Result (ℕ × View) Error} b (Err (unexpected_end v)) (Ok (value, after k v)))
      (le-ltb _ _ enough)
      ∙ ap (λ (w : View). read value w) (after_is v xs rest k refl len)
      ∙ ap (λ (ys : List ℕ). read (number is_big ys) (bytes_at is_big (first + k) rest)) (take_at xs rest k len)
      ∙ ap (λ (n : ℕ). read (number is_big xs) (bytes_at is_big (first + n) rest)) (sym len);
}
  where
    read : ℕ → View → Result (ℕ × View) Error
    read x w = Ok (x, w)

-- the same bytes, grouped in another way
pub again_regrouped : {A : Type 0} {is_big : Bool} {first : ℕ} {p : Parser A} {x : A} {xs ys : List ℕ} → xs ≡ ys
    → Again is_big first p x xs → Again is_big first p x ys
again_regrouped {is_big = is_big} {first = first} {p = p} {x = x} same h =
    subst (λ (zs : List ℕ). Again is_big first p x zs) same h

-- ---- parsers that read a number of bytes, and give the same whatever follows these

pub record Determined {A : Type 0} (k : ℕ) (p : Parser A) : Type 0 where
  pub reads : (is_big : Bool) (first : ℕ) (xs : List ℕ) → length xs ≡ k → (x : A) × Again is_big first p x xs

pub determined_fixed : (k : ℕ) → Determined k (fixed k)
determined_fixed k = record { reads = λ is_big first xs len. (number is_big xs, again_number is_big first k xs len) }

pub determined_skip : (k : ℕ) → Determined k (skip k)
determined_skip k = record { reads = λ is_big first xs len. (tt, again_skip is_big first k xs len) }

pub determined_give : {A : Type 0} (x : A) → Determined {A = A} 0 (give x)
determined_give {A} x = record { reads = λ is_big first xs len. (x, none is_big first xs len) }
  where
    none : (is_big : Bool) (first : ℕ) (xs : List ℕ) → length xs ≡ 0 → Again {A = A} is_big first (give x) x xs
    none is_big first [] len = again_nothing is_big first x
    none is_big first (b ∷ bs) len = absurd (omega (arith, len))

pub determined_onward : {A B : Type 0} (j k : ℕ) {p : Parser A} {f : A → Parser B} → Determined j p
    → ((x : A) → Determined k (f x)) → Determined (j + k) (p >>= f)
determined_onward {A} {B} j k {p} {f} h t = record {
  reads = λ is_big first xs len.
      let begin = take j xs in
      let end = drop j xs in
      let begin_len : length begin ≡ j = omega (arith, length-take j xs) in
      let end_len : length end ≡ k = omega (arith, length-drop j xs) in
      let r = h.reads is_big first begin begin_len in
      let s = (t r.0).reads is_big (first + length begin) end end_len in
      (s.0, again_regrouped (take-append-drop j xs) (again_onward f r.1 s.1));
}

same_size : {A : Type 0} {p : Parser A} (j k : ℕ) → j ≡ k → Determined j p → Determined k p
same_size {A} {p} j k same h = subst (λ (n : ℕ). Determined n p) same h

header_sum : (class : Class) (w : ℕ) → word_size class ≡ w
    → 16 + (2 + (6 + (w + (w + (w + (10 + (2 + (2 + (2 + 0))))))))) ≡ file_header_size class
header_sum Elf32 w is = omega arith
header_sum Elf64 w is = omega arith

pub determined_file_header : (class : Class) → Determined (file_header_size class) (file_header class)
unfolding file_header
determined_file_header class =
    let w : ℕ = word_size class in
    same_size _ _ (header_sum class w refl)
    (determined_onward 16 _ (determined_skip 16) (λ a. determined_onward 2 _ (determined_fixed 2) (λ b.
    determined_onward 6 _ (determined_skip 6) (λ c. determined_onward w _ (determined_skip w) (λ d.
    determined_onward w _ (determined_skip w) (λ e. determined_onward w _ (determined_fixed w) (λ f.
    determined_onward 10 _ (determined_skip 10) (λ g. determined_onward 2 _ (determined_fixed 2) (λ h.
    determined_onward 2 _ (determined_fixed 2) (λ i. determined_onward 2 _ (determined_fixed 2) (λ j.
    determined_give _)))))))))))
