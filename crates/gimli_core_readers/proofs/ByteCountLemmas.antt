-- How many bytes a parser takes where it yields a value, and what holds of the value.
use Rattle.std.proofs.Common.{◌≡◌, ℕ, ◌+◌, ◌-◌, ◌≤◌, Bool, true, false, cond, ltb, eqb, length, drop, Result, Ok, Err, refl, sym, ◌∙◌, ap, subst, arith, length-drop, lit<, ◌<◌, ◌||◌}
use Rattle.std.proofs.lemmas.Bool.{ltb-false, eqb-true}
use Rattle.std.proofs.lemmas.List.{drop-drop}
use Rattle.std.specs.Prelude.{IsTrue}
use Rattle.gimli_core_base.specs.declared.constants.TheConstants.{DWARF64_ESCAPE, FIRST_RESERVED_LENGTH}
use Rattle.gimli_core_base.specs.declared.error.Error.{Error}
use Rattle.gimli_core_base.specs.declared.error.Error.TheVariants.{UnknownReservedLength, UnsupportedAddressSize}
use Rattle.gimli_core_base.specs.View.{View, after, bytes_left, prefix, unexpected_end}
use Rattle.gimli_core_base.specs.Parsers.{Step, Parser, proceed, part, skip, lift, within, value_of}
use Rattle.gimli_core_base.proofs.StepParts.{begins, read, value_is, state_is, value_of-Ok, lift-Ok}
use Rattle.gimli_core_base.specs.declared.common.Format.{Format}
use Rattle.gimli_core_base.specs.declared.common.Format.TheVariants.{Dwarf32, Dwarf64}
use Rattle.gimli_core_base.specs.FormatSizes.{initial_length_size, word_size}
use Rattle.gimli_core_base.specs.NumberParsers.{fixed, sized_offset, offset_below, word, initial_length, address_size, is_address_size, address}

-- after one part and then another
pub after_after : (m n : ℕ) (v : View) → after n (after m v) ≡ after (m + n) v
after_after m n v =
    let bytes : drop n (drop m v.bytes) ≡ drop (m + n) v.bytes = drop-drop n m v.bytes in
    let place : (v.first + m) + n ≡ v.first + (m + n) = omega arith in
    cc

-- w is what is left of v after its first n bytes
pub record Took (n : ℕ) (v w : View) : Type 0 where
  pub rest : w ≡ after n v
  pub enough : n ≤ bytes_left v

pub took_left : {n : ℕ} {v w : View} → Took n v w → bytes_left w + n ≡ bytes_left v
took_left {n} {v} {w} h =
    let left : bytes_left w ≡ bytes_left v - n = ap bytes_left h.rest ∙ length-drop n v.bytes in
    let fits = h.enough in
    omega arith

pub took_both : {m n : ℕ} {u v w : View} → Took m u v → Took n v w → Took (m + n) u w
took_both {m} {n} {u} {v} {w} first second =
    let left = took_left first in
    record {
      rest = second.rest ∙ ap (after n) first.rest ∙ after_after m n u;
      enough = (let fits = first.enough in let more = second.enough in omega arith);
    }

pub took_same : {m n : ℕ} {v w : View} → Took m v w → m ≡ n → Took n v w
took_same {m} {n} {v} {w} h e = subst (λ (k : ℕ). Took k v w) e h

-- ---- what holds of each value that a parser yields, and of what it leaves

pub record Yields {A : Type 0} (P : A → View → Type 0) (r : Result (A × View) Error) : Type 0 where
  pub hold : (x : A) (w : View) → r ≡ Ok (x, w) → P x w

pub yields-Ok : {A : Type 0} {P : A → View → Type 0} (x : A) (w : View) → P x w → Yields P (read x w)
yields-Ok {A} {P} x w h =
    record {
      hold = λ y t e. subst (λ (z : A). P z t) (value_is x y w t e)
          (subst (λ (s : View). P x s) (state_is x y w t e) h);
    }

pub yields-Err : {A : Type 0} {P : A → View → Type 0} (d : Error) → Yields P (Err d)
yields-Err d = record { hold = λ y t e. absurd cc }

pub yields-proceed : {A B : Type 0} {P : A → View → Type 0} {Q : B → View → Type 0} {r : Result (A × View) Error}
    {f : A → Step View B} → Yields P r → ((x : A) (s : View) → P x s → Yields Q (f x s)) → Yields Q (proceed r f)
yields-proceed {r = r} {f = f} h k =
    record { hold = λ y t e. let b = begins r f y t e in (k b.0 b.1 (h.hold b.0 b.1 b.2)).hold y t b.3 }

pub yields-cond : {A : Type 0} {P : A → View → Type 0} {p q : Result (A × View) Error} (b : Bool)
    → (b ≡ true → Yields P p) → (b ≡ false → Yields P q) → Yields P (cond b p q)
yields-cond true h k = h refl
yields-cond false h k = k refl

pub yields-weaker : {A : Type 0} {P Q : A → View → Type 0} {r : Result (A × View) Error} → Yields P r
    → ((x : A) (w : View) → P x w → Q x w) → Yields Q r
yields-weaker h k = record { hold = λ y t e. k y t (h.hold y t e) }

-- ---- numbers

pub fixed_took : (n : ℕ) (v : View) → Yields (λ x w. Took n v w) (fixed n v)
unfolding fixed
fixed_took n v =
    yields-cond (ltb (length v.bytes) n) (λ _. yields-Err (unexpected_end v))
    (λ h. yields-Ok _ (after n v) (record { rest = refl; enough = ltb-false _ _ h }))

pub part_took : (n : ℕ) (v : View) → Yields (λ x w. (x ≡ prefix n v) × Took n v w) (part n v)
part_took n v =
    yields-cond (ltb (length v.bytes) n) (λ _. yields-Err (unexpected_end v))
    (λ h. yields-Ok _ (after n v) (refl, record { rest = refl; enough = ltb-false _ _ h }))

pub skip_took : (n : ℕ) (v : View) → Yields (λ x w. Took n v w) (skip n v)
skip_took n v =
    yields-cond (ltb (length v.bytes) n) (λ _. yields-Err (unexpected_end v))
    (λ h. yields-Ok _ (after n v) (record { rest = refl; enough = ltb-false _ _ h }))

pub lift_took : {A : Type 0} (r : Result A Error) (n : ℕ) (v w : View) → Took n v w
    → Yields (λ x t. Took n v t) (lift r w)
lift_took r n v w h = record { hold = λ x t e. subst (λ (s : View). Took n v s) (sym (lift-Ok r w x t e).1) h }

pub sized_offset_took : (limit n : ℕ) (v : View) → Yields (λ x w. Took n v w) (sized_offset limit n v)
unfolding sized_offset
sized_offset_took limit n v = yields-proceed (fixed_took n v) (λ x s h. lift_took (offset_below limit x) n v s h)

pub word_took : (limit : ℕ) (format : Format) (v : View)
    → Yields (λ x w. Took (word_size format) v w) (word limit format v)
unfolding word
word_took limit format v = sized_offset_took limit (word_size format) v

pub address_size_took : (v : View) → Yields (λ x w. IsTrue (is_address_size x) × Took 1 v w) (address_size v)
unfolding address_size
address_size_took v =
    yields-proceed (fixed_took 1 v)
    (λ x s h. yields-cond (is_address_size x) (λ is. yields-Ok x s (is, h))
    (λ _. yields-Err (UnsupportedAddressSize x)))

-- an initial length takes the bytes that its format has for it
pub initial_length_took : (limit : ℕ) (v : View)
    → Yields (λ l w. Took (initial_length_size l.1) v w) (initial_length limit v)
unfolding initial_length
initial_length_took limit v =
    yields-proceed (fixed_took 4 v) (λ x s h.
    yields-cond (ltb x FIRST_RESERVED_LENGTH) (λ _. yields-Ok (x, Dwarf32) s h) (λ _.
    yields-cond (eqb x DWARF64_ESCAPE)
    (λ _. yields-proceed (sized_offset_took limit 8 s) (λ n t k. yields-Ok (n, Dwarf64) t (took_both h k)))
    (λ _. yields-Err (UnknownReservedLength x))))

-- what is so of a nested view's value
pub yields-within : {A : Type 0} {P : A → Type 0} (inner : View) (p : Parser A) (s : View)
    → Yields (λ x w. P x) (p inner) → Yields (λ x w. P x × (w ≡ s)) (within inner p s)
yields-within {A} {P} inner p s h = record {
  hold = λ x w e.
      let lifted = lift-Ok (value_of (p inner)) s x w e in
      let found = value_of-Ok (p inner) x lifted.0 in
      (h.hold x found.0 found.1, lifted.1);
}

-- ---- sizes

-- an address takes some bytes
pub some_size : (n : ℕ) → IsTrue (is_address_size n) → 0 < n
some_size n h = one (eqb n 1) refl h
  where
    four : (b : Bool) → eqb n 4 ≡ b → IsTrue (b || eqb n 8) → 0 < n
    four true e k = let is = eqb-true n 4 e in omega arith
    four false e k = let is = eqb-true n 8 k in omega arith

    two : (b : Bool) → eqb n 2 ≡ b → IsTrue ((b || eqb n 4) || eqb n 8) → 0 < n
    two true e k = let is = eqb-true n 2 e in omega arith
    two false e k = four (eqb n 4) refl k

    one : (b : Bool) → eqb n 1 ≡ b → IsTrue (((b || eqb n 2) || eqb n 4) || eqb n 8) → 0 < n
    one true e k = let is = eqb-true n 1 e in omega arith
    one false e k = two (eqb n 2) refl k

-- an address takes the bytes of its size, of which there are some
pub address_took : (size : ℕ) (v : View) → Yields (λ x w. (0 < size) × Took size v w) (address size v)
unfolding address
address_took size v =
    yields-cond (is_address_size size)
    (λ is. yields-weaker (fixed_took size v) (λ x w h. (some_size size is, h)))
    (λ _. yields-Err (UnsupportedAddressSize size))

pub four_at_least : (format : Format) → 0 < initial_length_size format
four_at_least Dwarf32 = lit< tt
four_at_least Dwarf64 = lit< tt
