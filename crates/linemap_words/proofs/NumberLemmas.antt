-- The number at an option, from the text that it has.
use Rattle.std.proofs.Common.{◌≡◌, ◌<◌, ◌^◌, ℕ, List, refl, sym, Option, None, Some, Result, Ok, Err, IfSome, IsSomeAnd}
use Rattle.std.specs.Str.Parse.{ParsesUnsigned}
use Rattle.clap.specs.Matches.{ReadsOne}
use Rattle.linemap_words.specs.WordsRequest.{IsDecimal}

-- a number that is read is that of the text
pub number_of_text : (E : Type 0) (G : List ℕ → Result ℕ E → Type 0) (o : Option (List ℕ)) (r : Option ℕ)
    → (o ≡ None → r ≡ None)
    → ((t : List ℕ) → o ≡ Some t → ReadsOne G t r) → ((t : List ℕ) (x : Result ℕ E) → G t x → ParsesUnsigned 16 10 t x)
    → IfSome r (λ n. IsSomeAnd o (λ text. IsDecimal text n))
number_of_text E G None None none value only = tt
number_of_text E G None (Some n) none value only =
    let bad : Some n ≡ None = none refl in
    absurd cc
number_of_text E G (Some t) None none value only = tt
number_of_text E G (Some t) (Some n) none value only =
    let read = only t (Ok n) (value t refl) in
    (read.0.0, sym read.1)

-- a text is refused only if it has no number of 16 bits
pub no_number_of_text : (E : Type 0) (G : List ℕ → Result ℕ E → Type 0) (o : Option (List ℕ)) (r : Option ℕ)
    → ((t : List ℕ) → o ≡ Some t → ReadsOne G t r) → ((t : List ℕ) (x : Result ℕ E) → G t x → ParsesUnsigned 16 10 t x)
    → r ≡ None → (n : ℕ) → n < 2 ^ 16 → IsSomeAnd o (λ text. IsDecimal text n) → ⊥
no_number_of_text E G None r value only none n low is = is
no_number_of_text E G (Some t) None value only none n low is =
    let read = value t refl in
    only t (Err read.0) read.1 (is.0, rw is.1 low)
no_number_of_text E G (Some t) (Some m) value only none n low is = absurd cc
