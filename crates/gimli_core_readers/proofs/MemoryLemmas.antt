-- What is defined by bytes alone never runs out of memory.
use Rattle.std.proofs.Common.{◌≡◌, ℕ, ◌+◌, ◌*◌, Bool, true, false, cond, ltb, eqb, ◌^◌, length, Result, Ok, Err, ap, sym, ◌∙◌}
use Rattle.std.specs.Result.{IsErrAnd}
use Rattle.gimli_core_base.specs.declared.constants.TheConstants.{DWARF64_ESCAPE, FIRST_RESERVED_LENGTH}
use Rattle.gimli_core_base.specs.declared.error.Error.{Error}
use Rattle.gimli_core_base.specs.declared.error.Error.TheVariants.{Memory, BadUnsignedLeb128}
use Rattle.gimli_core_base.specs.declared.common.Format.{Format}
use Rattle.gimli_core_base.specs.declared.leb128.Fault.{Fault}
use Rattle.gimli_core_base.specs.declared.leb128.Fault.TheVariants.{Cut, Bad}
use Rattle.gimli_core_base.specs.View.{View, unexpected_end}
use Rattle.gimli_core_base.specs.Parsers.{Step, proceed, lift, skip, part, value_of}
use Rattle.gimli_core_base.specs.Calls.{ReturnsAs}
use Rattle.gimli_core_base.specs.FormatSizes.{word_size}
use Rattle.gimli_core_base.specs.Leb128.{unsigned_at}
use Rattle.gimli_core_base.specs.NumberParsers.{fixed, unsigned, number_and_rest, sized_offset, word, offset_below, initial_length, address_size, address, is_address_size}
use Rattle.gimli_core_readers.specs.SectionReads.{offset_of_index, skip_to_index, address_at}
use Rattle.gimli_core_readers.specs.AddressSets.{set_encoding}

-- not refused for lack of memory
abbrev pub IsFree : {A : Type 0} → Result A Error → Type 0
IsFree r = r ≡ Err Memory → ⊥

-- ---- steps

pub free-onward : {S A B : Type 0} {r : Result (A × S) Error} {f : A → Step S B} → IsFree r
    → ((x : A) (s : S) → IsFree (f x s)) → IsFree (proceed r f)
free-onward {r = Ok r} {f = f} h k = k r.0 r.1
free-onward {S = S} {A = A} {B = B} {r = Err e} {f = f} h k =
    λ is. let same : e ≡ Memory = is_refusal e is in h (ap refusal same)
  where
    refusal : Error → Result (A × S) Error
    refusal d = Err d

    after_refusal : Error → Result (B × S) Error
    after_refusal d = Err d

    is_refusal : (d : Error) → after_refusal d ≡ Err Memory → d ≡ Memory
    is_refusal d h = cc

pub free-value_of : {S A : Type 0} {r : Result (A × S) Error} → IsFree r → IsFree (value_of r)
free-value_of {r = Ok r} h = λ is. absurd cc
free-value_of {S = S} {A = A} {r = Err e} h = λ is. let same : e ≡ Memory = is_refusal e is in h (ap refusal same)
  where
    refusal : Error → Result (A × S) Error
    refusal d = Err d

    after_refusal : Error → Result A Error
    after_refusal d = Err d

    is_refusal : (d : Error) → after_refusal d ≡ Err Memory → d ≡ Memory
    is_refusal d h = cc

pub free-lift : {S A : Type 0} (r : Result A Error) (s : S) → IsFree r → IsFree (lift r s)
free-lift (Ok x) s h = λ is. absurd cc
free-lift {S} {A} (Err e) s h = λ is. let same : e ≡ Memory = is_refusal e is in h (ap refusal same)
  where
    refusal : Error → Result A Error
    refusal d = Err d

    error_of : Error → Result (A × S) Error
    error_of d = Err d

    is_refusal : (d : Error) → error_of d ≡ Err Memory → d ≡ Memory
    is_refusal d k = cc

pub free-cond : {A : Type 0} (b : Bool) {x y : Result A Error} → IsFree x → IsFree y → IsFree (cond b x y)
free-cond true h k = h
free-cond false h k = k

pub free-Ok : {A : Type 0} (x : A) → IsFree {A = A} (Ok x)
free-Ok x = λ h. absurd cc

free-ends : {A : Type 0} (v : View) → IsFree {A = A} (Err (unexpected_end v))
free-ends v = λ h. absurd cc

-- a refusal that is the definition's is as free
pub free_refusal : {A B : Type 0} (e : Error) (d : Result B Error) → d ≡ Err e → IsFree d → IsFree {A = A} (Err e)
free_refusal {A} {B} e d h free = λ is. let same : e ≡ Memory = is_refusal e is in free (h ∙ ap refusal same)
  where
    refusal : Error → Result B Error
    refusal y = Err y

    error_of : Error → Result A Error
    error_of y = Err y

    is_refusal : (y : Error) → error_of y ≡ Err Memory → y ≡ Memory
    is_refusal y k = cc

-- the same of any answer
pub free_answer : {A B : Type 0} (see : A → B) (r : Result A Error) (d : Result B Error) → ReturnsAs see r d → IsFree d
    → IsFree r
free_answer see (Ok x) d h free = λ is. absurd cc
free_answer see (Err e) d h free = free_refusal e d h free

-- ---- numbers

pub free-fixed : (n : ℕ) (v : View) → IsFree (fixed n v)
unfolding fixed
free-fixed n v = free-cond (ltb (length v.bytes) n) (free-ends v) (free-Ok _)

free-rest : (v : View) (r : Result (ℕ × ℕ) Fault) → IsFree (number_and_rest BadUnsignedLeb128 v r)
free-rest v (Ok p) = λ h. absurd cc
free-rest v (Err Cut) = λ h. absurd cc
free-rest v (Err Bad) = λ h. absurd cc

pub free-unsigned : (v : View) → IsFree (unsigned v)
unfolding unsigned
free-unsigned v = free-rest v (unsigned_at 10 (2 ^ 64) v.bytes)

pub free-address : (size : ℕ) (v : View) → IsFree (address size v)
unfolding address
free-address size v = free-cond (is_address_size size) (free-fixed size v) (λ h. absurd cc)

pub free-offset : (limit n : ℕ) → IsFree (offset_below limit n)
free-offset limit n = free-cond (ltb n limit) (free-Ok n) (λ h. absurd cc)

pub free-skip : (n : ℕ) (v : View) → IsFree (skip n v)
free-skip n v = free-cond (ltb (length v.bytes) n) (free-ends v) (free-Ok _)

pub free-part : (n : ℕ) (v : View) → IsFree (part n v)
free-part n v = free-cond (ltb (length v.bytes) n) (free-ends v) (free-Ok _)

pub free-sized_offset : (limit n : ℕ) (v : View) → IsFree (sized_offset limit n v)
unfolding sized_offset
free-sized_offset limit n v =
    free-onward (free-fixed n v) (λ x s. free-lift (offset_below limit x) s (free-offset limit x))

pub free-word : (limit : ℕ) (format : Format) (v : View) → IsFree (word limit format v)
unfolding word
free-word limit format v = free-sized_offset limit (word_size format) v

pub free-initial_length : (limit : ℕ) (v : View) → IsFree (initial_length limit v)
unfolding initial_length
free-initial_length limit v = free-onward (free-fixed 4 v) (λ word s.
    free-cond (ltb word FIRST_RESERVED_LENGTH) (free-Ok _)
    (free-cond (eqb word DWARF64_ESCAPE) (free-onward (free-sized_offset limit 8 s) (λ n t. free-Ok _))
    (λ h. absurd cc)))

pub free-address_size : (v : View) → IsFree (address_size v)
unfolding address_size
free-address_size v = free-onward (free-fixed 1 v) (λ n s. free-cond (is_address_size n) (free-Ok _) (λ h. absurd cc))

-- ---- address sets

pub free-set_encoding : (format : Format) (v : View) → IsFree (set_encoding format v)
unfolding set_encoding
free-set_encoding format v =
    free-onward (free-fixed 2 v) (λ version s1.
    free-onward (free-cond (eqb version 5) (free-Ok _) (λ h. absurd cc)) (λ of_5 s2.
    free-onward (free-address_size s2) (λ size s3.
    free-onward (free-fixed 1 s3) (λ segment s4.
    free-onward (free-cond (eqb segment 0) (free-Ok _) (λ h. absurd cc)) (λ flat s5. free-Ok _)))))

-- ---- the address of an index

free-place : (base index width : ℕ) → IsFree (offset_of_index base index width)
free-place base index width =
    free-cond (ltb (base + index * width) (2 ^ 64)) (free-Ok (base + index * width)) (λ h. absurd cc)

pub free-to_place : (base index width : ℕ) (v : View) → IsFree (skip_to_index base index width v)
free-to_place base index width v =
    free-onward (free-lift (offset_of_index base index width) v (free-place base index width)) free-skip

pub free-address_at : (size base index : ℕ) (v : View) → IsFree (address_at size base index v)
free-address_at size base index v =
    free-value_of (free-onward (free-to_place base index size v) (λ x s. free-address size s))

-- a refusal that is handed on isn't for lack of memory, where what was read has no such refusal
pub free-refused : {A B : Type 0} (result : Result A Error) (d : Error) (read : Result B Error)
    → IsErrAnd result (λ e. e ≡ d) → read ≡ Err d → IsFree read → IsFree result
free-refused (Ok x) d read h e free = absurd h
free-refused {A} {B} (Err x) d read h e free =
    λ is. let same : x ≡ Memory = is_refusal x is in free (e ∙ ap refusal (sym h ∙ same))
  where
    refusal : Error → Result B Error
    refusal y = Err y

    handed_on : Error → Result A Error
    handed_on y = Err y

    is_refusal : (y : Error) → handed_on y ≡ Err Memory → y ≡ Memory
    is_refusal y k = cc
