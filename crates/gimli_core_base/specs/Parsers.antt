-- What is read: a value and the rest, or the first fault.
use Rattle.std.specs.Prelude.{ℕ, ◌+◌, ◌==◌, Bool, nat_lt, List, [], ◌∷◌, length, Option, Some, None, Result, Ok, Err, if◌then◌else◌}
use Rattle.std.specs.List.{position}
use Rattle.gimli_core_base.specs.declared.error.Error.{Error}
use Rattle.gimli_core_base.specs.View.{View, after, prefix, unexpected_end}

-- A step from a state gives a value and the next state, or is refused.
abbrev pub Step : Type 0 → Type 0 → Type 0
Step S A = S → Result (A × S) Error

-- A parser is a step over the bytes that are left.
abbrev pub Parser : Type 0 → Type 0
Parser A = Step View A

-- the value, with nothing read
abbrev pub give : {S A : Type 0} → A → Step S A
give x s = Ok (x, s)

-- the refusal
abbrev pub fail : {S A : Type 0} → Error → Step S A
fail e s = Err e

-- what follows from a step's result; a refusal stays
abbrev pub proceed : {S A B : Type 0}
    → Result (A × S) Error → (A → Step S B) → Result (B × S) Error
proceed (Ok r) f = f r.0 r.1
proceed (Err e) f = Err e

-- one after the other
infixl 10 ◌>>=◌
abbrev pub ◌>>=◌ : {S A B : Type 0} → Step S A → (A → Step S B) → Step S B
(p >>= f) s = proceed (p s) f

infixl 10 ◌>>◌
abbrev pub ◌>>◌ : {S A B : Type 0} → Step S A → Step S B → Step S B
(p >> q) s = proceed (p s) (λ _. q)

-- one of two, by a test
abbrev pub branch : {S A : Type 0} → Bool → Step S A → Step S A → Step S A
branch b p q s = if b then p s else q s

-- the refusal, unless the test holds
abbrev pub demand : {S : Type 0} → Bool → Error → Step S (Unit {0})
demand b e s = if b then Ok (tt, s) else Err e

-- a result, with nothing read
abbrev pub lift : {S A : Type 0} → Result A Error → Step S A
lift (Ok x) s = Ok (x, s)
lift (Err e) s = Err e

-- the value, or the refusal where there is none
abbrev pub some_or : {S A : Type 0} → Error → Option A → Step S A
some_or e (Some x) s = Ok (x, s)
some_or e None s = Err e

-- the value alone
abbrev pub value_of : {S A : Type 0} → Result (A × S) Error → Result A Error
value_of (Ok r) = Ok r.0
value_of (Err e) = Err e

-- what a step from another state gives, without its rest
abbrev pub within : {S T A : Type 0} → T → Step T A → Step S A
within inner p = lift (value_of (p inner))

-- a function of the value
abbrev pub map_value : {S A B : Type 0} → (A → B) → Step S A → Step S B
map_value f p s = proceed (p s) (λ x. give (f x))

-- the state
abbrev pub here : {S : Type 0} → Step S S
here s = Ok (s, s)

-- the next n bytes
abbrev pub part : ℕ → Parser View
part n v =
    if nat_lt (length v.bytes) n then Err (unexpected_end v) else Ok (prefix n v, after n v)

-- skips n bytes
abbrev pub skip : ℕ → Parser (Unit {0})
skip n v = if nat_lt (length v.bytes) n then Err (unexpected_end v) else Ok (tt, after n v)

-- drops all but the first n bytes
abbrev pub truncate : ℕ → Parser (Unit {0})
truncate n v =
    if nat_lt (length v.bytes) n then Err (unexpected_end v) else Ok (tt, prefix n v)

-- the next byte
abbrev pub byte_of : List ℕ → Parser ℕ
byte_of [] v = Err (unexpected_end v)
byte_of (b ∷ _) v = Ok (b, after 1 v)

abbrev pub byte : Parser ℕ
byte v = byte_of v.bytes v

-- the index of the first byte that equals b
abbrev pub index_or_end : Option ℕ → View → Result ℕ Error
index_or_end (Some n) v = Ok n
index_or_end None v = Err (unexpected_end v)

abbrev pub find_byte : ℕ → View → Result ℕ Error
find_byte b v = index_or_end (position (λ x. x == b) v.bytes) v

-- A text: the bytes before the first zero byte, which is skipped (DWARF 5, 7.5.5, DW_FORM_string).
-- Without one the fault is where the text began.
abbrev pub text_to : Result ℕ Error → Parser View
text_to (Ok n) v = Ok (prefix n v, after (n + 1) v)
text_to (Err e) v = Err e

abbrev pub null_terminated : Parser View
null_terminated v = text_to (find_byte 0 v) v
