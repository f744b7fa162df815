-- Steps leave no more than there was, and some leave less: the facts by which repetitions end.
use Rattle.std.proofs.Common.{◌≡◌, ℕ, ◌+◌, ◌≤◌, ◌<◌, Bool, true, false, cond, List, [], ◌∷◌, length, take, drop, Option, Some, None, Result, Ok, Err, refl, ap, subst, arith, eqb, length-drop}
use Rattle.std.proofs.lemmas.List.{length-take}
use Rattle.std.specs.List.{position}
use Rattle.std.proofs.lemmas.List.Quantifiers.{position-Some}
use Rattle.gimli_core_base.specs.declared.error.Error.{Error}
use Rattle.gimli_core_base.specs.View.{View, bytes_left}
use Rattle.gimli_core_base.specs.Repetition.{until_end}
use Rattle.gimli_core_base.specs.Parsers.{Step, Parser, proceed, lift, some_or, byte, byte_of, part, skip, truncate, null_terminated, index_or_end, text_to}
use Rattle.gimli_core_base.proofs.StepParts.{begins, state_is, value_is}

-- a value leaves at most n of the size
pub record AtMost {S A : Type 0} (size : S → ℕ) (n : ℕ) (r : Result (A × S) Error) : Type 0 where
  pub left : (x : A) (s : S) → r ≡ Ok (x, s) → size s ≤ n

-- a value leaves less than n of the size
pub record Below {S A : Type 0} (size : S → ℕ) (n : ℕ) (r : Result (A × S) Error) : Type 0 where
  pub left : (x : A) (s : S) → r ≡ Ok (x, s) → size s < n

-- an item leaves less than n of the size
pub record SomeBelow {S A : Type 0} (size : S → ℕ) (n : ℕ) (r : Result (Option A × S) Error) : Type 0 where
  pub left : (x : A) (s : S) → r ≡ Ok (Some x, s) → size s < n

-- ---- answers

pub AtMost-Ok : {S A : Type 0} {size : S → ℕ} {n : ℕ} {x : A} {s : S} → size s ≤ n → AtMost size n (Ok (x, s))
AtMost-Ok {S} {A} {size} {n} {x} {s} h =
    record { left = λ y t e. let is : s ≡ t = state_is x y s t e in subst (λ (u : S). size u ≤ n) is h }

pub Below-Ok : {S A : Type 0} {size : S → ℕ} {n : ℕ} {x : A} {s : S} → size s < n → Below size n (Ok (x, s))
Below-Ok {S} {A} {size} {n} {x} {s} h =
    record { left = λ y t e. let is : s ≡ t = state_is x y s t e in subst (λ (u : S). size u < n) is h }

pub SomeBelow-Ok : {S A : Type 0} {size : S → ℕ} {n : ℕ} {o : Option A} {s : S} → size s < n
    → SomeBelow size n (Ok (o, s))
SomeBelow-Ok {S} {A} {size} {n} {o} {s} h =
    record { left = λ y t e. let is : s ≡ t = state_is o (Some y) s t e in subst (λ (u : S). size u < n) is h }

pub SomeBelow-None : {S A : Type 0} {size : S → ℕ} {n : ℕ} {s : S} → SomeBelow {S = S} {A = A} size n (Ok (None, s))
SomeBelow-None {S} {A} {size} {n} {s} =
    record { left = λ y t e. let is : none ≡ Some y = value_is none (Some y) s t e in absurd cc }
  where
    none : Option A
    none = None

pub AtMost-Err : {S A : Type 0} {size : S → ℕ} {n : ℕ} {d : Error} → AtMost {S = S} {A = A} size n (Err d)
AtMost-Err = record { left = λ y t e. absurd cc }

pub Below-Err : {S A : Type 0} {size : S → ℕ} {n : ℕ} {d : Error} → Below {S = S} {A = A} size n (Err d)
Below-Err = record { left = λ y t e. absurd cc }

pub SomeBelow-Err : {S A : Type 0} {size : S → ℕ} {n : ℕ} {d : Error} → SomeBelow {S = S} {A = A} size n (Err d)
SomeBelow-Err = record { left = λ y t e. absurd cc }

-- ---- one after the other

pub AtMost-proceed : {S A B : Type 0} {size : S → ℕ} {n : ℕ} {r : Result (A × S) Error} {f : A → Step S B}
    → AtMost size n r → ((x : A) (s : S) → size s ≤ n → AtMost size n (f x s)) → AtMost size n (proceed r f)
AtMost-proceed {r = r} {f = f} h k =
    record { left = λ y t e. let b = begins r f y t e in (k b.0 b.1 (h.left b.0 b.1 b.2)).left y t b.3 }

-- the first part takes something
pub Below-proceed : {S A B : Type 0} {size : S → ℕ} {n : ℕ} {r : Result (A × S) Error} {f : A → Step S B}
    → Below size n r → ((x : A) (s : S) → size s < n → Below size n (f x s)) → Below size n (proceed r f)
Below-proceed {r = r} {f = f} h k =
    record { left = λ y t e. let b = begins r f y t e in (k b.0 b.1 (h.left b.0 b.1 b.2)).left y t b.3 }

-- the rest takes something
pub Below-proceed_rest : {S A B : Type 0} {size : S → ℕ} {n : ℕ} {r : Result (A × S) Error} {f : A → Step S B}
    → AtMost size n r → ((x : A) (s : S) → size s ≤ n → Below size n (f x s)) → Below size n (proceed r f)
Below-proceed_rest {r = r} {f = f} h k =
    record { left = λ y t e. let b = begins r f y t e in (k b.0 b.1 (h.left b.0 b.1 b.2)).left y t b.3 }

pub SomeBelow-proceed : {S A B : Type 0} {size : S → ℕ} {n : ℕ} {r : Result (A × S) Error} {f : A → Step S (Option B)}
    → Below size n r → ((x : A) (s : S) → size s < n → SomeBelow size n (f x s)) → SomeBelow size n (proceed r f)
SomeBelow-proceed {r = r} {f = f} h k =
    record { left = λ y t e. let b = begins r f (Some y) t e in (k b.0 b.1 (h.left b.0 b.1 b.2)).left y t b.3 }

pub SomeBelow-proceed_rest : {S A B : Type 0} {size : S → ℕ} {n : ℕ} {r : Result (A × S) Error}
    {f : A → Step S (Option B)} → AtMost size n r → ((x : A) (s : S) → size s ≤ n → SomeBelow size n (f x s))
    → SomeBelow size n (proceed r f)
SomeBelow-proceed_rest {r = r} {f = f} h k =
    record { left = λ y t e. let b = begins r f (Some y) t e in (k b.0 b.1 (h.left b.0 b.1 b.2)).left y t b.3 }

-- ---- one of two

pub AtMost-cond : {S A : Type 0} {size : S → ℕ} {n : ℕ} (b : Bool) {p q : Result (A × S) Error} → AtMost size n p
    → AtMost size n q → AtMost size n (cond b p q)
AtMost-cond {size = size} {n = n} b {p = p} {q = q} h k =
    elim b as (λ v. AtMost size n (cond v p q)) [ true ↦ h | false ↦ k ]

pub Below-cond : {S A : Type 0} {size : S → ℕ} {n : ℕ} (b : Bool) {p q : Result (A × S) Error} → Below size n p
    → Below size n q → Below size n (cond b p q)
Below-cond {size = size} {n = n} b {p = p} {q = q} h k =
    elim b as (λ v. Below size n (cond v p q)) [ true ↦ h | false ↦ k ]

pub SomeBelow-cond : {S A : Type 0} {size : S → ℕ} {n : ℕ} (b : Bool) {p q : Result (Option A × S) Error}
    → SomeBelow size n p → SomeBelow size n q → SomeBelow size n (cond b p q)
SomeBelow-cond {size = size} {n = n} b {p = p} {q = q} h k =
    elim b as (λ v. SomeBelow size n (cond v p q)) [ true ↦ h | false ↦ k ]

-- ---- from one to another

pub AtMost-Below : {S A : Type 0} {size : S → ℕ} {n : ℕ} {r : Result (A × S) Error} → Below size n r → AtMost size n r
AtMost-Below h = record { left = λ x s e. let lt = h.left x s e in omega arith }

pub SomeBelow-Below : {S A : Type 0} {size : S → ℕ} {n : ℕ} {r : Result (Option A × S) Error} → Below size n r
    → SomeBelow size n r
SomeBelow-Below h = record { left = λ x s e. h.left (Some x) s e }

pub Below-lt : {S A : Type 0} {size : S → ℕ} {m n : ℕ} {r : Result (A × S) Error} → AtMost size m r → m < n
    → Below size n r
Below-lt h k = record { left = λ x s e. let le = h.left x s e in omega arith }

-- ---- single steps

pub AtMost-lift : {S A : Type 0} {size : S → ℕ} {n : ℕ} (r : Result A Error) (s : S) → size s ≤ n
    → AtMost size n (lift r s)
AtMost-lift {size = size} {n = n} r s h =
    elim r as (λ v. AtMost size n (lift v s)) [ Ok x ↦ AtMost-Ok h | Err e ↦ AtMost-Err ]

pub Below-lift : {S A : Type 0} {size : S → ℕ} {n : ℕ} (r : Result A Error) (s : S) → size s < n
    → Below size n (lift r s)
Below-lift {size = size} {n = n} r s h =
    elim r as (λ v. Below size n (lift v s)) [ Ok x ↦ Below-Ok h | Err e ↦ Below-Err ]

pub AtMost-some_or : {S A : Type 0} {size : S → ℕ} {n : ℕ} (e : Error) (o : Option A) (s : S) → size s ≤ n
    → AtMost size n (some_or e o s)
AtMost-some_or {size = size} {n = n} e o s h =
    elim o as (λ v. AtMost size n (some_or e v s)) [ Some x ↦ AtMost-Ok h | None ↦ AtMost-Err ]

pub Below-some_or : {S A : Type 0} {size : S → ℕ} {n : ℕ} (e : Error) (o : Option A) (s : S) → size s < n
    → Below size n (some_or e o s)
Below-some_or {size = size} {n = n} e o s h =
    elim o as (λ v. Below size n (some_or e v s)) [ Some x ↦ Below-Ok h | None ↦ Below-Err ]

pub AtMost-part : {n : ℕ} (k : ℕ) (v : View) → bytes_left v ≤ n → AtMost bytes_left n (part k v)
AtMost-part {n} k v h = AtMost-cond _ AtMost-Err (AtMost-Ok (omega (arith, length-drop k v.bytes)))

pub AtMost-skip : {n : ℕ} (k : ℕ) (v : View) → bytes_left v ≤ n → AtMost bytes_left n (skip k v)
AtMost-skip {n} k v h = AtMost-cond _ AtMost-Err (AtMost-Ok (omega (arith, length-drop k v.bytes)))

pub AtMost-truncated : {n : ℕ} (k : ℕ) (v : View) → bytes_left v ≤ n → AtMost bytes_left n (truncate k v)
AtMost-truncated {n} k v h = AtMost-cond _ AtMost-Err (AtMost-Ok (omega (arith, length-take k v.bytes)))

below-byte_of : {n : ℕ} (xs : List ℕ) (v : View) → xs ≡ v.bytes → bytes_left v ≤ n → Below bytes_left n (byte_of xs v)
below-byte_of [] v e h = Below-Err
below-byte_of (x ∷ xs) v e h =
    let l : length (x ∷ xs) ≡ length v.bytes = ap length e in Below-Ok (omega (arith, length-drop 1 v.bytes))

pub Below-byte : {n : ℕ} (v : View) → bytes_left v ≤ n → Below bytes_left n (byte v)
Below-byte {n} v h = below-byte_of v.bytes v refl h

pub Below-null_terminated : {n : ℕ} (v : View) → bytes_left v ≤ n → Below bytes_left n (null_terminated v)
Below-null_terminated {n} v h = cases (position (λ x. eqb x 0) v.bytes) refl
  where
    cases : (o : Option ℕ) → position (λ x. eqb x 0) v.bytes ≡ o → Below bytes_left n (text_to (index_or_end o v) v)
    cases None e = Below-Err
    cases (Some i) e = let lt : i < length v.bytes = (position-Some (λ x. eqb x 0) v.bytes i 0 e).0 in Below-Ok
        (omega (arith, length-drop (i + 1) v.bytes))

-- what is after or before a place is no more than there was
pub drop_at_most : {n : ℕ} (k : ℕ) (xs : List ℕ) → length xs ≤ n → length (drop k xs) ≤ n
drop_at_most k xs h = omega (arith, length-drop k xs)

pub drop_below : {n : ℕ} (k : ℕ) (xs : List ℕ) → length xs < n → length (drop k xs) < n
drop_below k xs h = omega (arith, length-drop k xs)

pub take_at_most : {n : ℕ} (k : ℕ) (xs : List ℕ) → length xs ≤ n → length (take k xs) ≤ n
take_at_most k xs h = omega (arith, length-take k xs)

pub take_below : {n : ℕ} (k : ℕ) (xs : List ℕ) → length xs < n → length (take k xs) < n
take_below k xs h = omega (arith, length-take k xs)

-- the facts above, for `search`
pub ruleset sizes = (
  AtMost-Ok,
  Below-Ok,
  SomeBelow-Ok,
  SomeBelow-None,
  AtMost-Err,
  Below-Err,
  SomeBelow-Err,
  AtMost-proceed,
  Below-proceed,
  Below-proceed_rest,
  SomeBelow-proceed,
  SomeBelow-proceed_rest,
  AtMost-cond,
  Below-cond,
  SomeBelow-cond,
  AtMost-lift,
  Below-lift,
  AtMost-some_or,
  Below-some_or,
  AtMost-part,
  AtMost-skip,
  AtMost-truncated,
  Below-byte,
  Below-null_terminated,
  AtMost-Below,
  drop_at_most,
  drop_below,
  take_at_most,
  take_below,
)

-- items up to the end of the bytes
pub SomeBelow-until_end : {A : Type 0} {n : ℕ} {p : Parser A} (v : View)
    → ((w : View) → bytes_left w ≤ n → Below bytes_left n (p w)) → bytes_left v ≤ n
    → SomeBelow bytes_left n (until_end p v)
SomeBelow-until_end v k h = SomeBelow-cond _ SomeBelow-None (SomeBelow-proceed (k v h) (λ x s lt. SomeBelow-Ok lt))
