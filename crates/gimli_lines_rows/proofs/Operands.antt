-- The bytes of `count` operands: how a loop that reads them goes on.
use Rattle.std.proofs.Common.{◌≡◌, ◌^◌, ℕ, suc, ◌+◌, ◌-◌, ◌<◌, ◌≤◌, Bool, true, false, cond, List, [], ◌∷◌, ◌++◌, length, Result, Ok, Err, refl, sym, ap, subst, ◌∙◌, arith, length-drop, nat_lt}
use Rattle.std.proofs.lemmas.Bool.{le-ltb}
use Rattle.std.specs.Result.{IsErrAnd}
use Rattle.gimli_lines_machine.specs.Error.{Error}
use Rattle.gimli_lines_machine.specs.Error.TheVariants.{BadUnsignedLeb128}
use Rattle.gimli_lines_machine.specs.Calls.{ReturnsAs}
use Rattle.gimli_lines_machine.specs.View.{View, after, prefix, bytes_left, unexpected_end}
use Rattle.gimli_lines_machine.specs.Parsers.{proceed, give, truncate}
use Rattle.gimli_lines_machine.specs.Repetition.{times}
use Rattle.gimli_lines_machine.proofs.StepParts.{state_is}
use Rattle.gimli_lines_machine.proofs.Times.{prepend, times_item, times_fault, times_end}
use Rattle.gimli_lines_machine.specs.Fault.{Fault}
use Rattle.gimli_lines_machine.specs.Leb128.{bounded_string, unsigned_of, unsigned_number}
use Rattle.gimli_lines_machine.specs.NumberParsers.{unsigned, number_and_rest as number_then_rest}
use Rattle.gimli_lines_machine.proofs.NumberReadSizes.{judged_fits_in, FitsIn}
use Rattle.gimli_lines_machine.specs.Readers.{Holds}
use Rattle.gimli_lines_machine.specs.Decoding.{span_of}

-- ---- a number leaves bytes of the view that it was in

holds_after : (s v : View) (k : ℕ) → k ≤ bytes_left v → Holds s v → Holds s (after k v)
holds_after s v k le h = (omega (arith, h.0), omega (arith, h.1, length-drop k v.bytes))

rest_holds : (s v w : View) (x : ℕ) (r : Result (ℕ × ℕ) Fault) → ((y k : ℕ) → r ≡ Ok (y, k) → k ≤ bytes_left v)
    → Holds s v → number_then_rest BadUnsignedLeb128 v r ≡ Ok (x, w) → Holds s w
rest_holds s v w x (Err fault) fits h e = absurd cc
rest_holds s v w x (Ok found) fits h e =
    let is : after found.1 v ≡ w = state_is found.0 x (after found.1 v) w e in
    subst (λ (u : View). Holds s u) is (holds_after s v found.1 (fits found.0 found.1 refl) h)

abbrev count_result : ℕ → ℕ → Result (ℕ × ℕ) Fault
count_result x k = Ok (x, k)

second_is : (x y m k : ℕ) → count_result x m ≡ count_result y k → m ≡ k
second_is x y m k e = let is : (x, m) ≡ (y, k) = cc in ap (λ (p : ℕ × ℕ). p.1) is

unsigned_fits : (v : View) (r : Result (List ℕ) Fault) → ((s : List ℕ) → r ≡ Ok s → FitsIn s v.bytes) → (y k : ℕ)
    → unsigned_of (2 ^ 64) r ≡ Ok (y, k) → k ≤ bytes_left v
unsigned_fits v (Err fault) string_fits y k e = absurd cc
unsigned_fits v (Ok s) string_fits y k e = cases (nat_lt (unsigned_number s) (2 ^ 64)) refl
  where
    cases : (b : Bool) → nat_lt (unsigned_number s) (2 ^ 64) ≡ b → k ≤ bytes_left v
    cases true h =
        let e' = rw h at e in
        let is : length s ≡ k = second_is' e' in
        let found = string_fits s refl in
        rw (← is) found.fits
      where
        second_is' : count_result (unsigned_number s) (length s) ≡ count_result y k → length s ≡ k
        second_is' = second_is (unsigned_number s) y (length s) k
    cases false h = absurd (let e' = rw h at e in cc)

pub unsigned_holds : (s v w : View) (x : ℕ) → Holds s v → unsigned v ≡ Ok (x, w) → Holds s w
unfolding unsigned
unsigned_holds s v w x h e =
    rest_holds s v w x _ (unsigned_fits v (bounded_string 10 v.bytes) (judged_fits_in 10 v.bytes)) h e

-- ---- the loop

-- of the operands some are left, and the rest was read
pub record Spans (count left : ℕ) (start now : View) : Type 0 where
  pub numbers : List ℕ
  pub same : prepend numbers (times left unsigned now) ≡ times count unsigned start
  pub holds : Holds start now

prepend-none : (r : Result (List ℕ × View) Error) → prepend [] r ≡ r
prepend-none (Ok r) = refl
prepend-none (Err e) = refl

pub spans_start : (count : ℕ) (v : View) → Spans count (count - 0) v v
spans_start count v =
    let all : count - 0 ≡ count = omega arith in
    record {
      numbers = [];
      same = prepend-none _ ∙ ap (λ n. times n unsigned v) all;
      holds = (omega arith, omega arith);
    }

one_less : (count i : ℕ) → i < count → count - i ≡ suc (count - (i + 1))
one_less count i lt = omega arith

pub spans_more : (count i x : ℕ) (start v w : View) → i < count → unsigned v ≡ Ok (x, w)
    → Spans count (count - i) start v → Spans count (count - (i + 1)) start w
spans_more count i x start v w lt e h = record {
  numbers = h.numbers ++ x ∷ [];
  same = sym (times_item unsigned (count - (i + 1)) h.numbers x v w e)
      ∙ ap (λ n. prepend h.numbers (times n unsigned v)) (sym (one_less count i lt)) ∙ h.same;
  holds = unsigned_holds start v w x h.holds e;
}

pub spans_fault : (count i : ℕ) (start v : View) (d : Error) → i < count → unsigned v ≡ Err d
    → Spans count (count - i) start v → span_of (times count unsigned) start ≡ Err d
spans_fault count i start v d lt e h =
    let all : times count unsigned start ≡ Err d =
    sym h.same ∙ ap (λ n. prepend h.numbers (times n unsigned v)) (one_less count i lt)
    ∙ times_fault unsigned (count - (i + 1)) h.numbers v d e in
    ap (λ (r : Result (List ℕ × View) Error). proceed r (λ _ w. give (prefix (w.first - start.first) start) w)) all

pub spans_end : (count i : ℕ) (start v : View) → count ≤ i → Spans count (count - i) start v
    → span_of (times count unsigned) start ≡ Ok (prefix (v.first - start.first) start, v)
spans_end count i start v le h =
    let none : count - i ≡ 0 = omega arith in
    let all : times count unsigned start ≡ Ok (h.numbers, v) =
    sym h.same ∙ ap (λ n. prepend h.numbers (times n unsigned v)) none ∙ times_end unsigned h.numbers v in
    ap (λ (r : Result (List ℕ × View) Error). proceed r (λ _ w. give (prefix (w.first - start.first) start) w)) all

-- nothing is read, and a view is left
abbrev step_result : View → Result (Unit {0} × View) Error
step_result w = Ok (tt, w)

-- the view has this number of bytes
pub truncated_there : (start v : View) (n : ℕ) → Holds start v → n + start.first ≡ v.first → truncate n start
    ≡ Ok (tt, prefix (v.first - start.first) start)
truncated_there start v n h at =
    let is : n ≡ v.first - start.first = omega arith in
    let fits : n ≤ bytes_left start = omega (arith, h.1) in
    ap (λ (b : Bool). cond b short (answer_at n)) (le-ltb (bytes_left start) n fits) ∙ ap answer_at is
  where
    short : Result (Unit {0} × View) Error
    short = Err (unexpected_end start)

    answer_at : ℕ → Result (Unit {0} × View) Error
    answer_at k = Ok (tt, prefix k start)

-- as a call answers it, of the view that the operands began in
pub truncated_is : (start v operands new : View) (n : ℕ) → operands ≡ start → Holds start v → n + operands.first
    ≡ v.first → truncate n operands ≡ Ok (tt, new) → prefix (v.first - start.first) start ≡ new
truncated_is start v operands new n same h at e =
    let place : n + start.first ≡ v.first = ap (λ (w : View). n + w.first) (sym same) ∙ at in
    state_is tt tt (prefix (v.first - start.first) start) new (sym (truncated_there start v n h place)
    ∙ ap (truncate n) (sym same) ∙ e)

pub truncated_not_refused : (start v operands : View) (n : ℕ) (d : Error) → operands ≡ start → Holds start v
    → n + operands.first ≡ v.first → truncate n operands ≡ Err d → ⊥
truncated_not_refused start v operands n d same h at e =
    let place : n + start.first ≡ v.first = ap (λ (w : View). n + w.first) (sym same) ∙ at in
    no_refusal (sym (truncated_there start v n h place) ∙ ap (truncate n) (sym same) ∙ e)
  where
    no_refusal : step_result (prefix (v.first - start.first) start) ≡ Err d → ⊥
    no_refusal k = cc

-- a refusal of the meaning that is handed on
pub refused_as : {A B : Type 0} (see : A → B) (r : Result A Error) (meaning : Result B Error) (d : Error)
    → IsErrAnd r (λ e. e ≡ d) → meaning ≡ Err d → ReturnsAs see r meaning
refused_as see (Ok x) meaning d h e = absurd h
refused_as {B = B} see (Err x) meaning d h e = e ∙ ap (λ (y : Error). refusal y) (sym h)
  where
    refusal : Error → Result B Error
    refusal y = Err y
