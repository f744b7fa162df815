-- A text that is inflated has the size that was promised.
use Rattle.std.proofs.Common.{◌≡◌, ℕ, zero, suc, ◌+◌, ◌-◌, ◌/◌, ◌≤◌, ◌==◌, not, Bool, true, false, cond, ltb, nat_lt, slice_index, List, [], ◌∷◌, ◌++◌, length, Option, Some, None, Result, Ok, Err, refl, sym, ap, subst, ◌∙◌, arith}
use Rattle.std.proofs.lemmas.Bool.{ltb-false}
use Rattle.std.proofs.lemmas.List.{length-append}
use Rattle.addr2line_inflate.specs.declared.error.InflateError.{InflateError}
use Rattle.addr2line_inflate.specs.declared.error.InflateError.TheVariants.{StoredLength, DistanceTooFar, WrongLength, WrongSum}
use Rattle.addr2line_inflate.specs.Codewords.{symbol}
use Rattle.addr2line_inflate.specs.Readings.{Reading, proceed, give, refuse_if, branch, number, align, bytes}
use Rattle.addr2line_inflate.specs.Dynamic.{dynamic_codes}
use Rattle.addr2line_inflate.specs.Sums.{adler32}
use Rattle.addr2line_inflate.specs.Streams.{header, sum, text, value_of, inflated, summed_text}
use Rattle.addr2line_inflate.specs.Blocks.{stored, block_of, block, blocks_within, blocks}
use Rattle.addr2line_inflate.specs.Texts.{BlockCodes, append, copied, copy_length, copy_distance, copy, then_on, element_of, element, elements_within, elements}

-- what was read, and the place after it
abbrev Read : Type 0 → Type 0
Read A = Result (A × ℕ) InflateError

abbrev read : {A : Type 0} → A → ℕ → Read A
read x n = Ok (x, n)

gave : {A : Type 0} (x t : A) (n m : ℕ) → read x n ≡ read t m → x ≡ t
gave {A} x t n m is = let same : (x, n) ≡ (t, m) = cc in ap (λ (p : A × ℕ). p.0) same

-- a text, if one was read, has at most a size
record AtMost (size : ℕ) (r : Read (List ℕ)) : Type 0 where
  pub most : (t : List ℕ) (n : ℕ) → r ≡ Ok (t, n) → length t ≤ size

-- what is known of the parts of a reading that gave a value
began : {A B : Type 0} (r : Read A) (f : A → Reading B) (y : B) (n : ℕ)
    → proceed r f ≡ Ok (y, n) → (x : A) × (at : ℕ) × (r ≡ Ok (x, at)) × (f x at ≡ Ok (y, n))
began (Ok r) f y n is = (r.0, r.1, refl, is)
began (Err e) f y n is = absurd cc

-- a reading that ends with such a text
onward : {A : Type 0} (size : ℕ) (r : Read A) (f : A → Reading (List ℕ))
    → ((x : A) (at : ℕ) → AtMost size (f x at)) → AtMost size (proceed r f)
onward {A} size r f h = record {
  most = λ t n is. let b = began r f t n is in (h b.0 b.1).most t n b.3;
}

either : (b : Bool) (size : ℕ) {p q : Read (List ℕ)} → AtMost size p → AtMost size q → AtMost size (cond b p q)
either true size hp hq = hp
either false size hp hq = hq

ended : (size : ℕ) (e : InflateError) → AtMost size (Err e)
ended size e = record { most = λ t n is. absurd cc }

given : (size : ℕ) (x : List ℕ) (at : ℕ) → length x ≤ size → AtMost size (read x at)
given size x at short = record {
  most = λ t n is. subst (λ (l : List ℕ). length l ≤ size) (gave x t at n is) short;
}

-- a text that is given unless a test fails
unless_long : (size m : ℕ) (e : InflateError) (x : List ℕ) (at : ℕ) → length x ≡ m
    → AtMost size (proceed (cond {A = Read (Unit {0})} (ltb size m) (Err e) (Ok (tt, at))) (λ _. give x))
unless_long size m e x at long = cases (ltb size m) refl
  where
    cases : (b : Bool) → ltb size m ≡ b
        → AtMost size (proceed (cond {A = Read (Unit {0})} b (Err e) (Ok (tt, at))) (λ _. give x))
    cases true h = ended size e
    cases false h =
        let short : m ≤ size = ltb-false size m h in
        given size x at (omega arith)

appended : (size : ℕ) (text more : List ℕ) (at : ℕ) → AtMost size (append size text more at)
unfolding append
appended size text more at =
    unless_long size (length text + length more) (WrongLength (at / 8)) (text ++ more) at (length-append text more)

-- ---- blocks that are stored, and copies

stored_most : (stream : List ℕ) (size : ℕ) (text : List ℕ) (at : ℕ) → AtMost size (stored stream size text at)
unfolding stored
stored_most stream size text at =
    onward size (align at) _ (λ a s. onward size (number stream 16 s) _ (λ n t.
    onward size (number stream 16 t) _ (λ c u. onward size (refuse_if (not (n + c == 0xffff)) StoredLength u) _ (λ d v.
    onward size (bytes stream n v) _ (λ more w. appended size text more w)))))

length-copied : (n distance : ℕ) (text : List ℕ) → length (copied n distance text) ≡ length text + n
unfolding copied
length-copied zero distance text = omega arith
length-copied (suc n) distance text =
    let x = text ++ slice_index text (length text - distance) ∷ [] in
    let one : length x ≡ length text + 1 =
    omega (arith, length-append text (slice_index text (length text - distance) ∷ [])) in
    more _ _ _ _ (length-copied n distance x) one
  where
    more : (c k m n : ℕ) → c ≡ k + n → k ≡ m + 1 → c ≡ m + suc n
    more c k m n p q = omega arith

copy_most : (stream : List ℕ) (size : ℕ) (codes : BlockCodes) (n : ℕ) (text : List ℕ) (at : ℕ)
    → AtMost size (copy stream size codes n text at)
unfolding copy
copy_most stream size codes n text at =
    onward size (copy_length stream n at) _ (λ l s. onward size (copy_distance stream codes.distances s) _ (λ d t.
    onward size (refuse_if (nat_lt (length text) d) DistanceTooFar t) _ (λ a u.
    unless_long size (length text + l) (WrongLength (u / 8)) (copied l d text) u (length-copied l d text))))

-- ---- elements

-- the same of a text, if there is one
record SomeAtMost (size : ℕ) (r : Read (Option (List ℕ))) : Type 0 where
  pub most : (t : List ℕ) (n : ℕ) → r ≡ Ok (Some t, n) → length t ≤ size

some_most : (size : ℕ) (r : Read (List ℕ)) → AtMost size r → SomeAtMost size (proceed r (λ x. give (Some x)))
some_most size r h = record {
  most = λ t n is.
      let b = began r (λ x. give (Some x)) (Some t) n is in
      let same : Some b.0 ≡ Some t = gave (Some b.0) (Some t) b.1 n b.3 in
      subst (λ (l : List ℕ). length l ≤ size) (some_is b.0 t same) (h.most b.0 b.1 b.2);
}
  where
    some_is : (x t : List ℕ) → Some x ≡ Some t → x ≡ t
    some_is x t is = cc

none_most : (size at : ℕ) → SomeAtMost size (read None at)
none_most size at = record { most = λ t n is. let no : None ≡ Some t = gave None (Some t) at n is in absurd cc }

some_either : (b : Bool) (size : ℕ) {p q : Read (Option (List ℕ))} → SomeAtMost size p → SomeAtMost size q
    → SomeAtMost size (cond b p q)
some_either true size hp hq = hp
some_either false size hp hq = hq

element_of_most : (stream : List ℕ) (size : ℕ) (codes : BlockCodes) (text : List ℕ) (n at : ℕ)
    → SomeAtMost size (element_of stream size codes text n at)
unfolding element_of
element_of_most stream size codes text n at =
    some_either _ size (some_most size (append size text (n ∷ []) at) (appended size text (n ∷ []) at))
    (some_either _ size (none_most size at)
    (some_most size (copy stream size codes n text at) (copy_most stream size codes n text at)))

element_most : (stream : List ℕ) (size : ℕ) (codes : BlockCodes) (text : List ℕ) (at : ℕ)
    → SomeAtMost size (element stream size codes text at)
unfolding element
element_most stream size codes text at = record {
  most = λ t n is.
      let b = began (symbol stream codes.literals at) (element_of stream size codes text) (Some t) n is in
      (element_of_most stream size codes text b.0 b.1).most t n b.3;
}

then_most : (size : ℕ) (longer : Option (List ℕ)) (text : List ℕ) (rest : List ℕ → Reading (List ℕ)) (at : ℕ)
    → length text ≤ size → ((x : List ℕ) → length x ≤ size → AtMost size (rest x at))
    → ((x : List ℕ) → longer ≡ Some x → length x ≤ size) → AtMost size (then_on longer text rest at)
then_most size None text rest at short h is = given size text at short
then_most size (Some x) text rest at short h is = h x (is x refl)

elements_most : (k : ℕ) (stream : List ℕ) (size : ℕ) (codes : BlockCodes) (text : List ℕ) (at : ℕ)
    → length text ≤ size → AtMost size (elements_within k stream size codes text at)
unfolding elements_within
elements_most zero stream size codes text at short = ended size _
elements_most (suc k) stream size codes text at short = record {
  most = λ t n is.
      let b = began (element stream size codes text at)
      (λ longer. then_on longer text (elements_within k stream size codes)) t n is in
      let m = then_most size b.0 text (elements_within k stream size codes) b.1 short
      (λ x l. elements_most k stream size codes x b.1 l)
      (λ x e. (element_most stream size codes text at).most x b.1
      (b.2 ∙ ap (λ (o : Option (List ℕ)). read o b.1) e)) in
      m.most t n b.3;
}

-- ---- blocks

all_elements_most : (stream : List ℕ) (size : ℕ) (codes : BlockCodes) (text : List ℕ) (at : ℕ) → length text ≤ size
    → AtMost size (elements stream size codes text at)
unfolding elements
all_elements_most stream size codes text at short = elements_most _ stream size codes text at short

block_of_most : (stream : List ℕ) (size : ℕ) (text : List ℕ) (kind at : ℕ) → length text ≤ size
    → AtMost size (block_of stream size text kind at)
unfolding block_of
block_of_most stream size text kind at short =
    either _ size (stored_most stream size text at)
    (either _ size (all_elements_most stream size _ text at short)
    (either _ size (onward size (dynamic_codes stream at) _
    (λ codes s. all_elements_most stream size codes text s short)) (ended size _)))

block_most : (stream : List ℕ) (size : ℕ) (text : List ℕ) (at : ℕ) → length text ≤ size
    → AtMost size (block stream size text at)
unfolding block
block_most stream size text at short =
    onward size (number stream 2 at) _ (λ kind s. block_of_most stream size text kind s short)

blocks_most : (k : ℕ) (stream : List ℕ) (size : ℕ) (text : List ℕ) (at : ℕ) → length text ≤ size
    → AtMost size (blocks_within k stream size text at)
unfolding blocks_within
blocks_most zero stream size text at short = ended size _
blocks_most (suc k) stream size text at short =
    onward size (number stream 1 at) _ (λ last s. record {
      most = λ t n is.
          let b = began (block stream size text s)
          (λ longer. branch (last == 1) (give longer) (blocks_within k stream size longer)) t n is in
          let l = (block_most stream size text s short).most b.0 b.1 b.2 in
          let m = either (last == 1) size (given size b.0 b.1 l) (blocks_most k stream size b.0 b.1 l) in
          m.most t n b.3;
    })

all_blocks_most : (stream : List ℕ) (size at : ℕ) → AtMost size (blocks stream size at)
unfolding blocks
all_blocks_most stream size at = blocks_most _ stream size [] at (omega arith)

-- ---- the text of a stream

-- a text that is given, if it is long enough, after something else
long_enough : (size : ℕ) (e : InflateError) (x : List ℕ) (rest : Reading (List ℕ)) (at : ℕ)
    → ((t : List ℕ) (n : ℕ) → rest at ≡ Ok (t, n) → t ≡ x) → length x ≤ size
    → (t : List ℕ) (n : ℕ)
    → proceed (cond {A = Read (Unit {0})} (ltb (length x) size) (Err e) (Ok (tt, at))) (λ _. rest) ≡ Ok (t, n)
    → length t ≡ size
long_enough size e x rest at same short t n is = cases (ltb (length x) size) refl is
  where
    cases : (b : Bool) → ltb (length x) size ≡ b
        → proceed (cond {A = Read (Unit {0})} b (Err e) (Ok (tt, at))) (λ _. rest) ≡ Ok (t, n) → length t ≡ size
    cases true h k = absurd cc
    cases false h k =
        let le : size ≤ length x = ltb-false (length x) size h in
        let eq : length x ≡ size = omega arith in
        ap length (same t n k) ∙ eq

text_size : (stream : List ℕ) (size at : ℕ) (t : List ℕ) (n : ℕ) → text stream size at ≡ Ok (t, n) → length t ≡ size
unfolding text summed_text
text_size stream size at t n is =
    let a = began (header stream at) _ t n is in
    let b = began (blocks stream size a.1) _ t n a.3 in
    let short = (all_blocks_most stream size a.1).most b.0 b.1 b.2 in
    long_enough size (WrongLength (b.1 / 8)) b.0 _ b.1
    (λ u m h.
    let c = began (align b.1) _ u m h in
    let d = began (sum stream c.1) _ u m c.3 in
    let f = began (refuse_if (not (d.0 == adler32 b.0)) WrongSum d.1) _ u m d.3 in
    sym (gave b.0 u f.1 m f.3))
    short t n b.3

pub inflated_size : (stream : List ℕ) (size : ℕ) (t : List ℕ) → inflated stream size ≡ Ok t → length t ≡ size
inflated_size stream size t is = of (text stream size 0) refl is
  where
    of : (r : Read (List ℕ)) → text stream size 0 ≡ r → value_of r ≡ Ok t → length t ≡ size
    of (Ok r) h k =
        let same : r.0 ≡ t = cc in
        ap length (sym same) ∙ text_size stream size 0 r.0 r.1 h
    of (Err e) h k = absurd cc
