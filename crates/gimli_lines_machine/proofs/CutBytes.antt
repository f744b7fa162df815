-- What a step that reads from the front says of bytes that are cut after what it took: it gives the same.
use Rattle.std.proofs.Common.{◌≡◌, ℕ, zero, suc, ◌+◌, ◌-◌, ◌<◌, ◌≤◌, Bool, true, false, cond, ltb, List, [], ◌∷◌, length, take, drop, Result, Ok, Err, sym, ap, ◌∙◌, arith, length-drop, ◌⊎◌, inl, inr}
use Rattle.std.proofs.lemmas.List.{drop-take, take-take, length-take}
use Rattle.std.proofs.lemmas.Bool.{le-ltb, lt-ltb, cases_lt}
use Rattle.gimli_core_readers.specs.Error.{Error}
use Rattle.gimli_core_readers.specs.View.{View, after, prefix, bytes_left, unexpected_end}
use Rattle.gimli_core_readers.specs.Parsers.{Parser, proceed, give, ◌>>=◌, branch, lift, part, map_value}
use Rattle.gimli_core_readers.specs.Repetition.{times}
use Rattle.gimli_core_readers.proofs.ByteCountLemmas.{after_after}
use Rattle.gimli_core_readers.proofs.StepParts.{begins, read, value_is, state_is}
use Rattle.gimli_lines_machine.specs.Decoding.{span_of}

-- ---- views

pub after_zero : (v : View) → v ≡ after 0 v
after_zero v = let place : v.first ≡ v.first + 0 = omega arith in ap at place
  where
    at : ℕ → View
    at n = record { bytes = v.bytes; is_big = v.is_big; first = n }

pub after_front : (k n : ℕ) (v : View) → k ≤ n → after k (prefix n v) ≡ prefix (n - k) (after k v)
after_front k n v le =
    let sum : n ≡ k + (n - k) = omega arith in
    ap with_bytes (ap (λ (m : ℕ). drop k (take m v.bytes)) sum ∙ drop-take k (n - k) v.bytes)
  where
    with_bytes : List ℕ → View
    with_bytes bytes = record { bytes = bytes; is_big = v.is_big; first = v.first + k }

pub front_front : (k n : ℕ) (v : View) → k ≤ n → prefix k (prefix n v) ≡ prefix k v
front_front k n v le = ap with_bytes (take-take k n v.bytes le)
  where
    with_bytes : List ℕ → View
    with_bytes bytes = record { bytes = bytes; is_big = v.is_big; first = v.first }

-- ---- what is kept

-- A value was read from `count` bytes, at least `least`, and is read again from any prefix that has them.
pub record ReadsCutAt {A : Type 0} (least : ℕ) (p : Parser A) (v w : View) (x : A) : Type 0 where
  pub count : ℕ
  pub some : least ≤ count
  pub fits : count ≤ bytes_left v
  pub rest : w ≡ after count v
  pub again : (n : ℕ) → count ≤ n → p (prefix n v) ≡ Ok (x, after count (prefix n v))

pub record ReadsCut {A : Type 0} (least : ℕ) (p : Parser A) : Type 0 where
  pub each : (v w : View) (x : A) → p v ≡ Ok (x, w) → ReadsCutAt least p v w x

pub cut-give : {A : Type 0} (x : A) → ReadsCut 0 (give x)
cut-give {A} x = record {
  each = λ v w y e.
      let same : x ≡ y = value_is x y v w e in
      record {
        count = 0;
        some = omega arith;
        fits = omega arith;
        rest = sym (state_is x y v w e) ∙ after_zero v;
        again = λ n le. ap (λ (z : A). read z (prefix n v)) same ∙ ap (read y) (after_zero (prefix n v));
      };
}

pub cut-lift : {A : Type 0} (r : Result A Error) → ReadsCut 0 (lift r)
cut-lift (Ok x) = record {
  each = λ v w y e. let k = (cut-give x).each v w y e in
      record { count = k.count; some = k.some; fits = k.fits; rest = k.rest; again = k.again };
}
cut-lift (Err d) = record { each = λ v w y e. absurd cc }

-- one after the other
cut-after : {A B : Type 0} (least a : ℕ) (p : Parser A) (f : A → Parser B) (v s w : View) (x : A) (y : B)
    → ReadsCutAt least p v s x → ReadsCutAt a (f x) s w y → ReadsCutAt least (p >>= f) v w y
cut-after {A} {B} least a p f v s w x y kp kf =
    let pc = kp.count in
    let fc = kf.count in
    let pfits : pc ≤ bytes_left v = kp.fits in
    let psome : least ≤ pc = kp.some in
    let left : bytes_left s ≡ bytes_left v - pc = ap bytes_left kp.rest ∙ length-drop pc v.bytes in
    let ffits : fc ≤ bytes_left s = kf.fits in
    record {
      count = pc + fc;
      some = omega arith;
      fits = omega arith;
      rest = kf.rest ∙ ap (after fc) kp.rest ∙ after_after pc fc v;
      again = λ n le.
          let le_p : pc ≤ n = omega arith in
          let le_f : fc ≤ n - pc = omega arith in
          let there : after pc (prefix n v) ≡ prefix (n - pc) s = after_front pc n v le_p
          ∙ ap (prefix (n - pc)) (sym kp.rest) in
          ap (λ (r : Result (A × View) Error). proceed r f) (kp.again n le_p)
          ∙ ap (f x) there
          ∙ kf.again (n - pc) le_f
          ∙ ap (λ (u : View). read y (after fc u)) (sym there)
          ∙ ap (read y) (after_after pc fc (prefix n v));
    }

pub cut-then : {A B : Type 0} {least : ℕ} {p : Parser A} {f : A → Parser B} → ReadsCut least p
    → ((x : A) → ReadsCut 0 (f x)) → ReadsCut least (p >>= f)
cut-then {least = least} {p = p} {f = f} hp hf = record {
  each = λ v w y e.
      let b = begins (p v) f y w e in
      cut-after least 0 p f v b.1 w b.0 y (hp.each v b.1 b.0 b.2) ((hf b.0).each b.1 w y b.3);
}

pub cut-mapped : {A B : Type 0} {least : ℕ} {p : Parser A} (f : A → B) → ReadsCut least p
    → ReadsCut least (map_value f p)
cut-mapped {p = p} f hp = cut-then {p = p} {f = λ x. give (f x)} hp (λ x. cut-give (f x))

pub cut-branch : {A : Type 0} {least : ℕ} (b : Bool) {p q : Parser A} → ReadsCut least p → ReadsCut least q
    → ReadsCut least (branch b p q)
cut-branch true hp hq = record {
  each = λ v w y e. let k = hp.each v w y e in
      record { count = k.count; some = k.some; fits = k.fits; rest = k.rest; again = k.again };
}
cut-branch false hp hq = record {
  each = λ v w y e. let k = hq.each v w y e in
      record { count = k.count; some = k.some; fits = k.fits; rest = k.rest; again = k.again };
}

pub cut-less : {A : Type 0} {least : ℕ} {p : Parser A} → ReadsCut least p → ReadsCut 0 p
cut-less {p = p} h = record {
  each = λ v w y e. let k = h.each v w y e in
      record { count = k.count; some = omega arith; fits = k.fits; rest = k.rest; again = k.again };
}

pub cut-times : {A : Type 0} {least : ℕ} (n : ℕ) (p : Parser A) → ReadsCut least p → ReadsCut 0 (times n p)
unfolding times
cut-times zero p h = let k = cut-give [] in
    record {
      each = λ v w y e. let at = k.each v w y e in
          record { count = at.count; some = at.some; fits = at.fits; rest = at.rest; again = at.again };
    }
cut-times {A} (suc n) p h =
    let k = cut-then {p = p} {f = λ x. (times n p >>= λ xs. give (x ∷ xs))} (cut-less h)
    (λ x. cut-then {p = times n p} {f = λ (xs : List A). give (x ∷ xs)} (cut-times n p h)
    (λ xs. cut-give (x ∷ xs))) in
    record {
      each = λ v w y e. let at = k.each v w y e in
          record { count = at.count; some = at.some; fits = at.fits; rest = at.rest; again = at.again };
    }

pub cut-span_of : {A : Type 0} {least : ℕ} {p : Parser A} → ReadsCut least p → ReadsCut least (span_of p)
cut-span_of {A} {p = p} h = record {
  each = λ v w x e.
      let b = begins (p v) (λ _ u. give (prefix (u.first - v.first) v) u) x w e in
      let k = h.each v b.1 b.0 b.2 in
      let same : prefix (b.1.first - v.first) v ≡ x = value_is (prefix (b.1.first - v.first) v) x b.1 w b.3 in
      let rest_is : b.1 ≡ w = state_is (prefix (b.1.first - v.first) v) x b.1 w b.3 in
      let so_many : (v.first + k.count) - v.first ≡ k.count = omega arith in
      let there : b.1.first ≡ v.first + k.count = ap (λ (u : View). u.first) k.rest in
      record {
        count = k.count;
        some = k.some;
        fits = k.fits;
        rest = sym rest_is ∙ k.rest;
        again = λ n le.
            ap (λ (r : Result (A × View) Error). proceed r (λ _ u. give (prefix (u.first - v.first) (prefix n v)) u))
            (k.again n le)
            ∙ ap (λ (m : ℕ). read (prefix m (prefix n v)) (after k.count (prefix n v))) so_many
            ∙ ap (λ (u : View). read u (after k.count (prefix n v)))
            (front_front k.count n v le ∙ ap (λ (m : ℕ). prefix m v) (sym so_many)
            ∙ ap (λ (m : ℕ). prefix (m - v.first) v) (sym there) ∙ same);
      };
}

-- ---- bytes

-- the first k bytes of a prefix
pub long_enough : (k n : ℕ) (v : View) → k ≤ bytes_left v → k ≤ n → ltb (length (take n v.bytes)) k ≡ false
long_enough k n v fits le = le-ltb (length (take n v.bytes)) k (omega (arith, length-take n v.bytes))

abbrev end_of_part : View → Result (View × View) Error
end_of_part v = Err (unexpected_end v)

abbrev part_at : ℕ → View → Bool → Result (View × View) Error
part_at k v b = cond b (end_of_part v) (Ok (prefix k v, after k v))

pub cut-part : (k : ℕ) → ReadsCut 0 (part k)
cut-part k = record { each = λ v w x e. cases v w x e (cases_lt (bytes_left v) k) }
  where
    reads_whole : (v w x : View) → k ≤ bytes_left v → part k v ≡ Ok (x, w) → ReadsCutAt 0 (part k) v w x
    reads_whole v w x fits e =
        let is : read (prefix k v) (after k v) ≡ Ok (x, w) = ap (part_at k v) (sym (le-ltb (bytes_left v) k fits))
        ∙ e in
        record {
          count = k;
          some = omega arith;
          fits = fits;
          rest = sym (state_is (prefix k v) x (after k v) w is);
          again = λ n le.
              ap (part_at k (prefix n v)) (long_enough k n v fits le)
              ∙ ap (λ (u : View). read u (after k (prefix n v))) (front_front k n v le
              ∙ value_is (prefix k v) x (after k v) w is);
        }

    cases : (v w x : View) → part k v ≡ Ok (x, w) → (bytes_left v < k) ⊎ (k ≤ bytes_left v)
        → ReadsCutAt 0 (part k) v w x
    cases v w x e (inl short) = absurd (no_value (ap (part_at k v) (sym (lt-ltb (bytes_left v) k short)) ∙ e))
      where
        no_value : end_of_part v ≡ Ok (x, w) → ⊥
        no_value h = cc
    cases v w x e (inr fits) = reads_whole v w x fits e
