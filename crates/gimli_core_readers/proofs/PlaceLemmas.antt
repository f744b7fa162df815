-- Places in the bytes of a view: what is read leaves what comes after some bytes.
use Rattle.std.proofs.Common.{◌≡◌, ℕ, ◌+◌, ◌^◌, ◌≤◌, Bool, true, false, cond, ltb, List, length, Result, Ok, Err, refl, sym, ap, subst, ◌∙◌, inl, inr, arith, length-drop}
use Rattle.std.proofs.lemmas.Bool.{cases_lt, lt-ltb, le-ltb}
use Rattle.gimli_core_base.specs.declared.error.Error.{Error}
use Rattle.gimli_core_base.specs.declared.error.Error.TheVariants.{BadUnsignedLeb128, UnsupportedAddressSize}
use Rattle.gimli_core_base.specs.declared.leb128.Fault.{Fault}
use Rattle.gimli_core_base.specs.declared.leb128.Fault.TheVariants.{Bad}
use Rattle.gimli_core_base.specs.Leb128.{unsigned_number, bounded_string, unsigned_of}
use Rattle.gimli_core_base.specs.View.{View, after, bytes_left}
use Rattle.gimli_core_base.specs.Parsers.{Parser, ◌>>=◌, give, fail, branch, lift, part}
use Rattle.gimli_core_base.specs.NumberParsers.{fixed, unsigned, address, is_address_size, number_and_rest}
use Rattle.gimli_core_base.proofs.StepParts.{begins, state_is, read, lift-Ok}
use Rattle.gimli_core_base.proofs.NumberReadSizes.{judged_fits_in}
use Rattle.gimli_core_readers.proofs.ViewCuts.{at_place, after-after, part-Ok}
use Rattle.gimli_core_readers.specs.Places.{IsAfter}

-- a view is what its parts make
pub view_is : (v : View) (bytes : List ℕ) (is_big : Bool) (first : ℕ) → bytes ≡ v.bytes → is_big ≡ v.is_big
    → first ≡ v.first → at_place is_big bytes first ≡ v
view_is v bytes is_big first b o f =
    ap (λ xs. at_place is_big xs first) b ∙ ap (λ x. at_place x v.bytes first) o
    ∙ ap (λ n. at_place v.is_big v.bytes n) f

-- ---- places

-- no more bytes than there were
pub IsAfter-fewer : (v w : View) → IsAfter v w → bytes_left w ≤ bytes_left v
IsAfter-fewer v w b =
    let left = ap bytes_left (sym b.rest) in omega (arith, left, length-drop b.count v.bytes)

-- what comes after bytes that are there
pub IsAfter-after : (n : ℕ) (v : View) → n ≤ bytes_left v → IsAfter v (after n v)
IsAfter-after n v h = record { count = n; within = h; rest = refl }

-- after no bytes all are left
pub after-zero : (v : View) → after 0 v ≡ v
after-zero v =
    let first : v.first + 0 ≡ v.first = omega arith in ap (λ (k : ℕ). at_place v.is_big v.bytes k) first

pub IsAfter-self : (v : View) → IsAfter v v
IsAfter-self v = record { count = 0; within = omega arith; rest = after-zero v }

pub IsAfter-IsAfter : (u v w : View) → IsAfter u v → IsAfter v w → IsAfter u w
IsAfter-IsAfter u v w a b =
    let left : bytes_left v ≡ bytes_left (after a.count u) = ap bytes_left (sym a.rest) in
    record {
      count = a.count + b.count;
      within = omega (arith, a.within, b.within, left, length-drop a.count u.bytes);
      rest = sym (after-after b.count a.count u) ∙ ap (after b.count) a.rest ∙ b.rest;
    }

-- equal views have the same places
pub IsAfter-same : (u v w : View) → v ≡ u → IsAfter v w → IsAfter u w
IsAfter-same u v w e a = subst (λ (x : View). IsAfter x w) e a

-- ---- steps

-- a step leaves what comes after some bytes
pub record Goes {A : Type 0} (p : Parser A) : Type 0 where
  pub goes : (v : View) (x : A) (w : View) → p v ≡ Ok (x, w) → IsAfter v w

-- a place in a view stays in it
pub Goes-on : {A : Type 0} (p : Parser A) (u v w : View) (x : A) → Goes p → IsAfter u v → p v ≡ Ok (x, w) → IsAfter u w
Goes-on p u v w x g a h = IsAfter-IsAfter u v w a (g.goes v x w h)

pub Goes-onward : {A B : Type 0} (p : Parser A) (f : A → Parser B) → Goes p → ((x : A) → Goes (f x)) → Goes (p >>= f)
Goes-onward p f a b =
    record {
      goes = λ v y w e. let s = begins (p v) f y w e in
          IsAfter-IsAfter v s.1 w (a.goes v s.0 s.1 s.2) ((b s.0).goes s.1 y w s.3);
    }

pub Goes-give : {A : Type 0} (x : A) → Goes (give x)
Goes-give x = record { goes = λ v y w e. subst (λ (u : View). IsAfter v u) (state_is x y v w e) (IsAfter-self v) }

pub Goes-fail : {A : Type 0} (e : Error) → Goes {A = A} (fail e)
Goes-fail e = record { goes = λ v y w k. absurd cc }

pub Goes-branch : {A : Type 0} (b : Bool) (p q : Parser A) → Goes p → Goes q → Goes (branch b p q)
Goes-branch true p q g h = record { goes = λ v x w e. g.goes v x w e }
Goes-branch false p q g h = record { goes = λ v x w e. h.goes v x w e }

pub Goes-lift : {A : Type 0} (r : Result A Error) → Goes {A = A} (lift r)
Goes-lift r =
    record {
      goes = λ v x w e. subst (λ (u : View). IsAfter v u) (sym (lift-Ok r v x w e).1) (IsAfter-self v);
    }

pub Goes-fixed : (n : ℕ) → Goes (fixed n)
unfolding fixed
Goes-fixed n = record {
  goes = λ v x w e. elim (cases_lt (length v.bytes) n) [
    | inl short ↦ absurd (let no = rw (lt-ltb (length v.bytes) n short) at e in cc)
    | inr there ↦
        let is = rw (le-ltb (length v.bytes) n there) at e in
        subst (λ (u : View). IsAfter v u) (state_is _ x (after n v) w is) (IsAfter-after n v there)
  ];
}

pub Goes-part : (n : ℕ) → Goes (part n)
Goes-part n = record {
  goes = λ v x w e.
      let cut = part-Ok n v x w e in
      subst (λ (u : View). IsAfter v u) (sym cut.rest_is) (IsAfter-after n v cut.there);
}

-- a number, whose string of bytes is judged
pub string_goes : (limit bound : ℕ) (r : Result (List ℕ) Fault) (v : View) (x : ℕ) (w : View)
    → bounded_string limit v.bytes ≡ r → number_and_rest BadUnsignedLeb128 v (unsigned_of bound r) ≡ read x w
    → IsAfter v w
string_goes limit bound (Err fault) v x w j e = absurd cc
string_goes limit bound (Ok s) v x w j e = by_test (ltb (unsigned_number s) bound) e
  where
    by_test : (t : Bool) → number_and_rest BadUnsignedLeb128 v (cond t (Ok (unsigned_number s, length s)) (Err Bad))
        ≡ read x w → IsAfter v w
    by_test true k =
        record {
          count = length s;
          within = (judged_fits_in limit v.bytes s j).fits;
          rest = state_is (unsigned_number s) x (after (length s) v) w k;
        }
    by_test false k = absurd cc

pub Goes-unsigned : Goes unsigned
unfolding unsigned
Goes-unsigned = record { goes = λ v x w e. string_goes 10 (2 ^ 64) (bounded_string 10 v.bytes) v x w refl e }

pub Goes-address : (size : ℕ) → Goes (address size)
unfolding address
Goes-address size =
    Goes-branch (is_address_size size) (fixed size) (fail (UnsupportedAddressSize size)) (Goes-fixed size)
    (Goes-fail (UnsupportedAddressSize size))
