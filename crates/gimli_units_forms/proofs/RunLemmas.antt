-- Runs of bytes, and what of the things that are read is one.
use Rattle.std.proofs.Common.{◌≡◌, ℕ, ◌+◌, ◌<◌, ◌≤◌, Bool, true, false, cond, eqb, ltb, leb, length, take, Option, Some, None, Result, Ok, Err, refl, sym, ap, ◌∙◌, arith, length-drop}
use Rattle.std.specs.List.{position}
use Rattle.std.proofs.lemmas.List.Quantifiers.{position-Some}
use Rattle.std.proofs.lemmas.Bool.{le-leb, ltb-false, leb-true}
use Rattle.gimli_core_abbrev.specs.Error.{Error}
use Rattle.gimli_core_abbrev.specs.Error.TheVariants.{UnsupportedAddressSize}
use Rattle.gimli_core_abbrev.specs.View.{View, after, prefix, bytes_left, unexpected_end}
use Rattle.gimli_core_abbrev.specs.Parsers.{proceed, give, part, skip, text_to, find_byte, index_or_end}
use Rattle.gimli_core_abbrev.proofs.StepParts.{state_is, read}
use Rattle.gimli_core_abbrev.proofs.ViewCuts.{after-after}
use Rattle.gimli_core_abbrev.proofs.PlaceLemmas.{after-zero}
use Rattle.gimli_core_abbrev.specs.Fixed.{number}
use Rattle.gimli_core_abbrev.specs.NumberParsers.{fixed, address, is_address_size}
use Rattle.gimli_units_forms.specs.AttributeSkipping.{run_fault, run, skip_text}

-- ---- runs

abbrev pub leaves : View → Result (Unit {0} × View) Error
leaves v = Ok (tt, v)

pub run-Ok : (n : ℕ) (v : View) → n ≤ bytes_left v → run n v ≡ leaves (after n v)
unfolding run
run-Ok n v h = rw (le-leb n (length v.bytes) h) refl

-- what a run skips was there
pub record Runs (n : ℕ) (v w : View) : Type 0 where
  pub there : n ≤ bytes_left v
  pub after_it : after n v ≡ w

pub Runs-from_run : (n : ℕ) (v w : View) → run n v ≡ leaves w → Runs n v w
unfolding run
Runs-from_run n v w h = by_test (leb n (length v.bytes)) refl h
  where
    by_test : (t : Bool) → leb n (length v.bytes) ≡ t → cond t (leaves (after n v)) (Err (run_fault n v)) ≡ leaves w
        → Runs n v w
    by_test true e k = record { there = leb-true _ _ e; after_it = state_is tt tt _ _ k }
    by_test false e k = absurd cc

-- one run after another is a run
pub run-run : (n m : ℕ) (u v w : View) → run n u ≡ leaves v → run m v ≡ leaves w → run (n + m) u ≡ leaves w
run-run n m u v w h k =
    let a = Runs-from_run n u v h in
    let b = Runs-from_run m v w k in
    let left : bytes_left v ≡ bytes_left (after n u) = ap bytes_left (sym a.after_it) in
    let rest : after (n + m) u ≡ w = sym (after-after m n u) ∙ ap (after m) a.after_it ∙ b.after_it in
    run-Ok (n + m) u (omega (arith, a.there, b.there, left, length-drop n u.bytes)) ∙ ap leaves rest

pub run-zero : (v : View) → run 0 v ≡ leaves v
run-zero v = run-Ok 0 v (omega arith) ∙ ap leaves (after-zero v)

-- ---- texts

-- the place of a text's zero byte
pub found-within : (n : ℕ) (v : View) → find_byte 0 v ≡ Ok n → n < bytes_left v
found-within n v e = by_place (position (λ x. eqb x 0) v.bytes) refl e
  where
    by_place : (o : Option ℕ) → position (λ x. eqb x 0) v.bytes ≡ o → index_or_end o v ≡ Ok n → n < bytes_left v
    by_place None p h = absurd cc
    by_place (Some i) p h =
        let same : i ≡ n = cc in let within_it = (position-Some (λ x. eqb x 0) v.bytes i 0 p).0 in omega arith

-- a text is skipped with its zero byte
pub skip_text-is : (n : ℕ) (v w u : View) → find_byte 0 v ≡ Ok n → skip n v ≡ leaves w → u ≡ after 1 w
    → skip_text v ≡ leaves u
skip_text-is n v w u f s e =
    let rest : after (n + 1) v ≡ u = sym (after-after 1 n v) ∙ ap (after 1) (by_test (ltb (length v.bytes) n) s)
    ∙ sym e in
    ap (λ (r : Result ℕ Error). proceed (text_to r v) (λ _. give tt)) f ∙ ap leaves rest
  where
    by_test : (t : Bool) → cond t (Err (unexpected_end v)) (leaves (after n v)) ≡ leaves w → after n v ≡ w
    by_test true h = absurd cc
    by_test false h = state_is tt tt _ _ h

-- ---- what is read is a run

pub part-run : (n : ℕ) (v p w : View) → part n v ≡ Ok (p, w) → run n v ≡ leaves w
part-run n v p w e = by_test (ltb (length v.bytes) n) refl e
  where
    by_test : (t : Bool) → ltb (length v.bytes) n ≡ t
        → cond t (Err (unexpected_end v)) (read (prefix n v) (after n v)) ≡ read p w → run n v ≡ leaves w
    by_test true t h = absurd cc
    by_test false t h = run-Ok n v (ltb-false _ _ t) ∙ ap leaves (state_is (prefix n v) p _ _ h)

pub fixed-run : (n x : ℕ) (v w : View) → fixed n v ≡ Ok (x, w) → run n v ≡ leaves w
unfolding fixed
fixed-run n x v w e = by_test (ltb (length v.bytes) n) refl e
  where
    by_test : (t : Bool) → ltb (length v.bytes) n ≡ t
        → cond t (Err (unexpected_end v)) (read (number v.is_big (take n v.bytes)) (after n v)) ≡ read x w
        → run n v ≡ leaves w
    by_test true t h = absurd cc
    by_test false t h = run-Ok n v (ltb-false _ _ t) ∙ ap leaves (state_is (number v.is_big (take n v.bytes)) x _ _ h)

pub address-run : (n x : ℕ) (v w : View) → address n v ≡ Ok (x, w) → run n v ≡ leaves w
unfolding address
address-run n x v w e = by_test (is_address_size n) e
  where
    by_test : (t : Bool) → cond t (fixed n v) (Err (UnsupportedAddressSize n)) ≡ read x w → run n v ≡ leaves w
    by_test true h = fixed-run n x v w h
    by_test false h = absurd cc
