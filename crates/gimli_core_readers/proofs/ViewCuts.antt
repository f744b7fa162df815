-- How views are cut and moved.
use Rattle.std.proofs.Common.{◌≡◌, ℕ, ◌+◌, ◌≤◌, Bool, true, false, cond, ltb, List, length, drop, Result, Ok, Err, refl, sym, ap, ◌∙◌, arith, rules}
use Rattle.std.proofs.lemmas.List.{drop-drop}
use Rattle.std.proofs.lemmas.Bool.{ltb-false}
use Rattle.gimli_core_base.specs.declared.error.Error.{Error}
use Rattle.gimli_core_base.specs.View.{View, after, prefix, unexpected_end}
use Rattle.gimli_core_base.specs.Parsers.{part, find_byte, null_terminated, text_to}
use Rattle.gimli_core_base.proofs.StepParts.{value_is, state_is}

-- a view by its parts
abbrev pub at_place : Bool → List ℕ → ℕ → View
at_place is_big bytes first = record { bytes = bytes; is_big = is_big; first = first }

-- behind some bytes, and then behind more
pub after-after : (m n : ℕ) (v : View) → after m (after n v) ≡ after (n + m) v
after-after m n v =
    let bytes : drop m (drop n v.bytes) ≡ drop (n + m) v.bytes = search (rules, drop-drop) in
    let first : v.first + n + m ≡ v.first + (n + m) = omega arith in
    ap (λ (xs : List ℕ). at_place v.is_big xs (v.first + n + m)) bytes
    ∙ ap (λ (k : ℕ). at_place v.is_big (drop (n + m) v.bytes) k) first

-- bytes that were cut from the front
pub record Cut (n : ℕ) (v w u : View) : Type 0 where
  pub there : n ≤ length v.bytes
  pub front_is : w ≡ prefix n v
  pub rest_is : u ≡ after n v

pub part-Ok : (n : ℕ) (v w u : View) → part n v ≡ Ok (w, u) → Cut n v w u
part-Ok n v w u e = at (ltb (length v.bytes) n) refl e
  where
    at : (b : Bool) → ltb (length v.bytes) n ≡ b
        → cond {A = Result (View × View) Error} b (Err (unexpected_end v)) (Ok (prefix n v, after n v)) ≡ Ok (w, u)
        → Cut n v w u
    at true t h = absurd cc
    at false t h = record {
      there = ltb-false _ _ t;
      front_is = sym (value_is (prefix n v) w (after n v) u h);
      rest_is =
          sym (state_is (prefix n v) w (after n v) u h);
    }

-- a text is what comes before its zero byte
pub text_is : (n : ℕ) (v w u t : View) → find_byte 0 v ≡ Ok n → part n v ≡ Ok (w, u) → t ≡ after 1 u
    → null_terminated v ≡ Ok (w, t)
text_is n v w u t f p e =
    let cut = part-Ok n v w u p in
    let rest : after (n + 1) v ≡ t = sym (e ∙ ap (after 1) cut.rest_is ∙ after-after 1 n v) in
    ap (λ (r : Result ℕ Error). text_to r v) f ∙ ap (λ (x : View). both x (after (n + 1) v)) (sym cut.front_is)
    ∙ ap (both w) rest
  where
    both : View → View → Result (View × View) Error
    both x y = Ok (x, y)
