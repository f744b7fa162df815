-- Where ranges don't overlap, at most one of their owners holds an address.
use Rattle.std.proofs.Common.{◌≡◌, ℕ, ◌<◌, ◌≤◌, Bool, true, false, cond, ◌||◌, nat_lt, nat_le, List, [], ◌∷◌, ◌++◌, length, filter, flat_map, Contains, refl, sym, ap, ◌∙◌, arith}
use Rattle.std.specs.List.{list_any}
use Rattle.std.proofs.lemmas.Bool.{leb-true, ltb-true, lt-ltb, and_parts, and_from, or_parts, or_from, both_ways, false_from_ne_true}
use Rattle.std.proofs.lemmas.List.Folds.{list_any-append}
use Rattle.linemap_meaning.specs.TableParts.{RangePart, FunctionPart, UnitPart}
use Rattle.linemap_meaning.specs.Conditions.{overlap, any_overlap, span, has_functions_overlap, has_sequences_overlap, IsSound}
use Rattle.linemap_meaning.specs.Meaning.{holds, any_holds}
use Rattle.linemap_meaning.specs.declared.rule.Rule.TheVariants.{UnitsOverlap, FunctionsOverlap, SequencesOverlap}
use Rattle.linemap_meaning.proofs.SoundUnits.{sound_rule, none_passes}

-- of two ranges that don't overlap, where one holds an address the other doesn't
not_both : (a : ℕ) (r s : RangePart) → overlap r s ≡ false → holds a r ≡ true → holds a s ≡ false
not_both a r s apart h = false_from_ne_true (holds a s) (λ k.
    let p = and_parts (nat_le r.begin a) (nat_lt a r.end) h in
    let q = and_parts (nat_le s.begin a) (nat_lt a s.end) k in
    let p0 : r.begin ≤ a = leb-true r.begin a p.0 in
    let p1 : a < r.end = ltb-true a r.end p.1 in
    let q0 : s.begin ≤ a = leb-true s.begin a q.0 in
    let q1 : a < s.end = ltb-true a s.end q.1 in
    both_ways (overlap r s) apart
    (and_from _ _ (lt-ltb r.begin s.end (omega arith)) (lt-ltb s.begin r.end (omega arith))))

none_held : (a : ℕ) (r : RangePart) (ss : List RangePart) → list_any (overlap r) ss ≡ false → holds a r ≡ true
    → any_holds a ss ≡ false
none_held a r [] apart h = refl
none_held a r (s ∷ ss) apart h =
    let p = or_parts (overlap r s) (list_any (overlap r) ss) apart in
    or_from (holds a s) (any_holds a ss) (not_both a r s p.0 h) (none_held a r ss p.1 h)

-- the second of two lists that don't overlap
pub rest_apart : (rs ss : List RangePart) → any_overlap (rs ++ ss) ≡ false → any_overlap ss ≡ false
rest_apart [] ss h = h
rest_apart (r ∷ rs) ss h = rest_apart rs ss (or_parts (list_any (overlap r) (rs ++ ss)) (any_overlap (rs ++ ss)) h).1

-- where the first holds an address, the second doesn't
pub not_in_rest : (a : ℕ) (rs ss : List RangePart) → any_overlap (rs ++ ss) ≡ false → any_holds a rs ≡ true
    → any_holds a ss ≡ false
not_in_rest a [] ss h k = cc
not_in_rest a (r ∷ rs) ss h k =
    let p = or_parts (list_any (overlap r) (rs ++ ss)) (any_overlap (rs ++ ss)) h in
    let q =
    or_parts (list_any (overlap r) rs) (list_any (overlap r) ss) (sym (list_any-append (overlap r) rs ss) ∙ p.0) in
    let in_case : (b : Bool) → holds a r ≡ b → (b || any_holds a rs) ≡ true → any_holds a ss ≡ false = λ b.
    elim b as (λ b. holds a r ≡ b → (b || any_holds a rs) ≡ true → any_holds a ss ≡ false) [
      | true ↦ λ e _. none_held a r ss q.1 e
      | false ↦ λ _ k. not_in_rest a rs ss p.1 k
    ] in
    in_case (holds a r) refl k

module _ {X : Type 0} (ranges : X → List RangePart) (a : ℕ) where
  abbrev owned_ranges : List X → List RangePart
  owned_ranges xs = flat_map ranges xs

  abbrev holders : List X → List X
  holders xs = filter (λ x. any_holds a (ranges x)) xs

  no_holder : (xs : List X) → any_holds a (owned_ranges xs) ≡ false → holders xs ≡ []
  no_holder [] h = refl
  no_holder (x ∷ xs) h =
      let p =
      or_parts (any_holds a (ranges x)) (any_holds a (owned_ranges xs))
      (sym (list_any-append (holds a) (ranges x) (owned_ranges xs)) ∙ h) in
      ap (λ b. cond b (x ∷ holders xs) (holders xs)) p.0 ∙ no_holder xs p.1

  pub one_holder : (xs : List X) → any_overlap (owned_ranges xs) ≡ false → length (holders xs) ≤ 1
  one_holder [] h = omega arith
  one_holder (x ∷ xs) h =
      let in_case : (b : Bool) → any_holds a (ranges x) ≡ b → length (cond b (x ∷ holders xs) (holders xs)) ≤ 1 = λ b.
      elim b as (λ b. any_holds a (ranges x) ≡ b → length (cond b (x ∷ holders xs) (holders xs)) ≤ 1) [
        | true ↦ λ e. let n = ap length (no_holder xs (not_in_rest a (ranges x) (owned_ranges xs) h e)) in
            omega (arith, n)
        | false ↦ λ _. one_holder xs (rest_apart (ranges x) (owned_ranges xs) h)
      ] in
      in_case (any_holds a (ranges x)) refl

pub one_unit : (us : List UnitPart) (a : ℕ) → IsSound us → length (filter (λ u. any_holds a u.ranges) us) ≤ 1
one_unit us a sound = one_holder (λ (u : UnitPart). u.ranges) a us (sound_rule us UnitsOverlap sound)

pub one_function : (us : List UnitPart) (u : UnitPart) (a : ℕ) → IsSound us → Contains us u
    → length (filter (λ f. any_holds a f.ranges) u.functions) ≤ 1
one_function us u a sound c =
    one_holder (λ (f : FunctionPart). f.ranges) a u.functions
    (none_passes has_functions_overlap us u (sound_rule us FunctionsOverlap sound) c)

pub one_sequence : (us : List UnitPart) (u : UnitPart) (a : ℕ) → IsSound us → Contains us u
    → length (filter (λ s. any_holds a (span s)) u.sequences) ≤ 1
one_sequence us u a sound c =
    one_holder span a u.sequences (none_passes has_sequences_overlap us u (sound_rule us SequencesOverlap sound) c)
