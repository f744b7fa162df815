-- Where no two ranges overlap, what holds an address is the first that does.
use Rattle.std.proofs.Common.{◌≡◌, ℕ, ◌<◌, ◌≤◌, Bool, true, false, cond, ◌==◌, ◌&&◌, ◌||◌, nat_lt, nat_le, List, [], ◌∷◌, map, filter, find, Option, Some, None, refl, sym, ap, ◌∙◌, ◌⊎◌, inl, inr, arith}
use Rattle.std.specs.List.{list_all}
use Rattle.std.proofs.lemmas.Bool.{leb-true, ltb-true, lt-ltb, le-ltb, eqb-true, and_parts, and_from, cases_lt}
use Rattle.gimli_lines_machine.specs.Range.{Range}
use Rattle.addr2line_spec.specs.Choice.{holds, is_later, later_of, latest, latest_at_or_below, only_if, holder}
use Rattle.addr2line_spec.specs.LookupLaws.{has_address, is_apart, are_apart}

-- ---- two ranges

-- a range that begins above another is later
later_above : (r s : Range) → s.begin < r.begin → is_later r s ≡ true
later_above r s h = ap (λ b. b || (r.begin == s.begin && nat_lt s.end r.end)) (lt-ltb s.begin r.begin h)

-- one of two sides holds
either : (p q : Bool) → (p || q) ≡ true → (p ≡ true) ⊎ (q ≡ true)
either true q h = inl refl
either false q h = inr h

-- a later range doesn't begin below the other
later_begins : (r s : Range) → is_later r s ≡ true → s.begin ≤ r.begin
later_begins r s h =
    elim (either (nat_lt s.begin r.begin) (r.begin == s.begin && nat_lt s.end r.end) h) [
      | inl above ↦ let above' = ltb-true s.begin r.begin above in omega arith
      | inr level ↦ let same =
          eqb-true r.begin s.begin (and_parts (r.begin == s.begin) (nat_lt s.end r.end) level).0 in omega (arith, same)
    ]

-- where the first holds an address at or below which the second begins, it is later
holder_is_later : (a : ℕ) (r s : Range) → is_apart r s ≡ true → has_address s ≡ true → a < r.end → s.begin ≤ a
    → is_later r s ≡ true
holder_is_later a r s apart some ends begins =
    let lt = ltb-true s.begin s.end some in
    elim (either (nat_le r.end s.begin) (nat_le s.end r.begin) apart) [
      | inl before ↦ let le = leb-true r.end s.begin before in absurd (omega arith)
      | inr lower ↦ let le = leb-true s.end r.begin lower in later_above r s (omega arith)
    ]

-- a range that ends at or below an address and is later than another leaves it ended too
earlier_ends : (a : ℕ) (r s : Range) → is_apart r s ≡ true → has_address r ≡ true → r.begin ≤ a → is_later r s ≡ true
    → s.end ≤ a
earlier_ends a r s apart some begins later =
    let lt = ltb-true r.begin r.end some in
    let below = later_begins r s later in
    elim (either (nat_le r.end s.begin) (nat_le s.end r.begin) apart) [
      | inl before ↦ let le = leb-true r.end s.begin before in absurd (omega arith)
      | inr lower ↦ let le = leb-true s.end r.begin lower in omega arith
    ]

-- ---- lists

module _ {X : Type 0} (range : X → Range) (a : ℕ) where
  abbrev begins : X → Bool
  begins x = nat_le (range x).begin a

  -- what is so of all that are left is so of the latest
  latest_is : (p : X → Bool) (xs : List X) (y : X) → list_all p xs ≡ true → latest range xs ≡ Some y → p y ≡ true
  latest_is p [] y all e = cc
  latest_is p (x ∷ xs) y all e =
      let parts = and_parts (p x) (list_all p xs) all in
      let of_rest : (o : Option X) → latest range xs ≡ o → Some (later_of range x o) ≡ Some y → p y ≡ true = λ o.
      elim o as (λ o. latest range xs ≡ o → Some (later_of range x o) ≡ Some y → p y ≡ true) [
        | None ↦ λ _ e. let same : x ≡ y = cc in ap p (sym same) ∙ parts.0
        | Some z ↦ λ found e. elim (is_later (range x) (range z)) as (λ b. Some (cond b x z) ≡ Some y → p y ≡ true) [
          | true ↦ λ e. let same : x ≡ y = cc in ap p (sym same) ∙ parts.0
          | false ↦ λ e. let same : z ≡ y = cc in ap p (sym same) ∙ latest_is p xs z parts.1 found
        ] e
      ] in
      of_rest (latest range xs) refl e

  -- each that is left passes the test by which it was left
  filter_passes : (p : X → Bool) (xs : List X) → list_all p (filter p xs) ≡ true
  filter_passes p [] = refl
  filter_passes p (x ∷ xs) =
      elim (p x) as (λ b. p x ≡ b → list_all p (cond b (x ∷ filter p xs) (filter p xs)) ≡ true) [
        | true ↦ λ e. and_from _ _ e (filter_passes p xs)
        | false ↦ λ _. filter_passes p xs
      ] refl

  -- what all pass those pass that are left
  filter_keeps : (p q : X → Bool) (xs : List X) → list_all p xs ≡ true → list_all p (filter q xs) ≡ true
  filter_keeps p q [] h = refl
  filter_keeps p q (x ∷ xs) h =
      let parts = and_parts (p x) (list_all p xs) h in
      elim (q x) as (λ b. list_all p (cond b (x ∷ filter q xs) (filter q xs)) ≡ true) [
        | true ↦ and_from _ _ parts.0 (filter_keeps p q xs parts.1)
        | false ↦ filter_keeps p q xs parts.1
      ]

  all_apart : (r : Range) (xs : List X) → list_all (is_apart r) (map range xs) ≡ true
      → list_all (λ x. is_apart r (range x)) xs ≡ true
  all_apart r [] h = refl
  all_apart r (x ∷ xs) h =
      let parts = and_parts (is_apart r (range x)) (list_all (is_apart r) (map range xs)) h in
      and_from _ _ parts.0 (all_apart r xs parts.1)

  all_some : (xs : List X) → are_apart (map range xs) ≡ true → list_all (λ x. has_address (range x)) xs ≡ true
  all_some [] h = refl
  all_some (x ∷ xs) h =
      let parts =
      and_parts (has_address (range x) && list_all (is_apart (range x)) (map range xs))
      (are_apart (map range xs)) h in
      and_from _ _ (and_parts (has_address (range x)) (list_all (is_apart (range x)) (map range xs)) parts.0).0
      (all_some xs parts.1)

  -- the facts of what is latest after an element
  latest_of_rest : (p : X → Bool) (xs : List X) (y : X) → list_all p xs ≡ true → latest_at_or_below range a xs ≡ Some y
      → (p y ≡ true) × (begins y ≡ true)
  latest_of_rest p xs y all e = (
    latest_is p (filter begins xs) y (filter_keeps p begins xs all) e,
    latest_is begins (filter begins xs) y
        (filter_passes begins xs) e,
  )

  abbrev ends : X → Bool
  ends x = nat_lt a (range x).end

  -- what is known of a range after the first
  abbrev IsLater : Range → X → Type 0
  IsLater r y = (is_apart r (range y) ≡ true) × (has_address (range y) ≡ true) × (begins y ≡ true)

  -- the first, where it begins at or below the address: it holds it where it ends above, and else what is after it does
  -- or doesn't
  first_of : (x : X) (o : Option X) → nat_le (range x).begin a ≡ true → has_address (range x) ≡ true
      → ((y : X) → o ≡ Some y → IsLater (range x) y)
      → only_if ends (Some (later_of range x o)) ≡ cond (ends x) (Some x) (only_if ends o)
  first_of x None begin some lower = refl
  first_of x (Some y) begin some lower =
      let known = lower y refl in
      elim (cases_lt a (range x).end) [
        | inl held ↦
            let e : ends x ≡ true = lt-ltb a (range x).end held in
            let later =
            holder_is_later a (range x) (range y) known.0 known.1 held (leb-true (range y).begin a known.2) in
            ap (λ b. only_if ends (Some (cond b x y))) later
            ∙ ap (λ b. cond b (Some x) None) e
            ∙ ap (λ b. cond b (Some x) (only_if ends (Some y))) (sym e)
        | inr over ↦
            let e : ends x ≡ false = le-ltb a (range x).end over in
            elim (is_later (range x) (range y)) as (λ b. is_later (range x) (range y) ≡ b
            → only_if ends (Some (cond b x y)) ≡ cond (ends x) (Some x) (only_if ends (Some y))) [
              | true ↦ λ later.
                  let f : ends y ≡ false =
                  le-ltb a (range y).end
                  (earlier_ends a (range x) (range y) known.0 some (leb-true (range x).begin a begin) later) in
                  ap (λ b. cond b (Some x) None) e
                  ∙ sym (ap (λ b. cond b (Some x) (only_if ends (Some y))) e ∙ ap (λ b. cond b (Some y) None) f)
              | false ↦ λ _. sym (ap (λ b. cond b (Some x) (only_if ends (Some y))) e)
            ] refl
      ]

  pub holds_once : (xs : List X) → are_apart (map range xs) ≡ true
      → holder range a xs ≡ find (λ x. holds a (range x)) xs
  holds_once [] h = refl
  holds_once (x ∷ xs) h =
      let later =
      and_parts (has_address (range x) && list_all (is_apart (range x)) (map range xs))
      (are_apart (map range xs)) h in
      let first = and_parts (has_address (range x)) (list_all (is_apart (range x)) (map range xs)) later.0 in
      let lower : (y : X) → latest_at_or_below range a xs ≡ Some y → IsLater (range x) y = λ y e.
      let apart = latest_of_rest (λ z. is_apart (range x) (range z)) xs y (all_apart (range x) xs first.1) e in
      (apart.0, (latest_of_rest (λ z. has_address (range z)) xs y (all_some xs later.1) e).0, apart.1) in
      elim (nat_le (range x).begin a) as (λ b. nat_le (range x).begin a ≡ b
      → only_if ends (latest range (cond b (x ∷ filter begins xs) (filter begins xs)))
      ≡ cond (b && ends x) (Some x) (find (λ y. holds a (range y)) xs)) [
        | true ↦ λ e. first_of x (latest_at_or_below range a xs) e first.0 lower
            ∙ ap (λ o. cond (ends x) (Some x) o) (holds_once xs later.1)
        | false ↦ λ _. holds_once xs later.1
      ] refl
