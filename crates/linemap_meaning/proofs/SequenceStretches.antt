-- The stretches of a sound table that hold an address are the one of its location.
use Rattle.std.proofs.Common.{◌≡◌, ℕ, ◌+◌, ◌-◌, ◌<◌, ◌≤◌, Bool, true, false, cond, ◌&&◌, ◌||◌, nat_lt, nat_le, List, [], ◌∷◌, map, filter, Option, Some, None, option_map, option_to_list, refl, sym, ap, ◌∙◌, arith}
use Rattle.std.specs.List.{list_any, last_or}
use Rattle.std.proofs.lemmas.Bool.{leb-true, leb-false, ltb-true, ltb-false, lt-ltb, le-ltb, le-leb, lt-leb, and_from, and_left, and_right, or_parts, or_from}
use Rattle.linemap_meaning.specs.TableParts.{RowPart, UnitPart}
use Rattle.linemap_meaning.specs.Conditions.{goes_back_from, extent}
use Rattle.linemap_meaning.specs.Meaning.{Location, Stretch, any_holds, row_location, next_address, row_stretches, last_row}
use Rattle.linemap_meaning.specs.StretchLaws.{stretch_holds, stretch_locations}

-- ---- one stretch before others

not_in_front : (a : ℕ) (s : Stretch) (later : List Stretch) (b : Bool) → stretch_holds a s ≡ false
    → stretch_locations a (cond b (s ∷ later) later) ≡ stretch_locations a later
not_in_front a s later true h =
    ap (λ c. map (λ (t : Stretch). t.location)
    (cond c (s ∷ filter (stretch_holds a) later) (filter (stretch_holds a) later))) h
not_in_front a s later false h = refl

in_front : (a : ℕ) (s : Stretch) (later : List Stretch) (b : Bool) → b ≡ true → stretch_holds a s ≡ true
    → stretch_locations a (cond b (s ∷ later) later) ≡ (s.location ∷ stretch_locations a later)
in_front a s later true e h =
    ap (λ c. map (λ (t : Stretch). t.location)
    (cond c (s ∷ filter (stretch_holds a) later) (filter (stretch_holds a) later))) h
in_front a s later false e h = cc

-- ---- the rows of a sequence

abbrev pub is_past : ℕ → RowPart → Bool
is_past end r = nat_le end r.address

abbrev is_at_most : ℕ → RowPart → Bool
is_at_most a r = nat_le r.address a

next_within : (end : ℕ) (rs : List RowPart) → list_any (is_past end) rs ≡ false → next_address rs end ≤ end
next_within end [] h = omega arith
next_within end (r ∷ rs) h =
    let lt : r.address < end = leb-false end r.address (or_parts (is_past end r) (list_any (is_past end) rs) h).0 in
    omega arith

-- rows that begin above an address
none_below_rows : (u : UnitPart) (a low end : ℕ) (rs : List RowPart) → a < low → goes_back_from low rs ≡ false
    → stretch_locations a (row_stretches u end rs) ≡ []
none_below_rows u a low end [] lt h = refl
none_below_rows u a low end (r ∷ rs) lt h =
    let p = or_parts (nat_lt r.address low) (goes_back_from r.address rs) h in
    let le : low ≤ r.address = ltb-false r.address low p.0 in
    let next = next_address rs end in
    not_in_front a (record { address = r.address; length = next - r.address; location = row_location u r })
    (row_stretches u end rs) (nat_lt r.address next)
    (and_left (nat_le r.address a) (nat_lt a (r.address + (next - r.address))) (lt-leb r.address a (omega arith)))
    ∙ none_below_rows u a r.address end rs (omega arith) p.1

none_above : (a low : ℕ) (rs : List RowPart) → a < low → goes_back_from low rs ≡ false → filter (is_at_most a) rs ≡ []
none_above a low [] lt h = refl
none_above a low (r ∷ rs) lt h =
    let p = or_parts (nat_lt r.address low) (goes_back_from r.address rs) h in
    let le : low ≤ r.address = ltb-false r.address low p.0 in
    ap (λ b. cond b (r ∷ filter (is_at_most a) rs) (filter (is_at_most a) rs)) (lt-leb r.address a (omega arith))
    ∙ none_above a r.address rs (omega arith) p.1

-- rows that end at or below an address
none_past_end : (u : UnitPart) (a end : ℕ) (rs : List RowPart) → end ≤ a → list_any (is_past end) rs ≡ false
    → stretch_locations a (row_stretches u end rs) ≡ []
none_past_end u a end [] le h = refl
none_past_end u a end (r ∷ rs) le h =
    let p = or_parts (is_past end r) (list_any (is_past end) rs) h in
    let lt : r.address < end = leb-false end r.address p.0 in
    let next = next_address rs end in
    let within : next_address rs end ≤ end = next_within end rs p.1 in
    not_in_front a (record { address = r.address; length = next - r.address; location = row_location u r })
    (row_stretches u end rs) (nat_lt r.address next)
    (and_right (nat_le r.address a) (nat_lt a (r.address + (next - r.address)))
    (le-ltb a (r.address + (next - r.address)) (omega arith)))
    ∙ none_past_end u a end rs le p.1

module _ (u : UnitPart) (a end : ℕ) where
  abbrev answer : Option RowPart → List Location
  answer o = option_to_list (option_map (row_location u) o)

  -- a row below the address, whose own stretch ends at or below it
  stretch_before : (r : RowPart) (rs : List RowPart) → next_address rs end ≤ a → r.address ≤ a
      → stretch_locations a (row_stretches u end (r ∷ rs)) ≡ stretch_locations a (row_stretches u end rs)
  stretch_before r rs le low =
      let next = next_address rs end in
      not_in_front a (record { address = r.address; length = next - r.address; location = row_location u r })
      (row_stretches u end rs) (nat_lt r.address next)
      (and_right (nat_le r.address a) (nat_lt a (r.address + (next - r.address)))
      (le-ltb a (r.address + (next - r.address)) (before r.address next a le low)))
    where
      before : (x y z : ℕ) → y ≤ z → x ≤ z → x + (y - x) ≤ z
      before x y z h k = omega arith

  -- from a row at or below the address on
  from_row : (r : RowPart) (rs : List RowPart) → r.address ≤ a → a < end → goes_back_from r.address rs ≡ false
      → list_any (is_past end) (r ∷ rs) ≡ false
      → stretch_locations a (row_stretches u end (r ∷ rs)) ≡ answer (last_or (Some r) (filter (is_at_most a) rs))
  from_row r [] low lt h k =
      in_front a (record { address = r.address; length = end - r.address; location = row_location u r }) []
      (nat_lt r.address end)
      (lt-ltb r.address end (omega arith))
      (and_from _ _ (le-leb r.address a low) (lt-ltb a (r.address + (end - r.address)) (omega arith)))
  from_row r (s ∷ rs) low lt h k =
      let p = or_parts (nat_lt s.address r.address) (goes_back_from s.address rs) h in
      let q = or_parts (is_past end r) (list_any (is_past end) (s ∷ rs)) k in
      let F = filter (is_at_most a) rs in
      let by_cases : (b : Bool) → nat_le s.address a ≡ b
      → stretch_locations a (row_stretches u end (r ∷ s ∷ rs)) ≡ answer (last_or (Some r) (cond b (s ∷ F) F)) = λ b.
      elim b as (λ b. nat_le s.address a ≡ b
      → stretch_locations a (row_stretches u end (r ∷ s ∷ rs)) ≡ answer (last_or (Some r) (cond b (s ∷ F) F))) [
        | true ↦ λ e. stretch_before r (s ∷ rs) (leb-true s.address a e) low
            ∙ from_row s rs (leb-true s.address a e) lt p.1 q.1
        | false ↦ λ e.
            let gt : a < s.address = leb-false s.address a e in
            let later : goes_back_from (a + 1) (s ∷ rs) ≡ false =
            or_from _ _ (le-ltb s.address (a + 1) (omega arith)) p.1 in
            let more : a < a + 1 = omega arith in
            in_front a (record { address = r.address; length = s.address - r.address; location = row_location u r })
            (row_stretches u end (s ∷ rs))
            (nat_lt r.address s.address) (lt-ltb r.address s.address (omega arith))
            (and_from _ _ (le-leb r.address a low) (lt-ltb a (r.address + (s.address - r.address)) (omega arith)))
            ∙ ap (λ ls. row_location u r ∷ ls) (none_below_rows u a (a + 1) end (s ∷ rs) more later)
            ∙ ap (λ xs. answer (last_or (Some r) xs)) (sym (none_above a s.address rs gt p.1))
      ] in
      by_cases (nat_le s.address a) refl

  -- the stretches of a sequence
  pub in_sequence : (rows : List RowPart) → goes_back_from 0 rows ≡ false → list_any (is_past end) rows ≡ false
      → stretch_locations a (row_stretches u end rows)
      ≡ cond (any_holds a (extent rows end)) (answer (last_row rows a)) []
  in_sequence [] h k = refl
  in_sequence (r ∷ rs) h k =
      let p = or_parts (nat_lt r.address 0) (goes_back_from r.address rs) h in
      let q = or_parts (is_past end r) (list_any (is_past end) rs) k in
      let F = filter (is_at_most a) rs in
      let got = stretch_locations a (row_stretches u end (r ∷ rs)) in
      let below : nat_lt r.address end ≡ true = lt-ltb r.address end (leb-false end r.address q.0) in
      let by_cases : (x y : Bool) → nat_le r.address a ≡ x → nat_lt a end ≡ y
      → got ≡ cond ((x && y) || false) (answer (last_or None (cond x (r ∷ F) F))) [] = λ x y.
      elim x as (λ x. nat_le r.address a ≡ x → nat_lt a end ≡ y
      → got ≡ cond ((x && y) || false) (answer (last_or None (cond x (r ∷ F) F))) []) [
        | true ↦ λ e. elim y as (λ y. nat_lt a end ≡ y
            → got ≡ cond ((true && y) || false) (answer (last_or (Some r) F)) []) [
              | true ↦ λ d. from_row r rs (leb-true r.address a e) (ltb-true a end d) p.1 k
              | false ↦ λ d. none_past_end u a end (r ∷ rs) (ltb-false a end d) k
            ]
        | false ↦ λ e _.
            let gt : a < r.address = leb-false r.address a e in
            let more : a < a + 1 = omega arith in
            none_below_rows u a (a + 1) end (r ∷ rs) more (or_from _ _ (le-ltb r.address (a + 1) (omega arith)) p.1)
      ] in
      by_cases (nat_le r.address a) (nat_lt a end) refl refl
      ∙ ap (λ t. cond (any_holds a (cond t (record { begin = r.address; end = end } ∷ []) []))
      (answer (last_row (r ∷ rs) a)) []) (sym below)
