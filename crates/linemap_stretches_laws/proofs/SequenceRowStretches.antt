-- The stretches of the rows that lookups keep of a sequence are the table's.
use Rattle.std.proofs.Common.{◌≡◌, ℕ, ◌-◌, ◌<◌, ◌≤◌, Bool, true, false, cond, ◌==◌, ◌||◌, nat_lt, nat_le, List, [], ◌∷◌, length, map, refl, sym, ap, ◌∙◌, arith}
use Rattle.std.specs.List.{list_any}
use Rattle.std.proofs.lemmas.Bool.{leb-false, ltb-false, lt-ltb, le-ltb, eqb-true, eqb-false, or_parts}
use Rattle.linemap_places_laws.specs.Lines.{LineRow, Location, Sequence, next_address, last_at_each_address, row_location, stretches_of}
use Rattle.linemap_places_laws.specs.TableParts.{RowPart, SequencePart, UnitPart}
use Rattle.linemap_places_laws.specs.Conditions.{goes_back, goes_back_from, has_bad_rows}
use Rattle.linemap_places_laws.specs.Meaning.{row_stretches}
use Rattle.linemap_places_laws.specs.Meaning as table
use Rattle.linemap_places_laws.specs.LookupAgreement.{AreNumbered}
use Rattle.linemap_places_laws.proofs.UnitLocations.{is_bad_row, row_place}
use Rattle.linemap_places_laws.proofs.AgreeingSequences.{row_kept, start_of, agreeing_sequence}
use Rattle.linemap_stretches_laws.specs.LookupStretches.{lookup_stretch}
use Rattle.linemap_stretches_laws.proofs.StretchesBetweenEnds.{Rises}

-- ---- rows

-- a row isn't below its sequence's end
abbrev is_past : ℕ → RowPart → Bool
is_past end r = nat_le end r.address

-- of rows side by side at one address the last begins there too
pub kept_begins : (end : ℕ) (r : LineRow) (rs : List LineRow)
    → next_address (last_at_each_address (r ∷ rs)) end ≡ r.address
kept_begins end r [] = refl
kept_begins end r (q ∷ qs) = by_case (q.address == r.address) refl (kept_begins end q qs)
  where
    by_case : (b : Bool) → (q.address == r.address) ≡ b → next_address (last_at_each_address (q ∷ qs)) end ≡ q.address
        → next_address (cond b (last_at_each_address (q ∷ qs)) (r ∷ last_at_each_address (q ∷ qs))) end ≡ r.address
    by_case true e rest = rest ∙ eqb-true q.address r.address e
    by_case false e rest = refl

kept_rises : (number : ℕ → ℕ) (end low : ℕ) (rs : List RowPart) → goes_back_from low rs ≡ false
    → list_any (is_past end) rs ≡ false → Rises end (last_at_each_address (map (row_kept number) rs))
kept_rises number end low [] back past = tt
kept_rises number end low (r ∷ []) back past = (leb-false end r.address (or_parts (is_past end r) false past).0, tt)
kept_rises number end low (r ∷ q ∷ qs) back past =
    let backs = or_parts (nat_lt r.address low) (goes_back_from r.address (q ∷ qs)) back in
    let pasts = or_parts (is_past end r) (list_any (is_past end) (q ∷ qs)) past in
    let level : r.address ≤ q.address =
    ltb-false q.address r.address (or_parts (nat_lt q.address r.address) (goes_back_from q.address qs) backs.1).0 in
    by_case (q.address == r.address) refl level (kept_rises number end r.address (q ∷ qs) backs.1 pasts.1)
  where
    others : List LineRow
    others = last_at_each_address (map (row_kept number) (q ∷ qs))

    by_case : (b : Bool) → (q.address == r.address) ≡ b → r.address ≤ q.address → Rises end others
        → Rises end (cond b others (row_kept number r ∷ others))
    by_case true e level rest = rest
    by_case false e level rest =
        let next = kept_begins end (row_kept number q) (map (row_kept number) qs) in
        let other : q.address ≡ r.address → ⊥ = eqb-false q.address r.address e in
        let above : r.address < q.address = omega (arith, other) in
        (omega (arith, next, above), rest)

module _ (number : ℕ → ℕ) (u : UnitPart) (files : List (List ℕ)) (end : ℕ) where
  abbrev place : RowPart → ℕ → table.Stretch
  place r next = record { address = r.address; length = next - r.address; location = table.row_location u r }

  kept_stretches : (low : ℕ) (rs : List RowPart) → AreNumbered number u files → goes_back_from low rs ≡ false
      → list_any (is_past end) rs ≡ false → list_any (is_bad_row u) rs ≡ false
      → stretches_of files end (last_at_each_address (map (row_kept number) rs))
      ≡ map lookup_stretch (row_stretches u end rs)
  kept_stretches low [] named back past good = refl
  kept_stretches low (r ∷ []) named back past good =
      let below : r.address < end = leb-false end r.address (or_parts (is_past end r) false past).0 in
      ap (λ (l : Location). record { address = r.address; length = end - r.address; location = l } ∷ [])
      (row_place number u files r named (or_parts (is_bad_row u r) false good).0)
      ∙ sym (ap (λ b. map lookup_stretch (cond b (place r end ∷ []) [])) (lt-ltb r.address end below))
  kept_stretches low (r ∷ q ∷ qs) named back past good =
      let backs = or_parts (nat_lt r.address low) (goes_back_from r.address (q ∷ qs)) back in
      let pasts = or_parts (is_past end r) (list_any (is_past end) (q ∷ qs)) past in
      let goods = or_parts (is_bad_row u r) (list_any (is_bad_row u) (q ∷ qs)) good in
      let level : r.address ≤ q.address =
      ltb-false q.address r.address
      (or_parts (nat_lt q.address r.address) (goes_back_from q.address qs) backs.1).0 in
      by_case (q.address == r.address) refl level goods.0
      (kept_stretches r.address (q ∷ qs) named backs.1 pasts.1 goods.1)
    where
      others : List LineRow
      others = last_at_each_address (map (row_kept number) (q ∷ qs))

      later : List table.Stretch
      later = row_stretches u end (q ∷ qs)

      by_case : (b : Bool) → (q.address == r.address) ≡ b → r.address ≤ q.address → is_bad_row u r ≡ false
          → stretches_of files end others ≡ map lookup_stretch later
          → stretches_of files end (cond b others (row_kept number r ∷ others))
          ≡ map lookup_stretch (cond (nat_lt r.address q.address) (place r q.address ∷ later) later)
      by_case true e level fine rest =
          let same = eqb-true q.address r.address e in
          rest ∙ sym (ap (λ b. map lookup_stretch (cond b (place r q.address ∷ later) later))
          (le-ltb r.address q.address (omega (arith, same))))
      by_case false e level fine rest =
          let next = kept_begins end (row_kept number q) (map (row_kept number) qs) in
          let other : q.address ≡ r.address → ⊥ = eqb-false q.address r.address e in
          let above : r.address < q.address = omega (arith, other, level) in
          ap (λ (n : ℕ). record {
            address = r.address;
            length = n - r.address;
            location = row_location files (row_kept number r);
          } ∷ stretches_of files end others) next
          ∙ ap (λ (l : Location). record { address = r.address; length = q.address - r.address; location = l }
          ∷ stretches_of files end others) (row_place number u files r named fine)
          ∙ ap (λ l. lookup_stretch (place r q.address) ∷ l) rest
          ∙ sym (ap (λ b. map lookup_stretch (cond b (place r q.address ∷ later) later))
          (lt-ltb r.address q.address above))

-- ---- a sequence

-- rows that rise from its start to its end
pub record IsKept (s : Sequence) : Type 0 where
  pub starts : s.start ≡ next_address s.rows s.end
  pub rises : Rises s.end s.rows
  pub full : s.start < s.end

pub good_is_kept_here : (number : ℕ → ℕ) (s : SequencePart) → has_bad_rows s ≡ false
    → IsKept (agreeing_sequence number s)
good_is_kept_here number s h =
    let parts = or_parts ((length s.rows == 0) || goes_back s.rows) (list_any (is_past s.end) s.rows) h in
    let back = or_parts (length s.rows == 0) (goes_back s.rows) parts.0 in
    record {
      starts = starts s.rows back.0;
      rises = kept_rises number s.end 0 s.rows back.1 parts.1;
      full = begins s.rows back.0 parts.1;
    }
  where
    starts : (rs : List RowPart) → (length rs == 0) ≡ false
        → start_of rs ≡ next_address (last_at_each_address (map (row_kept number) rs)) s.end
    starts [] some = absurd cc
    starts (r ∷ rs) some = sym (kept_begins s.end (row_kept number r) (map (row_kept number) rs))

    begins : (rs : List RowPart) → (length rs == 0) ≡ false → list_any (is_past s.end) rs ≡ false → start_of rs < s.end
    begins [] some past = absurd cc
    begins (r ∷ rs) some past = leb-false s.end r.address
        (or_parts (is_past s.end r) (list_any (is_past s.end) rs) past).0

pub sequence_stretches : (number : ℕ → ℕ) (u : UnitPart) (files : List (List ℕ)) (s : SequencePart)
    → AreNumbered number u files → has_bad_rows s ≡ false → list_any (is_bad_row u) s.rows ≡ false
    → stretches_of files s.end (agreeing_sequence number s).rows ≡ map lookup_stretch (row_stretches u s.end s.rows)
sequence_stretches number u files s named h good =
    let parts = or_parts ((length s.rows == 0) || goes_back s.rows) (list_any (is_past s.end) s.rows) h in
    let back = or_parts (length s.rows == 0) (goes_back s.rows) parts.0 in
    kept_stretches number u files s.end 0 s.rows named back.1 parts.1 good
