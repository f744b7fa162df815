-- A sequence that holds an address has a row for it, and a sound table has the row's file.
use Rattle.std.proofs.Common.{◌≡◌, ℕ, ◌<◌, Bool, true, false, cond, ◌&&◌, ◌||◌, nat_lt, nat_le, List, [], ◌∷◌, length, filter, find, slice_get, Option, Some, None, IsSome, is_some, option_map, zero, suc, refl, sym, ap, ◌∙◌, arith}
use Rattle.std.specs.List.{list_any, last_or}
use Rattle.std.specs.Option.{option_and_then}
use Rattle.std.proofs.lemmas.Bool.{leb-false, and_parts, or_parts}
use Rattle.linemap_meaning.specs.TableParts.{FilePart, RowPart, SequencePart, Site, FunctionPart, UnitPart}
use Rattle.linemap_meaning.specs.FileText.{file_text}
use Rattle.linemap_meaning.specs.Conditions.{extent, span, has_bad_file_number, any_call, IsSound}
use Rattle.linemap_meaning.specs.Meaning.{Location, any_holds, sequence_at, last_row, row_at, row_location, place_in, unit_at, location_at}
use Rattle.linemap_meaning.specs.declared.rule.Rule.TheVariants.{FileNumber}
use Rattle.linemap_meaning.proofs.SoundUnits.{sound_rule}

-- what a search finds passes the test
pub found_passes : {X : Type 0} (p : X → Bool) (xs : List X) (x : X) → find p xs ≡ Some x → p x ≡ true
found_passes p [] x h = cc
found_passes p (y ∷ ys) x h =
    elim (p y) as (λ b. p y ≡ b → cond b (Some y) (find p ys) ≡ Some x → p x ≡ true) [
      | true ↦ λ e h. let same : y ≡ x = cc in ap p (sym same) ∙ e
      | false ↦ λ _ h. found_passes p ys x h
    ] refl h

-- what a search finds fails a test that each element fails
pub found_fails : {X : Type 0} (p bad : X → Bool) (xs : List X) (x : X) → list_any bad xs ≡ false → find p xs ≡ Some x
    → bad x ≡ false
found_fails p bad [] x none h = cc
found_fails p bad (y ∷ ys) x none h =
    let parts = or_parts (bad y) (list_any bad ys) none in
    elim (p y) as (λ b. cond b (Some y) (find p ys) ≡ Some x → bad x ≡ false) [
      | true ↦ λ h. let same : y ≡ x = cc in ap bad (sym same) ∙ parts.0
      | false ↦ λ h. found_fails p bad ys x parts.1 h
    ] h

-- the same of the last element that passes
last_fails : {X : Type 0} (p bad : X → Bool) (o : Option X) (xs : List X) (x : X)
    → ((y : X) → o ≡ Some y → bad y ≡ false) → list_any bad xs ≡ false → last_or o (filter p xs) ≡ Some x
    → bad x ≡ false
last_fails p bad o [] x before none h = before x h
last_fails p bad o (y ∷ ys) x before none h =
    let parts = or_parts (bad y) (list_any bad ys) none in
    elim (p y) as (λ b. last_or o (cond b (y ∷ filter p ys) (filter p ys)) ≡ Some x → bad x ≡ false) [
      | true ↦ λ h. last_fails p bad (Some y) ys x (λ z e. let same : y ≡ z = cc in ap bad (sym same) ∙ parts.0) parts.1
          h
      | false ↦ λ h. last_fails p bad o ys x before parts.1 h
    ] h

-- ---- a row is there

last_is_some : {X : Type 0} (x : X) (xs : List X) → IsSome (last_or (Some x) xs)
last_is_some x [] = refl
last_is_some x (y ∷ ys) = last_is_some y ys

without_false : (b : Bool) → (b || false) ≡ true → b ≡ true
without_false true h = refl
without_false false h = h

begins_below : (a : ℕ) (r : RowPart) (end : ℕ) (b : Bool)
    → any_holds a (cond b (record { begin = r.address; end = end } ∷ []) []) ≡ true → nat_le r.address a ≡ true
begins_below a r end true h =
    (and_parts (nat_le r.address a) (nat_lt a end) (without_false (nat_le r.address a && nat_lt a end) h)).0
begins_below a r end false h = cc

pub row_of_held : (a end : ℕ) (rows : List RowPart) → any_holds a (extent rows end) ≡ true → IsSome (last_row rows a)
row_of_held a end [] h = cc
row_of_held a end (r ∷ rs) h =
    let later = filter (λ (s : RowPart). nat_le s.address a) rs in
    ap (λ b. is_some (last_or None (cond b (r ∷ later) later))) (begins_below a r end (nat_lt r.address end) h)
    ∙ last_is_some r later

row_of_sequence : (u : UnitPart) (a : ℕ) (o : Option SequencePart) → sequence_at u a ≡ o → IsSome o
    → IsSome (option_and_then (λ s. last_row s.rows a) o)
row_of_sequence u a None e h = h
row_of_sequence u a (Some s) e h =
    row_of_held a s.end s.rows (found_passes (λ (s : SequencePart). any_holds a (span s)) u.sequences s e)

pub row_there : (u : UnitPart) (a : ℕ) → IsSome (sequence_at u a) → IsSome (row_at u a)
row_there u a h = row_of_sequence u a (sequence_at u a) refl h

-- ---- its file is there

slice_get_inside : {X : Type 0} (xs : List X) (i : ℕ) → i < length xs → slice_get xs i ≡ None → ⊥
slice_get_inside [] i lt e = absurd (omega arith)
slice_get_inside (x ∷ xs) zero lt e = cc
slice_get_inside (x ∷ xs) (suc i) lt e = slice_get_inside xs i (omega arith) e

-- the unit's row for an address fails a test that each of its rows fails
pub row_fails : (bad : RowPart → Bool) (u : UnitPart) (a : ℕ) (r : RowPart)
    → list_any (λ (s : SequencePart). list_any bad s.rows) u.sequences ≡ false → row_at u a ≡ Some r → bad r ≡ false
row_fails bad u a r none h =
    let at_sequence : (o : Option SequencePart) → sequence_at u a ≡ o
    → option_and_then (λ s. last_row s.rows a) o ≡ Some r → bad r ≡ false = λ o.
    elim o as (λ o. sequence_at u a ≡ o → option_and_then (λ s. last_row s.rows a) o ≡ Some r → bad r ≡ false) [
      | None ↦ λ _ h. cc
      | Some s ↦ λ e h. last_fails (λ (r : RowPart). nat_le r.address a) bad None s.rows r (λ y n. cc)
          (found_fails (λ (s : SequencePart). any_holds a (span s)) (λ (s : SequencePart). list_any bad s.rows)
          u.sequences s none e) h
    ] in
    at_sequence (sequence_at u a) refl h

file_of_number : (u : UnitPart) (n : ℕ) → nat_le (length u.files) n ≡ false
    → IsSome (option_map (file_text u) (slice_get u.files n))
file_of_number u n h =
    let at_file : (o : Option FilePart) → slice_get u.files n ≡ o → IsSome (option_map (file_text u) o) = λ o.
    elim o as (λ o. slice_get u.files n ≡ o → IsSome (option_map (file_text u) o)) [
      | None ↦ λ e. absurd (slice_get_inside u.files n (leb-false (length u.files) n h) e)
      | Some f ↦ λ _. refl
    ] in
    at_file (slice_get u.files n) refl

file_in_unit : (u : UnitPart) (a : ℕ) (l : Location) → has_bad_file_number u ≡ false → place_in u a ≡ Some l
    → IsSome l.file
file_in_unit u a l good h =
    let parts =
    or_parts (list_any (λ (s : SequencePart). list_any (λ (r : RowPart). nat_le (length u.files) r.file) s.rows)
    u.sequences)
    (list_any (λ (f : FunctionPart). any_call (λ (c : Site). nat_le (length u.files) c.file) f.calls) u.functions)
    good in
    let at_row : (q : Option RowPart) → row_at u a ≡ q → option_map (row_location u) q ≡ Some l → IsSome l.file = λ q.
    elim q as (λ q. row_at u a ≡ q → option_map (row_location u) q ≡ Some l → IsSome l.file) [
      | None ↦ λ _ h. cc
      | Some r ↦ λ e h.
          let same : row_location u r ≡ l = cc in
          ap (λ (l : Location). is_some l.file) (sym same)
          ∙ file_of_number u r.file (row_fails (λ (r : RowPart). nat_le (length u.files) r.file) u a r parts.0 e)
    ] in
    at_row (row_at u a) refl h

pub file_there : (us : List UnitPart) (a : ℕ) (l : Location) → IsSound us → location_at us a ≡ Some l → IsSome l.file
file_there us a l sound h =
    let at_unit : (o : Option UnitPart) → unit_at us a ≡ o → option_and_then (λ u. place_in u a) o ≡ Some l
    → IsSome l.file = λ o.
    elim o as (λ o. unit_at us a ≡ o → option_and_then (λ u. place_in u a) o ≡ Some l → IsSome l.file) [
      | None ↦ λ _ h. cc
      | Some u ↦ λ e h.
          file_in_unit u a l
          (found_fails (λ (u : UnitPart). any_holds a u.ranges) has_bad_file_number us u
          (sound_rule us FileNumber sound) e) h
    ] in
    at_unit (unit_at us a) refl h
