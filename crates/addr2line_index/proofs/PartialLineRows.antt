-- What is made of rows, one more after them.
use Rattle.std.proofs.Common.{◌≡◌, Bool, true, false, cond, ◌==◌, ◌||◌, ◌-◌, length, slice_get, slice_set, List, [], ◌∷◌, ◌++◌, Option, Some, None, refl, sym, ap, ◌∙◌, arith}
use Rattle.std.specs.List.{filter_map, list_any}
use Rattle.std.proofs.lemmas.List.Elements.{filter_map-append}
use Rattle.addr2line_spec.specs.Lines.{ProgramRow, LineRow, Sequence, EndedRows, line_row, add_row, split_at_ends, last_at_each_address, sequence_of, sequences_of_rows}
use Rattle.addr2line_index.specs.PartialLines.{PartialLines, rows_left, partial_lines, put_row, is_at, as_list, with_end, with_row}

-- ---- of rows side by side at one address the last

put_row-cons : (x y : LineRow) (ys : List LineRow) (r : LineRow)
    → put_row r (x ∷ last_at_each_address (y ∷ ys)) ≡ x ∷ put_row r (last_at_each_address (y ∷ ys))
put_row-cons x y [] r = refl
put_row-cons x y (z ∷ zs) r =
    elim (z.address == y.address) as (λ b.
    put_row r (x ∷ cond b (last_at_each_address (z ∷ zs)) (y ∷ last_at_each_address (z ∷ zs)))
    ≡ x ∷ put_row r (cond b (last_at_each_address (z ∷ zs)) (y ∷ last_at_each_address (z ∷ zs)))) [
      | true ↦ put_row-cons x z zs r
      | false ↦ refl
    ]

pub last_at_each-append : (xs : List LineRow) (r : LineRow)
    → last_at_each_address (xs ++ r ∷ []) ≡ put_row r (last_at_each_address xs)
last_at_each-append [] r = refl
last_at_each-append (x ∷ []) r = refl
last_at_each-append (x ∷ y ∷ ys) r =
    let more = last_at_each_address ((y ∷ ys) ++ r ∷ []) in
    let rest = last_at_each_address (y ∷ ys) in
    elim (y.address == x.address) as (λ b. cond b more (x ∷ more) ≡ put_row r (cond b rest (x ∷ rest))) [
      | true ↦ last_at_each-append (y ∷ ys) r
      | false ↦ ap (λ l. x ∷ l) (last_at_each-append (y ∷ ys) r) ∙ sym (put_row-cons x y ys r)
    ]

-- ---- a row put at the end of a list

set_last : (r x : LineRow) (xs : List LineRow) → is_at r.address (slice_get (x ∷ xs) (length xs)) ≡ true
    → slice_set (x ∷ xs) (length xs) r ≡ put_row r (x ∷ xs)
set_last r x [] h = sym (ap (λ b. cond b (r ∷ []) (x ∷ r ∷ [])) h)
set_last r x (y ∷ ys) h = ap (λ l. x ∷ l) (set_last r y ys h)

put_last : (r x : LineRow) (xs : List LineRow) → is_at r.address (slice_get (x ∷ xs) (length xs)) ≡ false
    → (x ∷ xs) ++ r ∷ [] ≡ put_row r (x ∷ xs)
put_last r x [] h = sym (ap (λ b. cond b (r ∷ []) (x ∷ r ∷ [])) h)
put_last r x (y ∷ ys) h = ap (λ l. x ∷ l) (put_last r y ys h)

last_index : (x : LineRow) (xs : List LineRow) → length (x ∷ xs) - 1 ≡ length xs
last_index x xs = omega arith

pub put_row_same : (rows : List LineRow) (r : LineRow) → is_at r.address (slice_get rows (length rows - 1)) ≡ true
    → slice_set rows (length rows - 1) r ≡ put_row r rows
put_row_same [] r h = absurd (let e : false ≡ true = h in cc)
put_row_same (x ∷ xs) r h =
    ap (λ n. slice_set (x ∷ xs) n r) (last_index x xs)
    ∙ set_last r x xs (sym (ap (λ n. is_at r.address (slice_get (x ∷ xs) n)) (last_index x xs)) ∙ h)

pub put_row_other : (rows : List LineRow) (r : LineRow) → is_at r.address (slice_get rows (length rows - 1)) ≡ false
    → rows ++ r ∷ [] ≡ put_row r rows
put_row_other [] r h = refl
put_row_other (x ∷ xs) r h =
    put_last r x xs (sym (ap (λ n. is_at r.address (slice_get (x ∷ xs) n)) (last_index x xs)) ∙ h)

-- ---- rows cut after those that end

abbrev has_end : List ProgramRow → Bool
has_end rows = list_any (λ s. s.ends) rows

-- rows of which none ends
split-open : (xs : List ProgramRow) → has_end xs ≡ false → split_at_ends xs ≡ []
split-open [] h = refl
split-open (x ∷ xs) h =
    elim x.ends as (λ b. (b || has_end xs) ≡ false
    → cond b (record { rows = []; end = x.address } ∷ split_at_ends xs) (add_row (line_row x) (split_at_ends xs))
    ≡ []) [
      | true ↦ λ h. cc
      | false ↦ λ h. ap (add_row (line_row x)) (split-open xs h)
    ] h

-- rows of which one ends
split-ended : (xs : List ProgramRow) → has_end xs ≡ true
    → (s : EndedRows) × (ss : List EndedRows) × (split_at_ends xs ≡ s ∷ ss)
split-ended [] h = absurd (let e : false ≡ true = h in cc)
split-ended (x ∷ xs) h =
    elim x.ends as (λ b. (b || has_end xs) ≡ true
    → (s : EndedRows) × (ss : List EndedRows)
    × (cond b (record { rows = []; end = x.address } ∷ split_at_ends xs) (add_row (line_row x) (split_at_ends xs))
    ≡ s ∷ ss)) [
      | true ↦ λ _. (record { rows = []; end = x.address }, split_at_ends xs, refl)
      | false ↦ λ h.
          let found = split-ended xs h in
          (record { rows = line_row x ∷ found.0.rows; end = found.0.end }, found.1, ap (add_row (line_row x)) found.2)
    ] h

add_row-append : (r : LineRow) (xs : List ProgramRow) (ts : List EndedRows) → has_end xs ≡ true
    → add_row r (split_at_ends xs ++ ts) ≡ add_row r (split_at_ends xs) ++ ts
add_row-append r xs ts h =
    let found = split-ended xs h in
    ap (λ l. add_row r (l ++ ts)) found.2 ∙ sym (ap (λ l. add_row r l ++ ts) found.2)

-- rows, and one that ends
split-append_end : (xs : List ProgramRow) (r : ProgramRow) → r.ends ≡ true
    → split_at_ends (xs ++ r ∷ []) ≡ split_at_ends xs ++ record { rows = rows_left xs; end = r.address } ∷ []
split-append_end [] r h = ap (λ b. cond b (record { rows = []; end = r.address } ∷ []) (add_row (line_row r) [])) h
split-append_end (x ∷ xs) r h =
    let last : List LineRow → List EndedRows = λ l. record { rows = l; end = r.address } ∷ [] in
    let more = split-append_end xs r h in
    elim x.ends as (λ b.
    cond b (record { rows = []; end = x.address } ∷ split_at_ends (xs ++ r ∷ []))
    (add_row (line_row x) (split_at_ends (xs ++ r ∷ [])))
    ≡ cond b (record { rows = []; end = x.address } ∷ split_at_ends xs) (add_row (line_row x) (split_at_ends xs))
    ++ last (cond (b || has_end xs) (rows_left xs) (line_row x ∷ rows_left xs))) [
      | true ↦ ap (λ l. record { rows = []; end = x.address } ∷ l) more
      | false ↦
          ap (add_row (line_row x)) more
          ∙ elim (has_end xs) as (λ b. has_end xs ≡ b
          → add_row (line_row x) (split_at_ends xs ++ last (rows_left xs))
          ≡ add_row (line_row x) (split_at_ends xs) ++ last (cond b (rows_left xs) (line_row x ∷ rows_left xs))) [
            | true ↦ λ e. add_row-append (line_row x) xs (last (rows_left xs)) e
            | false ↦ λ e.
                let none = split-open xs e in
                ap (λ l. add_row (line_row x) (l ++ last (rows_left xs))) none
                ∙ sym (ap (λ l. add_row (line_row x) l ++ last (line_row x ∷ rows_left xs)) none)
          ] refl
    ]

-- rows, and one that doesn't end
split-append_row : (xs : List ProgramRow) (r : ProgramRow) → r.ends ≡ false
    → split_at_ends (xs ++ r ∷ []) ≡ split_at_ends xs
split-append_row [] r h = ap (λ b. cond b (record { rows = []; end = r.address } ∷ []) (add_row (line_row r) [])) h
split-append_row (x ∷ xs) r h =
    ap (λ l. cond x.ends (record { rows = []; end = x.address } ∷ l) (add_row (line_row x) l)) (split-append_row xs r h)

-- ---- the rows that are left

has_end-append : (xs : List ProgramRow) (r : ProgramRow) → has_end (xs ++ r ∷ []) ≡ (has_end xs || r.ends)
has_end-append [] r = elim r.ends as (λ b. (b || false) ≡ b) [ true ↦ refl | false ↦ refl ]
has_end-append (x ∷ xs) r =
    elim x.ends as (λ b. (b || has_end (xs ++ r ∷ [])) ≡ ((b || has_end xs) || r.ends))
    [ true ↦ refl | false ↦ has_end-append xs r ]

rows_left-append_end : (xs : List ProgramRow) (r : ProgramRow) → r.ends ≡ true → rows_left (xs ++ r ∷ []) ≡ []
rows_left-append_end [] r h = ap (λ b. cond (b || false) [] (line_row r ∷ [])) h
rows_left-append_end (x ∷ xs) r h =
    let or_true : (b c : Bool) → (b || (c || true)) ≡ true =
    λ b c. elim b as (λ b. (b || (c || true)) ≡ true)
    [ true ↦ refl | false ↦ elim c as (λ c. (c || true) ≡ true) [ true ↦ refl | false ↦ refl ] ] in
    let any : (x.ends || has_end (xs ++ r ∷ [])) ≡ true =
    ap (λ b. x.ends || b) (has_end-append xs r ∙ ap (λ b. has_end xs || b) h) ∙ or_true x.ends (has_end xs) in
    ap (λ b. cond b (rows_left (xs ++ r ∷ [])) (line_row x ∷ rows_left (xs ++ r ∷ []))) any
    ∙ rows_left-append_end xs r h

rows_left-append_row : (xs : List ProgramRow) (r : ProgramRow) → r.ends ≡ false
    → rows_left (xs ++ r ∷ []) ≡ rows_left xs ++ line_row r ∷ []
rows_left-append_row [] r h = ap (λ b. cond (b || false) [] (line_row r ∷ [])) h
rows_left-append_row (x ∷ xs) r h =
    let or_false : (b : Bool) → (b || false) ≡ b =
    λ b. elim b as (λ b. (b || false) ≡ b) [ true ↦ refl | false ↦ refl ] in
    let same : has_end (xs ++ r ∷ []) ≡ has_end xs =
    has_end-append xs r ∙ ap (λ b. has_end xs || b) h ∙ or_false (has_end xs) in
    ap (λ b. cond (x.ends || b) (rows_left (xs ++ r ∷ [])) (line_row x ∷ rows_left (xs ++ r ∷ []))) same
    ∙ elim (x.ends || has_end xs) as (λ b. cond b (rows_left (xs ++ r ∷ [])) (line_row x ∷ rows_left (xs ++ r ∷ []))
    ≡ cond b (rows_left xs) (line_row x ∷ rows_left xs) ++ line_row r ∷ []) [
      | true ↦ rows_left-append_row xs r h
      | false ↦ ap (λ l. line_row x ∷ l) (rows_left-append_row xs r h)
    ]

-- ---- sequences

abbrev ended_sequence : EndedRows → Option Sequence
ended_sequence s = sequence_of (last_at_each_address s.rows) s.end

ended_sequence-append : (ss : List EndedRows) (s : EndedRows)
    → filter_map ended_sequence (ss ++ s ∷ []) ≡ filter_map ended_sequence ss ++ as_list (ended_sequence s)
ended_sequence-append ss s =
    filter_map-append ended_sequence ss (s ∷ [])
    ∙ ap (λ l. filter_map ended_sequence ss ++ l)
    (elim (ended_sequence s) as (λ o. filter_map (λ _. o) (s ∷ []) ≡ as_list o) [ None ↦ refl | Some t ↦ refl ])

pub partial_lines-end : (b new : PartialLines) (rows : List ProgramRow) (r : ProgramRow) → r.ends ≡ true
    → new ≡ with_end r.address b → b ≡ partial_lines rows → new ≡ partial_lines (rows ++ r ∷ [])
partial_lines-end b new rows r h made of =
    let sequences : sequences_of_rows rows ++ as_list (sequence_of (last_at_each_address (rows_left rows)) r.address)
    ≡ sequences_of_rows (rows ++ r ∷ []) =
    sym (ap (filter_map ended_sequence) (split-append_end rows r h)
    ∙ ended_sequence-append (split_at_ends rows) (record { rows = rows_left rows; end = r.address })) in
    made
    ∙ ap (with_end r.address) of
    ∙ ap (λ l. record { sequences = l; rows = [] }) sequences
    ∙ ap (λ l. record { sequences = sequences_of_rows (rows ++ r ∷ []); rows = last_at_each_address l })
    (sym (rows_left-append_end rows r h))

pub partial_lines-row : (b new : PartialLines) (rows : List ProgramRow) (r : ProgramRow) → r.ends ≡ false
    → new ≡ with_row (line_row r) b → b ≡ partial_lines rows → new ≡ partial_lines (rows ++ r ∷ [])
partial_lines-row b new rows r h made of =
    made
    ∙ ap (with_row (line_row r)) of
    ∙ ap (λ l. record {
      sequences = filter_map ended_sequence l;
      rows = put_row (line_row r) (last_at_each_address (rows_left rows));
    }) (sym (split-append_row rows r h))
    ∙ ap (λ l. record { sequences = sequences_of_rows (rows ++ r ∷ []); rows = l })
    (sym (ap last_at_each_address (rows_left-append_row rows r h)
    ∙ last_at_each-append (rows_left rows) (line_row r)))
