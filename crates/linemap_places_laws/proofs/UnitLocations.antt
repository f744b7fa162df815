-- The place of an address in a unit is the table's.
use Rattle.std.proofs.Common.{◌≡◌, ℕ, ◌<◌, ◌-◌, ◌%◌, ◌^◌, ◌≢◌, Bool, true, false, cond, ◌&&◌, ◌||◌, nat_lt, nat_le, List, [], ◌∷◌, ◌++◌, length, map, flat_map, filter, find, Option, Some, None, option_map, option_and_then, slice_get, refl, sym, ap, subst, ◌∙◌, inl, inr, arith}
use Rattle.std.specs.List.{last_or, list_any, list_all}
use Rattle.std.proofs.Math.Nat.{mod-eq_of_lt}
use Rattle.std.proofs.Math.Bool.{or-false}
use Rattle.std.proofs.lemmas.Bool.{leb-false, ltb-false, lt-ltb, le-leb, and_from, or_parts, or_from, or_left, or_right, le-ltb, cases_lt, ne_eqb}
use Rattle.addr2line_spec.specs.Choice.{holds, holder}
use Rattle.addr2line_spec.specs.Lines.{Location, row_of, row_location, range_of, place_in, with_line, sequences_of_rows, ProgramRow}
use Rattle.addr2line_spec.specs.LookupLaws.{are_apart, is_apart}
use Rattle.addr2line_spec.proofs.SeparateRanges.{holds_once}
use Rattle.linemap_meaning.specs.TableParts.{RangePart, RowPart, SequencePart, UnitPart}
use Rattle.linemap_meaning.specs.FileText.{file_text}
use Rattle.linemap_meaning.specs.Conditions.{goes_back_from, overlap, any_overlap, extent, span, spans, is_bad_number}
use Rattle.linemap_meaning.specs.Meaning.{any_holds, last_row}
use Rattle.linemap_meaning.specs.Meaning as table
use Rattle.linemap_places_laws.specs.LookupAgreement.{AreNumbered, RowsAgree, lookup_location}
use Rattle.linemap_places_laws.proofs.AgreeingSequences.{row_kept, start_of, agreeing_sequence, IsGood, AllGood, kept_of, good_are_kept}
use Rattle.linemap_places_laws.proofs.RowsBelow.{row_agrees}

-- ---- rows

-- a row without a file, a line or a column that counts
abbrev pub is_bad_row : UnitPart → RowPart → Bool
is_bad_row u r = nat_le (length u.files) r.file || (is_bad_number r.line || is_bad_number r.column)

small_number : (n : ℕ) → is_bad_number n ≡ false → (n % 2 ^ 32 ≡ n) × (n ≢ 0)
small_number n h =
    let parts = or_parts (nat_lt n 1) (nat_lt (2 ^ 32 - 1) n) h in
    let low = ltb-false n 1 parts.0 in
    let high = ltb-false (2 ^ 32 - 1) n parts.1 in
    (mod-eq_of_lt (omega arith), omega arith)

pub row_place : (number : ℕ → ℕ) (u : UnitPart) (files : List (List ℕ)) (r : RowPart) → AreNumbered number u files
    → is_bad_row u r ≡ false → row_location files (row_kept number r) ≡ lookup_location (table.row_location u r)
row_place number u files r named good =
    let parts = or_parts (nat_le (length u.files) r.file) (is_bad_number r.line || is_bad_number r.column) good in
    let there : r.file < length u.files = leb-false (length u.files) r.file parts.0 in
    let numbers = or_parts (is_bad_number r.line) (is_bad_number r.column) parts.1 in
    let line = small_number r.line numbers.0 in
    let column = small_number r.column numbers.1 in
    let place : Option (List ℕ) → ℕ → ℕ → Location =
    λ f l c. record {
      file = f;
      line = with_line l l;
      column = with_line l c;
      statement = Some r.statement;
      discriminator = Some r.discriminator;
    } in
    ap (λ f. place f (r.line % 2 ^ 32) (r.column % 2 ^ 32)) (named r.file there)
    ∙ ap (λ l. place (option_map (file_text u) (slice_get u.files r.file)) l (r.column % 2 ^ 32)) line.0
    ∙ ap (λ c. place (option_map (file_text u) (slice_get u.files r.file)) r.line c) column.0
    ∙ ap (λ b. record {
      file = option_map (file_text u) (slice_get u.files r.file);
      line = cond b None (Some r.line);
      column = cond b None (Some r.column);
      statement = Some r.statement;
      discriminator = Some r.discriminator;
    }) (ne_eqb r.line 0 line.1)

-- what no row passes the last of some doesn't
last_passes : (p q : RowPart → Bool) (o : Option RowPart) (rs : List RowPart) (r : RowPart) → list_any p rs ≡ false
    → (o ≡ Some r → p r ≡ false) → last_or o (filter q rs) ≡ Some r → p r ≡ false
last_passes p q o [] r none first is = first is
last_passes p q o (x ∷ rs) r none first is =
    let parts = or_parts (p x) (list_any p rs) none in
    by_case (q x) (λ is. last_passes p q (Some x) rs r parts.1 (λ e. let same : x ≡ r = cc in ap p (sym same) ∙ parts.0)
    is) (λ is. last_passes p q o rs r parts.1 first is) is
  where
    by_case : (b : Bool) → (last_or (Some x) (filter q rs) ≡ Some r → p r ≡ false)
        → (last_or o (filter q rs) ≡ Some r → p r ≡ false) → last_or o (cond b (x ∷ filter q rs) (filter q rs)) ≡ Some r
        → p r ≡ false
    by_case true here there is = here is
    by_case false here there is = there is

last_place : (number : ℕ → ℕ) (u : UnitPart) (files : List (List ℕ)) (o : Option RowPart) → AreNumbered number u files
    → ((r : RowPart) → o ≡ Some r → is_bad_row u r ≡ false)
    → option_map (row_location files) (option_map (row_kept number) o)
    ≡ option_map lookup_location (option_map (table.row_location u) o)
last_place number u files None named good = refl
last_place number u files (Some r) named good = ap (λ l. Some l) (row_place number u files r named (good r refl))

-- ---- one sequence

ascends : (s : SequencePart) → IsGood s → goes_back_from 0 s.rows ≡ false
ascends s good =
    subst (λ (rows : List RowPart). goes_back_from 0 rows ≡ false) (sym good.rows)
    (or_from (nat_lt good.first.address 0) (goes_back_from good.first.address good.others)
    (le-ltb good.first.address 0 (omega arith)) good.ascend)

-- a good sequence whose rows are good
abbrev rows_bad : UnitPart → SequencePart → Bool
rows_bad u s = list_any (is_bad_row u) s.rows

sequence_place : (number : ℕ → ℕ) (u : UnitPart) (files : List (List ℕ)) (a : ℕ) (s : SequencePart)
    → AreNumbered number u files → IsGood s → rows_bad u s ≡ false
    → option_map (row_location files) (row_of (agreeing_sequence number s).rows a)
    ≡ option_map lookup_location (option_map (table.row_location u) (last_row s.rows a))
sequence_place number u files a s named good rows =
    ap (option_map (row_location files)) (row_agrees number a s.rows (ascends s good))
    ∙ last_place number u files (last_row s.rows a) named
    (λ r is. last_passes (is_bad_row u) (λ x. nat_le x.address a) None s.rows r rows (λ e. absurd cc) is)

-- ---- the sequence of an address

-- the address is among a good sequence's
holds_same : (number : ℕ → ℕ) (a : ℕ) (s : SequencePart) → IsGood s
    → holds a (range_of (agreeing_sequence number s)) ≡ any_holds a (span s)
holds_same number a s good =
    subst (λ (rows : List RowPart). holds a (record { begin = start_of rows; end = s.end })
    ≡ any_holds a (extent rows s.end)) (sym good.rows)
    (sym (ap (λ b. any_holds a (cond b (record { begin = good.first.address; end = s.end } ∷ []) []))
    (lt-ltb good.first.address s.end good.begins)
    ∙ or-false (table.holds a (record { begin = good.first.address; end = s.end }))))

unfoldable pub AllRowsGood : UnitPart → List SequencePart → Type 0
AllRowsGood u [] = Unit {0}
AllRowsGood u (s ∷ ss) = (rows_bad u s ≡ false) × AllRowsGood u ss

-- the place by the first sequence that holds the address
place_of_first : (number : ℕ → ℕ) (u : UnitPart) (files : List (List ℕ)) (a : ℕ) (ss : List SequencePart)
    → AreNumbered number u files → AllGood ss → AllRowsGood u ss
    → option_map (row_location files)
    (option_and_then (λ s. row_of s.rows a) (find (λ s. holds a (range_of s)) (map (agreeing_sequence number) ss)))
    ≡ option_map lookup_location
    (option_map (table.row_location u) (option_and_then (λ s. last_row s.rows a) (find (λ s. any_holds a (span s)) ss)))
unfolding AllGood AllRowsGood
place_of_first number u files a [] named good rows = refl
place_of_first number u files a (s ∷ ss) named good rows =
    ap (λ b. option_map (row_location files)
    (option_and_then (λ t. row_of t.rows a)
    (cond b (Some (agreeing_sequence number s))
    (find (λ t. holds a (range_of t)) (map (agreeing_sequence number) ss))))) (holds_same number a s good.0)
    ∙ by_case (any_holds a (span s)) (place_of_first number u files a ss named good.1 rows.1)
  where
    by_case : (b : Bool) → option_map (row_location files)
        (option_and_then (λ t. row_of t.rows a) (find (λ t. holds a (range_of t)) (map (agreeing_sequence number) ss)))
        ≡ option_map lookup_location
        (option_map (table.row_location u)
        (option_and_then (λ t. last_row t.rows a) (find (λ t. any_holds a (span t)) ss)))
        → option_map (row_location files)
        (option_and_then (λ t. row_of t.rows a)
        (cond b (Some (agreeing_sequence number s))
        (find (λ t. holds a (range_of t)) (map (agreeing_sequence number) ss))))
        ≡ option_map lookup_location
        (option_map (table.row_location u)
        (option_and_then (λ t. last_row t.rows a) (cond b (Some s) (find (λ t. any_holds a (span t)) ss))))
    by_case true rest = sequence_place number u files a s named good.0 rows.0
    by_case false rest = rest

-- ---- sequences that share no address

-- ranges that don't overlap are apart
apart_of : (p q : RangePart) → overlap p q ≡ false
    → is_apart (record { begin = p.begin; end = p.end }) (record { begin = q.begin; end = q.end }) ≡ true
apart_of p q none =
    elim (cases_lt q.begin p.end) [
      | inl within ↦
          let low : nat_lt p.begin q.end ≡ false =
          and_left_false (nat_lt p.begin q.end) (nat_lt q.begin p.end) none (lt-ltb q.begin p.end within) in
          or_right (nat_le p.end q.begin) (nat_le q.end p.begin) (le-leb q.end p.begin (ltb-false p.begin q.end low))
      | inr after ↦ or_left (nat_le p.end q.begin) (nat_le q.end p.begin) (le-leb p.end q.begin after)
    ]
  where
    and_left_false : (b c : Bool) → (b && c) ≡ false → c ≡ true → b ≡ false
    and_left_false true c h k = absurd cc
    and_left_false false c h k = refl

-- the addresses of a good sequence
abbrev extent_agrees : SequencePart → RangePart
extent_agrees s = record { begin = start_of s.rows; end = s.end }

span_is : (s : SequencePart) → IsGood s → span s ≡ (extent_agrees s ∷ [])
span_is s good =
    subst (λ (rows : List RowPart). extent rows s.end ≡ (record { begin = start_of rows; end = s.end } ∷ []))
    (sym good.rows)
    (ap (λ b. cond b (record { begin = good.first.address; end = s.end } ∷ []) [])
    (lt-ltb good.first.address s.end good.begins))

begins_before : (s : SequencePart) → IsGood s → start_of s.rows < s.end
begins_before s good = subst (λ (rows : List RowPart). start_of rows < s.end) (sym good.rows) good.begins

spans_are : (ss : List SequencePart) → AllGood ss → flat_map span ss ≡ map extent_agrees ss
unfolding AllGood
spans_are [] good = refl
spans_are (s ∷ ss) good =
    ap (λ l. l ++ flat_map span ss) (span_is s good.0) ∙ ap (λ l. extent_agrees s ∷ l) (spans_are ss good.1)

all_apart : (number : ℕ → ℕ) (r : RangePart) (ss : List SequencePart) → list_any (overlap r) (map extent_agrees ss)
    ≡ false → list_all (is_apart (record { begin = r.begin; end = r.end }))
    (map range_of (map (agreeing_sequence number) ss)) ≡ true
all_apart number r [] h = refl
all_apart number r (s ∷ ss) h =
    let parts = or_parts (overlap r (extent_agrees s)) (list_any (overlap r) (map extent_agrees ss)) h in
    and_from _ _ (apart_of r (extent_agrees s) parts.0) (all_apart number r ss parts.1)

spans_apart : (number : ℕ → ℕ) (ss : List SequencePart) → AllGood ss → any_overlap (map extent_agrees ss) ≡ false
    → are_apart (map range_of (map (agreeing_sequence number) ss)) ≡ true
unfolding AllGood
spans_apart number [] good h = refl
spans_apart number (s ∷ ss) good h =
    let parts =
    or_parts (list_any (overlap (extent_agrees s)) (map extent_agrees ss)) (any_overlap (map extent_agrees ss)) h in
    and_from _ _ (and_from _ _ (lt-ltb (start_of s.rows) s.end (begins_before s good.0))
    (all_apart number (extent_agrees s) ss parts.0)) (spans_apart number ss good.1 parts.1)

-- ---- the unit

pub location_agrees : (number : ℕ → ℕ) (u : UnitPart) (files : List (List ℕ)) (rows : List ProgramRow) (a : ℕ)
    → RowsAgree number u.sequences rows → AreNumbered number u files → AllGood u.sequences → AllRowsGood u u.sequences
    → any_overlap (spans u) ≡ false
    → place_in (record { sequences = sequences_of_rows rows; files = files }) a
    ≡ option_map lookup_location (table.place_in u a)
location_agrees number u files rows a agrees named good rows_good apart =
    ap (λ ss. option_map (row_location files) (option_and_then (λ s. row_of s.rows a) (holder range_of a ss)))
    (kept_of number u.sequences rows agrees ∙ good_are_kept number u.sequences good)
    ∙ ap (λ o. option_map (row_location files) (option_and_then (λ s. row_of s.rows a) o))
    (holds_once range_of a (map (agreeing_sequence number) u.sequences)
    (spans_apart number u.sequences good (ap any_overlap (sym (spans_are u.sequences good)) ∙ apart)))
    ∙ place_of_first number u files a u.sequences named good rows_good

-- rows with files, lines and columns that count
pub no_bad_row : (u : UnitPart) (rs : List RowPart)
    → list_any (λ r. is_bad_number r.line || is_bad_number r.column) rs ≡ false
    → list_any (λ r. nat_le (length u.files) r.file) rs ≡ false → list_any (is_bad_row u) rs ≡ false
no_bad_row u [] h k = refl
no_bad_row u (r ∷ rs) h k =
    let p =
    or_parts (is_bad_number r.line || is_bad_number r.column)
    (list_any (λ r. is_bad_number r.line || is_bad_number r.column) rs) h in
    let q = or_parts (nat_le (length u.files) r.file) (list_any (λ r. nat_le (length u.files) r.file) rs) k in
    or_from _ _ (or_from _ _ q.0 p.0) (no_bad_row u rs p.1 q.1)

pub all_rows_good : (u : UnitPart) (ss : List SequencePart)
    → list_any (λ s. list_any (λ r. is_bad_number r.line || is_bad_number r.column) s.rows) ss ≡ false
    → list_any (λ s. list_any (λ r. nat_le (length u.files) r.file) s.rows) ss ≡ false → AllRowsGood u ss
unfolding AllRowsGood
all_rows_good u [] numbers files = tt
all_rows_good u (s ∷ ss) numbers files =
    let p =
    or_parts (list_any (λ r. is_bad_number r.line || is_bad_number r.column) s.rows)
    (list_any (λ s. list_any (λ r. is_bad_number r.line || is_bad_number r.column) s.rows) ss) numbers in
    let q =
    or_parts (list_any (λ r. nat_le (length u.files) r.file) s.rows)
    (list_any (λ s. list_any (λ r. nat_le (length u.files) r.file) s.rows) ss) files in
    (no_bad_row u s.rows p.0 q.0, all_rows_good u ss p.1 q.1)
