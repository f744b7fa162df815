-- The rows between two ends that are left, from a row of a sequence on, and how many looks at
-- entries a walk over them takes.
use Rattle.std.specs.Prelude.{◌≡◌, ℕ, ◌+◌, ◌≤◌, ◌++◌, List, length, drop, filter, flat_map, sum_by, slice_get, Option, Some, None}
use Rattle.addr2line_spec.specs.Orders.{in_order}
use Rattle.addr2line_spec.specs.Lines.{Lines, Sequence, Stretch, sequence_between, reaches, starts_after}
use Rattle.addr2line_search.specs.ProbedLists.{ProbeCount}
use Rattle.addr2line_search.specs.Searches.{digit_count, AtMostProbes}
use Rattle.addr2line_index.specs.Stretches.{sequence_from}
use Rattle.addr2line_index.specs.declared.row_place.RowPlace.{RowPlace}
use Rattle.addr2line_index.specs.declared.line_cursor.LineCursor.{LineCursor}
use Rattle.addr2line_index.specs.declared.stretches.RowStretch.{RowStretch}

-- the sequences by their starts and ends
abbrev pub sequences_by_start : Lines → List Sequence
sequences_by_start l = in_order starts_after l.sequences

-- the stretches between two ends of those of sequences that reach between them
abbrev pub stretches_among : List (List ℕ) → ℕ → ℕ → List Sequence → List Stretch
stretches_among files low high ss =
    flat_map (sequence_between files low high) (filter (reaches low high) ss)

-- of the sequence of a place those from its row on
abbrev pub stretches_at : Lines → ℕ → RowPlace → List Stretch
stretches_at l high p =
    sequence_from l.files high p.row (slice_get (sequences_by_start l) p.sequence)

-- of the sequences by their starts those from an index on
abbrev pub stretches_by_start : Lines → ℕ → ℕ → ℕ → List Stretch
stretches_by_start l low high index =
    stretches_among l.files low high (drop index (sequences_by_start l))

-- the stretches between two ends that are left at a cursor
abbrev pub lines_left : Lines → ℕ → ℕ → LineCursor → List Stretch
lines_left l low high c = stretches_at l high c.place ++ stretches_by_start l low high c.next

-- ---- looks at entries

-- for each of some sequences a search among its rows, and five looks besides
abbrev pub walk_probes : List Sequence → ℕ
walk_probes ss = sum_by (λ s. digit_count (length s.rows) + 5) ss

-- at the sequences by their starts from an index on
abbrev pub probes_from : Lines → ℕ → ℕ
probes_from l index = walk_probes (drop index (sequences_by_start l))

-- Coming to the first row of a sequence from an index on takes the looks at the sequences up to it,
-- of which three are left for the row.
abbrev pub ComesTo : Lines → ℕ → Option LineCursor → ProbeCount → ProbeCount → Type 0
ComesTo l from None old new = AtMostProbes (probes_from l from) old new
ComesTo l from (Some c) old new =
    (new.name ≡ old.name) × (new.count + probes_from l c.next + 3 ≤ old.count + probes_from l from)

-- A step of a walk takes three looks at a row and those at the sequences that it passes.
abbrev pub StepsTo : Lines → LineCursor → Option (RowStretch × LineCursor) → ProbeCount
    → ProbeCount
    → Type 0
StepsTo l c None old new = AtMostProbes (probes_from l c.next + 3) old new
StepsTo l c (Some f) old new =
    (new.name ≡ old.name)
    × (new.count + probes_from l f.1.next ≤ old.count + probes_from l c.next + 3)
