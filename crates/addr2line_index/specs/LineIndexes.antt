-- The lines of a unit as lookups search them, and how many looks at entries that takes.
use Rattle.std.specs.Prelude.{◌≡◌, ℕ, ◌+◌, List, length, map, Option, Some, None, Result, Ok, Err}
use Rattle.std.specs.List.{AllByRecursion}
use Rattle.addr2line_spec.specs.Error.{Error}
use Rattle.addr2line_spec.specs.Range.{Range}
use Rattle.addr2line_spec.specs.Choice.{holder}
use Rattle.addr2line_spec.specs.Lines.{Lines, Sequence, range_of}
use Rattle.addr2line_search.specs.ProbedLists.{ProbedList}
use Rattle.addr2line_search.specs.Searches.{digit_count}
use Rattle.addr2line_index.specs.SequenceOrders.{by_start}
use Rattle.addr2line_index.specs.declared.sequence_order.OrderedSequence.{OrderedSequence}

-- a sequence, and the name of the counter of looks at its rows
pub record CountedSequence : Type 0 where
  pub sequence : Sequence
  pub counter : ℕ

-- lines, and the name of the counter of looks at their sequences and rows
pub record CountedLines : Type 0 where
  pub lines : Lines
  pub counter : ℕ

-- lines with the name of a counter, or the refusal of them
abbrev pub counted_lines : ℕ → Result Lines Error → Result CountedLines Error
counted_lines counter (Ok l) = Ok (record { lines = l; counter = counter })
counted_lines counter (Err e) = Err e

abbrev pub counted_sequence : ℕ → Sequence → CountedSequence
counted_sequence counter s = record { sequence = s; counter = counter }

abbrev pub range_of_counted : CountedSequence → Range
range_of_counted s = range_of s.sequence

abbrev pub sequences_of : List CountedSequence → List Sequence
sequences_of ss = map (λ s. s.sequence) ss

-- one counter counts looks at sequences, at the rows of each, and at their ranges by their starts
abbrev pub IsIndexed : ProbedList CountedSequence → ProbedList OrderedSequence → Type 0
IsIndexed sequences order =
    AllByRecursion (λ s. s.counter ≡ sequences.counter) sequences.entries
    × (order
    ≡ record { entries = by_start (sequences_of sequences.entries); counter = sequences.counter })

-- ---- looks at entries

-- a search among the rows of a sequence, if there is one, and a look at the row that is found
abbrev pub row_probes : Option Sequence → ℕ
row_probes None = 0
row_probes (Some s) = digit_count (length s.rows) + 1

-- a search among the sequences, and one among the rows of the sequence that holds the address
abbrev pub sequence_probes : List Sequence → ℕ → ℕ
sequence_probes ss a = digit_count (length ss) + 1 + row_probes (holder range_of a ss)

abbrev pub place_probes : Lines → ℕ → ℕ
place_probes l a = sequence_probes l.sequences a
