-- Reading an entry never runs out of memory, and takes a byte.
use Rattle.gimli_core_readers.proofs.MemoryLemmas.{free_answer}
use Rattle.gimli_units_lists.proofs.ListEntryMemoryLemmas.{free-range_entry}
use Rattle.gimli_units_lists.proofs.RangeEntrySizes.{range_entry_takes}
use Rattle.gimli_units_lists.proofs.RawListSteps.{takes_bytes}
use Rattle.gimli_units_lists.proofs.range_entry.RawRngListEntryOffsetListEntry.parse.Goals as goal

pub returns-clause-memory : goal.returns-clause-memory
returns-clause-memory g c =
    λ is. absurd (free_answer _ c.parse_entry.result _ c.parse_entry.ensures (free-range_entry _ _ _) is)

pub returns-clause-free : goal.returns-clause-free
returns-clause-free g c = λ _. free_answer _ c.parse_entry.result _ c.parse_entry.ensures (free-range_entry _ _ _)

pub returns-clause-takes : goal.returns-clause-takes
returns-clause-takes g c = takes_bytes (range_entry_takes g.R.Offset.ReaderOffset.limit c.args.encoding)
