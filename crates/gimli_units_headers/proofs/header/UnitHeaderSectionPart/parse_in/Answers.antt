-- A unit's end is an offset; and reading its header never runs out of memory.
use Rattle.gimli_core_readers.proofs.MemoryLemmas.{free-refused}
use Rattle.gimli_units_headers.proofs.HeaderMemoryLemmas.{free-unit_fields}
use Rattle.gimli_units_headers.proofs.UnitHeaderLemmas.{unit_is_well_formed, unit_in_is_read}
use Rattle.gimli_units_headers.proofs.header.UnitHeaderSectionPart.parse_in.Goals as goal

pub returns-in_err-fields-clause-free : goal.returns-in_err-fields-clause-free
returns-in_err-fields-clause-free g c =
    free-refused _ _ _ c.from_residual.ensures.1 c.in_err-fields.ensures (free-unit_fields _ _ _)

pub invariant_of-result : goal.invariant_of-result
invariant_of-result g c =
    unit_is_well_formed _ _ _ _ _ _ c.requires.counted c.requires.below
    (unit_in_is_read g.R.Offset.ReaderOffset.limit (g.R.Offset.ReaderOffset.count c.args.offset)
    (g.R.Offset.ReaderOffset.count c.args.length) _ _ _ _ c.in_ok-fields.ensures)
