use Rattle.std.proofs.Common.{ap}
use Rattle.addr2line_context.specs.Histories.{unit_answer}
use Rattle.linemap_replay.specs.OwnedAnswers.{unit_copy}
use Rattle.linemap_replay.proofs.CopiedAnswers.{output_copy}
use Rattle.linemap_replay.proofs.address_lookup.UnitLookupAddressLookup.copy_found.Goals as goal

pub returns : goal.returns
returns g c = λ meaning decides.
    output_copy unit_answer meaning c.lend_unit.result _ (c.lend_unit.ensures meaning decides)
    (ap unit_copy c.copy_unit_if_any.ensures)
