use Rattle.gimli_core_abbrev.proofs.PackedSums.{sum_packed}
use Rattle.gimli_core_abbrev.proofs.widths.PackedWidths.plus.Goals as goal

pub returns : goal.returns
returns c = sum_packed c.args.self.0 c.args.others.0 c.args.count c.requires.count c.requires.room
