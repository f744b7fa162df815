use Rattle.std.proofs.Common.{◌∙◌, sym}
use Rattle.gimli_dwarf.proofs.WholeParts.{same_whole}
use Rattle.gimli_dwarf.proofs.unit.Unit.make_whole.Goals as goal

pub returns-in-Ok-clause-ok : goal.returns-in-Ok-clause-ok
returns-in-Ok-clause-ok g c =
    same_whole c.args.dwarf.now.file c.args.self.now c.read_parts.new.self c.requires c.in-Ok.ensures.ok
