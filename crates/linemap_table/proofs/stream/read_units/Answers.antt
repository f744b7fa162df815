use Rattle.std.proofs.Common.{◌≡◌, [], ap, ◌∙◌, option_and_then, rules}
use Rattle.linemap_table.specs.JsonShapes.{units_in}
use Rattle.linemap_table.proofs.JsonReading.{read_whole}
use Rattle.linemap_table.proofs.stream.read_units.Goals as goal

pub returns : goal.returns
returns c =
    let read = c.in_ok-units.ensures in
    let none : c.read_table.new.reader ≡ [] = search rules in
    let whole = read_whole c.args.text.now read.0 (rw (c.in_ok-reader.ensures.ok, none) at read.1) in
    ap (option_and_then units_in) whole ∙ read.2
