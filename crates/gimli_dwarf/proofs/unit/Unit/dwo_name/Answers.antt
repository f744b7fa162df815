use Rattle.std.proofs.Common.{subst, sym, Option, option_map, Result}
use Rattle.gimli_dwarf_spec.specs.Error.{Error}
use Rattle.gimli_dwarf_spec.specs.Calls.{ReturnsAsOrNoMemory}
use Rattle.gimli_dwarf_spec.specs.EntryViews.{entry_of}
use Rattle.gimli_dwarf_spec.specs.AttributeValues.{RawValue, raw_value_of}
use Rattle.gimli_dwarf.proofs.UnitSteps.{dwo_name-of_root}
use Rattle.gimli_dwarf.proofs.unit.Unit.dwo_name.Goals as goal

pub returns : goal.returns
returns g c =
    let P : Result (Option RawValue) Error → Type 0 =
    λ x. ReturnsAsOrNoMemory
    (option_map (raw_value_of g.R.Reader.view g.R.Offset.ReaderOffset.count)) c.attr_value.result x in
    subst P (sym (dwo_name-of_root g.R.Offset.ReaderOffset.limit c.args.self.now
    (entry_of g.R.Reader.view g.R.Offset.ReaderOffset.count c.in_ok-root.root) _
    c.in_ok-root.ensures c.split_name-name.ensures)) c.attr_value.ensures.value
