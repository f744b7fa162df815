-- The naming so far with that of the attributes to come is the naming of all.
use Rattle.std.proofs.Common.{◌≡◌, length, map}
use Rattle.gimli_dwarf.specs.AbbreviationViews.{attribute_view}
use Rattle.addr2line_names.specs.EntryNamings.{attributes_from, naming_in}
use Rattle.addr2line_names.specs.NamingView.{naming_view}
use Rattle.addr2line_names.proofs.NamingSteps.{naming_from}
use Rattle.addr2line_names.proofs.holder.HoldingUnit.naming_in.Given as goal

abbrev pub invariant-loop-left : goal.invariant-loop-left
invariant-loop-left g l =
    let limit = g.R.Offset.ReaderOffset.limit in
    naming_from limit l.self (naming_view g.R.Reader.view g.R.Offset.ReaderOffset.count l.found)
    (attributes_from limit (map attribute_view l.left) l.entries)
    ≡ naming_in l.self (attributes_from limit (map attribute_view l.specifications) l.fn.entries)

abbrev pub decreases-loop-left : goal.decreases-loop-left
decreases-loop-left g l = length l.left
