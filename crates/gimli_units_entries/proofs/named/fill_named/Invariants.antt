use Rattle.std.proofs.Common.{◌≡◌, length, map}
use Rattle.gimli_core_base.proofs.Times.{prepend}
use Rattle.gimli_units_forms.specs.AbbreviationViews.{attribute_view}
use Rattle.gimli_units_forms.specs.Places.{IsAfter}
use Rattle.gimli_units_entries.specs.EntryViews.{raw_attributes}
use Rattle.gimli_units_entries.specs.NamedAttributes.{named_attributes}
use Rattle.gimli_units_entries.proofs.named.fill_named.Given as goal

-- the place is in the reader; and those so far, and then those that are left, are those of the names
abbrev pub invariant-loop-left : goal.invariant-loop-left
invariant-loop-left g l =
    let view = g.R.Reader.view in
    let count = g.R.Offset.ReaderOffset.count in
    let limit = g.R.Offset.ReaderOffset.limit in
    record {
      in_reader : IsAfter (view l.reader) l.place;
      read : prepend (raw_attributes view count l.attrs.items)
          (named_attributes limit l.names l.encoding (map attribute_view l.left) l.place)
          ≡ named_attributes limit l.names l.encoding (map attribute_view l.specifications) l.fn.place;
    }

abbrev pub decreases-loop-left : goal.decreases-loop-left
decreases-loop-left g l = length l.left
