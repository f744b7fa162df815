use Rattle.std.proofs.Common.{◌≡◌, drop, map}
use Rattle.gimli_core_base.proofs.Times.{prepend}
use Rattle.gimli_units_forms.specs.AbbreviationViews.{attribute_view}
use Rattle.gimli_units_forms.specs.AttributeReading.{attributes}
use Rattle.gimli_units_forms.specs.Places.{IsAfter}
use Rattle.gimli_units_entries.specs.EntryViews.{raw_attributes}
use Rattle.gimli_units_entries.proofs.attributes.fill.Given as goal

-- the place is in the reader; and the attributes so far, and then those that are left, are what is read
abbrev pub invariant-loop-specification : goal.invariant-loop-specification
invariant-loop-specification g l =
    let view = g.R.Reader.view in
    let count = g.R.Offset.ReaderOffset.count in
    let limit = g.R.Offset.ReaderOffset.limit in
    record {
      in_reader : IsAfter (view l.reader) l.place;
      read : prepend (raw_attributes view count l.attrs.items)
          (attributes limit l.encoding (map attribute_view (drop l.specification-index l.specifications)) l.place)
          ≡ attributes limit l.encoding (map attribute_view l.specifications) l.initial.place;
    }
