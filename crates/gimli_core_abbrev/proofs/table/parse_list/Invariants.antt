use Rattle.std.proofs.Common.{◌≡◌}
use Rattle.std.specs.Ordering.{nat_cmp}
use Rattle.std.specs.BTreeMap.{get}
use Rattle.gimli_core_readers.specs.View.{bytes_left}
use Rattle.gimli_core_readers.specs.Repetition.{prepend, listing_in}
use Rattle.gimli_core_abbrev.specs.TableLayout.{stored, IsLayout, IsStored}
use Rattle.gimli_core_abbrev.specs.TableParsing.{declaration}
use Rattle.gimli_core_abbrev.proofs.table.parse_list.Given as goal

-- the declarations so far, with no code twice, and then those that are left
abbrev pub invariant-reading : goal.invariant-reading
invariant-reading g l = record {
  stored_so : IsStored l.declarations.items l.in_order l.others.items l.attributes.items;
  layout : IsLayout (stored l.in_order l.others.items l.attributes.items l.declarations.items) l.in_order
      (get nat_cmp l.places);
  listing : prepend (stored l.in_order l.others.items l.attributes.items l.declarations.items)
      (listing_in bytes_left declaration l.rest)
      ≡ listing_in bytes_left declaration l.fn.input;
}

abbrev pub decreases-reading : goal.decreases-reading
decreases-reading g l = bytes_left l.rest
