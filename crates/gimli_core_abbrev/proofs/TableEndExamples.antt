-- Worked values: which tables the end of their section ends.
use Rattle.std.proofs.Common.{◌≡◌, ℕ, false, true, List, [], ◌∷◌, None, Ok, refl}
use Rattle.gimli_core_readers.specs.View.{View}
use Rattle.gimli_core_readers.specs.Repetition.{items_within, listing_in}
use Rattle.gimli_core_readers.specs.NumberParsers.{fixed, unsigned, unsigned_16}
use Rattle.gimli_core_abbrev.specs.TableParsing.{implicit_const, attribute_of, attribute, attributes, children, declaration_of, coded_declaration, declaration, table, table_at}
use Rattle.gimli_core_abbrev.specs.TableLaws.{IsEndedBySection, table_to_0_at}

abbrev view : List ℕ → View
view bytes = record { bytes = bytes; is_big = false; first = 0 }

-- a section without bytes ends its table
pub ends_none : IsEndedBySection 0 (view [])
unfolding table declaration coded_declaration unsigned listing_in items_within
ends_none = (refl, refl)

-- one that is a code 0 doesn't
pub zero_ends_none : table_to_0_at 0 (view (0 ∷ [])) ≡ Ok []
unfolding coded_declaration unsigned listing_in items_within
zero_ends_none = refl

-- a declaration of a compilation unit with a name, without and with a code 0 after it
pub ends_one : IsEndedBySection 0 (view (1 ∷ 0x11 ∷ 1 ∷ 3 ∷ 0x0e ∷ 0 ∷ 0 ∷ []))
unfolding table declaration coded_declaration declaration_of children attributes attribute attribute_of implicit_const
    fixed unsigned unsigned_16 listing_in items_within
ends_one = (refl, refl)

pub zero_ends_one : table_to_0_at 0 (view (1 ∷ 0x11 ∷ 1 ∷ 3 ∷ 0x0e ∷ 0 ∷ 0 ∷ 0 ∷ []))
    ≡ Ok (record {
      code = 1;
      tag = 0x11;
      has_children = true;
      attributes = record
          { name = 3; form = 0x0e; implicit_const = None } ∷ [];
    } ∷ [])
unfolding coded_declaration declaration_of children attributes attribute attribute_of implicit_const fixed unsigned
    unsigned_16 listing_in items_within
zero_ends_one = refl

-- a code that is there twice is refused before the end of the section
pub twice_at_end : table_at 0 (view (1 ∷ 0x11 ∷ 0 ∷ 0 ∷ 0 ∷ 1 ∷ 0x11 ∷ 0 ∷ 0 ∷ 0 ∷ []))
    ≡ table_to_0_at 0 (view (1 ∷ 0x11 ∷ 0 ∷ 0 ∷ 0 ∷ 1 ∷ 0x11 ∷ 0 ∷ 0 ∷ 0 ∷ []))
unfolding table declaration coded_declaration declaration_of children attributes attribute attribute_of implicit_const
    fixed unsigned unsigned_16 listing_in items_within
twice_at_end = refl
