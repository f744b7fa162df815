-- A worked value: the stretches of a table whose units, ranges and sequences are in no order.
use Rattle.std.proofs.Common.{◌≡◌, ℕ, List, [], ◌∷◌, ◌++◌, map, flat_map, Some, Ok, Result, refl, codes, true}
use Rattle.linemap_places_laws.specs.Error.{Error}
use Rattle.linemap_places_laws.specs.Lines.{ProgramRow, Lines, Stretch, sequences_of_rows}
use Rattle.linemap_places_laws.specs.PlaceLookups.{stretches_between}
use Rattle.linemap_places_laws.specs.TableParts.{RangePart, RowPart, SequencePart, UnitPart}
use Rattle.linemap_places_laws.specs.FileText.{file_text}
use Rattle.linemap_places_laws.specs.Meaning as table
use Rattle.linemap_places_laws.specs.LookupAgreement.{lookup_range, lookup_row}
use Rattle.linemap_stretches_laws.specs.LookupStretches.{lookup_stretch}

abbrev row : ℕ → ℕ → RowPart
row address line =
    record { address = address; file = 0; line = line; column = 1; statement = true; discriminator = 0 }

abbrev unit_of : List RangePart → List SequencePart → UnitPart
unit_of ranges sequences = record {
  directory = codes "/w";
  name = codes "a.c";
  ranges = ranges;
  files = record { directory = codes "/"; name = codes "a.c" } ∷ [];
  functions = [];
  sequences = sequences;
}

-- a unit of two ranges, the higher first, with two rows at one address, and a unit between them
abbrev units : List UnitPart
units =
    unit_of (record { begin = 0x30; end = 0x40 } ∷ record { begin = 0x10; end = 0x20 } ∷ [])
    (record { rows = row 0x30 5 ∷ []; end = 0x38 }
    ∷ record { rows = row 0x10 1 ∷ row 0x10 2 ∷ row 0x18 3 ∷ []; end = 0x20 } ∷ [])
    ∷ unit_of (record { begin = 0x20; end = 0x28 } ∷ []) (record { rows = row 0x20 4 ∷ []; end = 0x28 } ∷ []) ∷ []

abbrev end_row : ℕ → ProgramRow
end_row address = record {
  address = address;
  file = 0;
  line = 0;
  column = 0;
  statement = true;
  discriminator = 0;
  ends = true;
}

abbrev lines_of : UnitPart → Result Lines Error
lines_of u =
    Ok (record {
      sequences = sequences_of_rows
          (flat_map (λ s. map (lookup_row (λ n. n)) s.rows ++ end_row s.end ∷ []) u.sequences);
      files = map (file_text u) u.files;
    })

abbrev stretch : ℕ → ℕ → ℕ → Stretch
stretch address length line =
    record {
      address = address;
      length = length;
      location =
          record {
            file = Some (codes "/a.c");
            line = Some line;
            column = Some 1;
            statement = Some true;
            discriminator = Some 0;
          };
    }

abbrev four : List Stretch
four = stretch 0x10 8 2 ∷ stretch 0x18 8 3 ∷ stretch 0x20 8 4 ∷ stretch 0x30 8 5 ∷ []

lookups_in_order : stretches_between (λ u. map lookup_range u.ranges) lines_of units 0x14 0x31
    ≡ record { items = four; ending = Ok tt }
lookups_in_order = refl

table_in_order : map lookup_stretch (table.stretches_between units 0x14 0x31) ≡ four
table_in_order = refl
