-- Worked values: ranges of lists whose base changes (DWARF 4, 2.17.3), by computation.
use Rattle.std.proofs.Common.{◌≡◌, ◌^◌, ℕ, false, List, [], ◌∷◌, Result, Ok, refl}
use Rattle.gimli_core_readers.specs.Error.{Error}
use Rattle.gimli_core_readers.specs.View.{View}
use Rattle.gimli_core_readers.specs.Repetition.{listing_in, items_within}
use Rattle.gimli_core_readers.specs.Encoding.{Encoding}
use Rattle.gimli_core_readers.specs.Format.TheVariants.{Dwarf32}
use Rattle.gimli_core_readers.specs.NumberParsers.{fixed, address}
use Rattle.gimli_core_readers.specs.declared.range.Range.{Range}
use Rattle.gimli_units_lists.specs.ListResolutions.{resolutions}
use Rattle.gimli_units_lists.specs.ListEntries.{RawEntry, Setting, address_or_offset_pair, base_address, base_in, range_of}
use Rattle.gimli_units_lists.specs.ListEntryFields.{addresses}
use Rattle.gimli_units_lists.specs.ListSections.{RemainingRanges, from_low_pc, ranges_to_come}
use Rattle.gimli_units_lists.specs.RangeEntries.{range_entry, range_pair}

-- version 4, in 32-bit DWARF, with addresses of four bytes
abbrev encoding : Encoding
encoding = record { address_size = 4; format = Dwarf32; version = 4 }

abbrev view : List ℕ → View
view bytes = record { bytes = bytes; is_big = false; first = 0 }

abbrev range : ℕ → ℕ → Result Range Error
range begin end = Ok (record { begin = begin; end = end })

-- ---- entries

abbrev setting : Setting
setting = record { address_size = 4; addresses = view []; addr_base = 0 }

abbrev ranges_of : ℕ → List (Result RawEntry Error) → List (Result Range Error)
ranges_of base entries = resolutions (base_in setting) (range_of setting) base entries

-- pairs before a base, after it, and after another one: each is relative to the base before it
each_base_in_turn : ranges_of 0x01000000 (
    Ok (address_or_offset_pair 0x10200 0x10300) ∷ Ok (base_address 0x02000000)
    ∷ Ok (address_or_offset_pair 0x10400 0x10500)
    ∷ Ok (address_or_offset_pair 0x10600 0x10700) ∷ Ok (base_address 0x100) ∷ Ok (address_or_offset_pair 8 9) ∷ [])
    ≡ range 0x01010200 0x01010300 ∷ range 0x02010400 0x02010500 ∷ range 0x02010600 0x02010700 ∷ range 0x108 0x109 ∷ []
each_base_in_turn = refl

-- ---- bytes

-- a list from its start, with a base
abbrev list : ℕ → List ℕ → RemainingRanges
list base bytes =
    record { raw = record { encoding = encoding; rest = view bytes }; against = from_low_pc encoding base 0 (view []) }

-- a pair, a base after the greatest address, a pair, and the end
base_in_the_middle : ranges_to_come (2 ^ 64) (list 0x01000000 (
    0 ∷ 2 ∷ 1 ∷ 0 ∷ 0 ∷ 3 ∷ 1 ∷ 0
    ∷ 0xff ∷ 0xff ∷ 0xff ∷ 0xff ∷ 0 ∷ 0 ∷ 0 ∷ 2
    ∷ 0 ∷ 4 ∷ 1 ∷ 0 ∷ 0 ∷ 5 ∷ 1 ∷ 0
    ∷ 0 ∷ 0 ∷ 0 ∷ 0 ∷ 0 ∷ 0 ∷ 0 ∷ 0 ∷ []))
    ≡ range 0x01010200 0x01010300 ∷ range 0x02010400 0x02010500 ∷ []
unfolding listing_in items_within range_entry range_pair addresses address fixed
base_in_the_middle = refl
