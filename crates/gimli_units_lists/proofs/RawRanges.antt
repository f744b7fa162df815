-- What the entries of a range list are, by the first of them.
use Rattle.std.proofs.Common.{◌≡◌, ℕ, false, eqb, [], ◌∷◌, length, Some, None, Ok, sym, ◌∙◌, ap}
use Rattle.gimli_core_readers.specs.View.{View}
use Rattle.gimli_core_readers.specs.Encoding.{Encoding}
use Rattle.gimli_units_lists.specs.ListEntries.{RawEntry}
use Rattle.gimli_units_lists.specs.Lists.{entries_from}
use Rattle.gimli_units_lists.specs.RangeEntries.{RemainingRawRanges, range_entry, raw_ranges_to_come}
use Rattle.gimli_units_lists.proofs.RawListSteps.{come_item, come_end}
use Rattle.gimli_units_lists.proofs.RangeEntrySizes.{range_entry_takes}

pub raw_item : (limit : ℕ) (old new : RemainingRawRanges) (x : RawEntry) → new.encoding ≡ old.encoding
    → (eqb (length old.rest.bytes) 0) ≡ false → range_entry limit old.encoding old.rest ≡ Ok (Some x, new.rest)
    → raw_ranges_to_come limit old ≡ Ok x ∷ raw_ranges_to_come limit new
raw_item limit old new x same some e =
    come_item (range_entry_takes limit old.encoding) old.rest new.rest x some e
    ∙ ap (λ (c : Encoding). Ok x ∷ entries_from (range_entry limit c) new.rest) (sym same)

pub raw_end : (limit : ℕ) (old : RemainingRawRanges) (w : View) → (eqb (length old.rest.bytes) 0) ≡ false
    → range_entry limit old.encoding old.rest ≡ Ok (None, w) → raw_ranges_to_come limit old ≡ []
raw_end limit old w some e = come_end (range_entry_takes limit old.encoding) old.rest w some e
