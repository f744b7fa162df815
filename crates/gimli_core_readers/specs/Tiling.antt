-- Parts of a section that lie end to end: each begins where the one before it ends.
use Rattle.std.specs.Prelude.{◌≡◌, ℕ, ◌+◌, ◌-◌, ◌<◌, List, [], ◌∷◌, Option, Result, Ok, Err}
use Rattle.gimli_core_base.specs.declared.error.Error.{Error}
use Rattle.gimli_core_base.specs.View.{View, after, bytes_left}
use Rattle.gimli_core_base.specs.Parsers.{Parser, value_of}
use Rattle.gimli_core_base.specs.Repetition.{Listing, listing_in, until_end}

-- the bytes of a section from one of its parts on, and how many bytes the whole section has
pub record RemainingSection : Type 0 where
  pub section_length : ℕ
  pub rest : View

-- before the first part
abbrev pub whole_section : View → RemainingSection
whole_section section = record { section_length = bytes_left section; rest = section }

-- where the next part begins: at the section's length less the bytes left
abbrev pub next_offset : RemainingSection → ℕ
next_offset s = s.section_length - bytes_left s.rest

-- the part that begins where the rest of a section of that length begins; how it is read depends on
-- its offset
abbrev pub part_of : {A : Type 0} → (ℕ → Parser A) → ℕ → Parser A
part_of read section_length v = read (section_length - bytes_left v) v

-- the next part, none at the section's end
abbrev pub next_part : {A : Type 0} → (ℕ → Parser A) → RemainingSection
    → Result (Option A × View) Error
next_part read s = until_end (part_of read s.section_length) s.rest

-- all parts from there on, and what ends them: the section's end, or the first fault
abbrev pub parts_to_come : {A : Type 0} → (ℕ → Parser A) → RemainingSection
    → Listing View A
parts_to_come read s = listing_in bytes_left (until_end (part_of read s.section_length)) s.rest

-- the part at an offset of a section
abbrev pub part_at : {A : Type 0} → (ℕ → Parser A) → ℕ → View → Result A Error
part_at read offset section = value_of (read offset (after offset section))

-- From an offset on the parts lie end to end: each at the offset that it names, and the next one
-- after its last byte, up to the section's end or to a part that can't be read.
abbrev pub Tile : {A : Type 0} → (ℕ → Parser A) → (A → ℕ) → (A → ℕ) → View
    → ℕ → List A → Result View Error → Type 0
Tile read offset_of size_of section offset [] (Ok rest) = offset ≡ bytes_left section
Tile read offset_of size_of section offset [] (Err e) =
    (offset < bytes_left section) × (part_at read offset section ≡ Err e)
Tile read offset_of size_of section offset (x ∷ xs) ending =
    (offset_of x ≡ offset)
    × (read offset (after offset section) ≡ Ok (x, after (offset + size_of x) section))
    × Tile read offset_of size_of section (offset + size_of x) xs ending
