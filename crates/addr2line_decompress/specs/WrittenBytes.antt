-- What has been written of an image.
use Rattle.std.specs.Prelude.{◌≡◌, ◌≢◌, ℕ, Bool, List, ◌++◌, length, flat_map, All, Option, Result, Ok, Err}
use Rattle.addr2line_elf.specs.declared.class.Class.{Class}
use Rattle.addr2line_elf.specs.ElfClasses.{section_header_size}
use Rattle.addr2line_decompress.specs.CompressedSections.{Section}
use Rattle.addr2line_decompress.specs.DecompressedBytes.{text_bytes}
use Rattle.addr2line_decompress.specs.declared.error.DecompressError.{DecompressError}
use Rattle.addr2line_decompress.specs.declared.error.DecompressError.TheVariants.{Memory}

-- the bytes so far, in an order, of an image of a class
pub record ImageBytes : Type 0 where
  pub bytes : List ℕ
  pub class : Class
  pub is_big : Bool

-- and more bytes
abbrev pub append : List ℕ → ImageBytes → ImageBytes
append bytes w = record { bytes = w.bytes ++ bytes; class = w.class; is_big = w.is_big }

-- the bytes of each section header are those of one
abbrev pub AreEntries : Class → List Section → Type 0
AreEntries class sections = All (λ s. length s.entry ≡ section_header_size class) sections

-- Names are written after the bytes so far, or out of memory.
abbrev pub WritesNames : Result (Unit {0}) DecompressError → List ℕ → List ℕ → List ℕ → Type 0
WritesNames (Ok done) old new names = new ≡ old ++ names
WritesNames (Err e) old new names = e ≡ Memory

-- A text, if there is one, is written after the bytes so far, or the refusal, or out of memory.
abbrev pub WritesText : Result (Unit {0}) DecompressError → ImageBytes → ImageBytes
    → Result (Option (List ℕ)) DecompressError → Type 0
WritesText (Ok done) old new meaning =
    (text : Option (List ℕ)) × (meaning ≡ Ok text) × (new ≡ append (text_bytes text) old)
WritesText (Err e) old new meaning = e ≢ Memory → meaning ≡ Err e

-- Texts are written after the bytes so far, or the first refusal, or out of memory.
abbrev pub WritesTexts : Result (Unit {0}) DecompressError → ImageBytes → ImageBytes
    → Result (List (Option (List ℕ))) DecompressError → Type 0
WritesTexts (Ok done) old new meaning =
    (texts : List (Option (List ℕ))) × (meaning ≡ Ok texts)
    × (new ≡ append (flat_map text_bytes texts) old)
WritesTexts (Err e) old new meaning = e ≢ Memory → meaning ≡ Err e
