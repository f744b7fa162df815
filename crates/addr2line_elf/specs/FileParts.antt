-- The bytes of a file of which some parts are in memory.
use Rattle.std.specs.Prelude.{◌≡◌, ℕ, ◌+◌, ◌-◌, ◌≤◌, ◌==◌, ◌&&◌, ◌||◌, not, nat_le, nat_lt, Bool, false, List, [], ◌∷◌, ◌++◌, length, take, drop, replicate, Option, option_map, Result, Ok, Err, if◌then◌else◌}
use Rattle.std.specs.List.{find, list_any}
use Rattle.std.specs.Option.{is_some}
use Rattle.addr2line_elf.specs.declared.error.LoadError.{LoadError}
use Rattle.addr2line_elf.specs.declared.error.LoadError.TheVariants.{Truncated}
use Rattle.addr2line_elf.specs.declared.file_parts.FilePart.{FilePart}

-- where a part ends
abbrev pub end_of : FilePart → ℕ
end_of p = p.offset + length p.bytes

-- bytes with those of a part in their place
abbrev pub overwrite : List ℕ → FilePart → List ℕ
overwrite bytes p = take p.offset bytes ++ p.bytes ++ drop (end_of p) bytes

abbrev pub overwrite_all : List ℕ → List FilePart → List ℕ
overwrite_all bytes [] = bytes
overwrite_all bytes (p ∷ ps) = overwrite_all (overwrite bytes p) ps

-- the bytes of a file of a length: those of its parts, and zeros elsewhere
abbrev pub file_bytes : ℕ → List FilePart → List ℕ
file_bytes len parts = overwrite_all (replicate len 0) parts

-- a file of which some parts are in memory: its bytes, zeros where there is no part, and the parts
pub record PartialFile : Type 0 where
  pub bytes : List ℕ
  pub parts : List FilePart

-- the bytes of a file, if there is one
abbrev pub bytes_if_any : Option PartialFile → Option (List ℕ)
bytes_if_any file = option_map (λ f. f.bytes) file

-- the bytes of a range, if the file doesn't end before it does
abbrev pub range_in : ℕ → ℕ → List ℕ → Result (List ℕ) LoadError
range_in offset size bytes =
    if nat_le (offset + size) (length bytes) then Ok (take size (drop offset bytes))
    else Err Truncated

-- a part has all bytes of a range
abbrev pub has : ℕ → ℕ → FilePart → Bool
has offset size p =
    nat_le p.offset offset && nat_le (offset + size - p.offset) (length p.bytes)

-- the bytes of a range are in a part, or the file ends before the range does
abbrev pub covers : ℕ → ℕ → PartialFile → Bool
covers offset size file =
    not (nat_le (offset + size) (length file.bytes))
    || (size == 0 || is_some (find (has offset size) file.parts))

-- bytes of a range are in a part: it begins before the range ends, and ends after the range begins
abbrev pub overlaps : ℕ → ℕ → FilePart → Bool
overlaps offset size p =
    nat_lt p.offset (offset + size)
    && (nat_lt offset p.offset || nat_lt (offset - p.offset) (length p.bytes))

-- the bytes of a file at a part's place are the part's
pub record IsThere (bytes : List ℕ) (p : FilePart) : Type 0 where
  pub within : end_of p ≤ length bytes
  pub same : take (length p.bytes) (drop p.offset bytes) ≡ p.bytes

abbrev pub AreThere : List ℕ → List FilePart → Type 0
AreThere bytes [] = Unit {0}
AreThere bytes (p ∷ ps) = IsThere bytes p × AreThere bytes ps

-- no byte is in two parts
abbrev pub AreApart : List FilePart → Type 0
AreApart [] = Unit {0}
AreApart (p ∷ ps) =
    (list_any (overlaps p.offset (length p.bytes)) ps ≡ false) × AreApart ps

-- bytes of a length that have those of all parts, each once
pub record HasParts (len : ℕ) (parts : List FilePart) (bytes : List ℕ) : Type 0 where
  pub length_is : length bytes ≡ len
  pub there : AreThere bytes parts
  pub apart : AreApart parts

-- ---- reads from a source, by whether its file has some bytes

module _ {S : Type 0} (is_file : S → List ℕ → Type 0) where
  -- Some ranges were read, or none: the parts still have the bytes of the source's file.
  pub record ReadsParts (source : S) (old : PartialFile) (source_after : S) (new : PartialFile)
      : Type 0 where
    pub same_length : length new.bytes ≡ length old.bytes
    pub same_file : (bytes : List ℕ) → is_file source bytes → is_file source_after bytes
    pub there : (bytes : List ℕ) → is_file source bytes → AreThere bytes old.parts
        → AreThere bytes new.parts
