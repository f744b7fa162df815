-- How a table stores its texts: with the offset of each, and the section's size.
use Rattle.std.specs.Prelude.{◌≡◌, ℕ, ◌<◌, List, All, map, length, slice_index}
use Rattle.std.specs.Global.{Vec}
use Rattle.std.specs.declared.hash.FoldHasher.{FoldHasher}
use Rattle.std.specs.declared.hash.BuildHasherDefault.{BuildHasherDefault}
use Rattle.indexmap.specs.IndexSet.{IndexSet}
use Rattle.gimli_lines_write_tables.specs.StringSections.{IsText, section_of, offset_of}

-- The offsets and the size are those of the texts' section; no text holds a zero byte.
pub record IsTextTable (texts : List (List ℕ)) (offsets : List ℕ) (size : ℕ) : Type 0 where
  pub same_length : length offsets ≡ length texts
  pub begins : (i : ℕ) → i < length texts → slice_index offsets i ≡ offset_of texts i
  pub ends : size ≡ length (section_of texts)
  pub no_zeros : All IsText texts

-- the texts of a set, in its order
abbrev pub texts_of : IndexSet (Vec ℕ) (BuildHasherDefault FoldHasher) → List (List ℕ)
texts_of set = map (λ (t : Vec ℕ). t.items) set.keys
