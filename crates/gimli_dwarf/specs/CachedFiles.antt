-- A file with the offsets of the abbreviation tables that are cached for it.
use Rattle.std.specs.Prelude.{◌≡◌, ◌≤◌, ◌==◌, ℕ, List, map, count_by, Option, IfSome}
use Rattle.std.specs.List.{Contains}
use Rattle.std.specs.FinMap.{keys}
use Rattle.gimli_dwarf_spec.specs.TableCache.{TablesByOffset}
use Rattle.gimli_dwarf_spec.specs.UnitHeaders.{DebugUnit, units_of}
use Rattle.gimli_dwarf_spec.specs.DwarfFiles.{DwarfFile}

-- A file, and in ascending order the offsets in its `.debug_abbrev` of the tables that are cached.
-- What is cached at such an offset is the section's table there, so nothing that is read of the
-- file depends on the cache.
pub record CachedFile : Type 0 where
  pub file : DwarfFile
  pub cached_offsets : List ℕ

-- a file with the tables of a cache
abbrev pub cached_file : DwarfFile → TablesByOffset → CachedFile
cached_file file tables = record { file = file; cached_offsets = keys tables }

-- the offsets of units' abbreviation tables (DWARF 5, 7.5.1.1)
abbrev pub offsets_of_tables : List DebugUnit → List ℕ
offsets_of_tables units = map (λ u. u.abbrev_offset) units

-- those of a file's units, up to the first unit that can't be read
abbrev pub table_offsets : DwarfFile → List ℕ
table_offsets file = offsets_of_tables (units_of file.offset_limit file.sections.debug_info)

-- the tables that at least two units share are cached, and only tables of units are
pub record SharesTables (sections : CachedFile) : Type 0 where
  pub shared : (offset : ℕ) → 2 ≤ count_by (λ o. o == offset) (table_offsets sections.file)
      → Contains sections.cached_offsets offset
  pub of_units : (offset : ℕ) → Contains sections.cached_offsets offset
      → Contains (table_offsets sections.file) offset

-- the supplement, if there is one, is read with this limit of offsets
abbrev pub SharesLimit : ℕ → Option CachedFile → Type 0
SharesLimit limit supplement = IfSome supplement (λ s. s.file.offset_limit ≡ limit)
