-- The offsets of a file's abbreviation tables, from the calls that answer them one after the other.
use Rattle.std.proofs.Common.{◌≡◌, ℕ, List, [], ◌∷◌, map, Option, Some, None, Result, Ok, Err, OnOk, sym, ap, subst, ◌∙◌}
use Rattle.std.specs.List.{Contains}
use Rattle.std.specs.Iterator.{YieldsThen}
use Rattle.gimli_dwarf_spec.specs.Error.{Error}
use Rattle.gimli_dwarf_spec.specs.Tiling.{RemainingSection, whole_section}
use Rattle.gimli_dwarf_spec.specs.TableCache.{TablesByOffset, EndsOffsets}
use Rattle.gimli_dwarf_spec.specs.CheckedTables.{DeclarationsByOffset, HasRepeated, HasAll}
use Rattle.gimli_dwarf_spec.specs.UnitHeaders.{units_of}
use Rattle.gimli_dwarf_spec.specs.DwarfFiles.{DwarfFile}
use Rattle.gimli_dwarf.specs.CachedFiles.{cached_file, offsets_of_tables, table_offsets, SharesTables}
use Rattle.gimli_dwarf.specs.OffsetCalls.{offsets_to_come, GivesOffset}
use Rattle.gimli_dwarf.proofs.CachedTables.{among_offsets, among_all}

module _ {S O : Type 0} (limit : ℕ) (count : O → ℕ) (units : S → Option RemainingSection) where
  abbrev pub Gives : S → Option (Result O Error) → S → Type 0
  Gives old result new = GivesOffset limit count (units old) result (units new)

  none_left : (s u : S) (last : Option (Result O Error)) → Gives s last u → EndsOffsets last
      → offsets_to_come limit (units s) ≡ []
  none_left s u None h ends = h
  none_left s u (Some (Ok o)) h ends = absurd ends
  none_left s u (Some (Err e)) h ends = h ends

  -- calls that answered these offsets and then ended answered all
  pub all_offsets : (items : List O) (s u : S) (last : Option (Result O Error))
      → YieldsThen Gives s (map (λ o. Ok o) items) last u → EndsOffsets last
      → offsets_to_come limit (units s) ≡ map count items
  all_offsets [] s u last h ends =
      ap (λ (t : S). offsets_to_come limit (units t)) h.1 ∙ none_left h.0 u last h.2 ends
  all_offsets (o ∷ os) s u last h ends =
      h.1.1 ∙ ap (λ (l : List ℕ). count o ∷ l) (all_offsets os h.1.0 u last (h.0, h.1.2, h.2) ends)

  -- the offsets of a file's units, from calls over its headers
  file_offsets : (file : DwarfFile) (items : List O) (last : Option (Result O Error)) (s u : S)
      → units s ≡ Some (whole_section file.sections.debug_info) → limit ≡ file.offset_limit
      → YieldsThen Gives s (map (λ o. Ok o) items) last u → EndsOffsets last
      → map count items ≡ table_offsets file
  file_offsets file items last s u from same h ends =
      sym (all_offsets items s u last h ends)
      ∙ ap (offsets_to_come limit) from
      ∙ ap (λ n. offsets_of_tables (units_of n file.sections.debug_info)) same

  -- a cache with the repeated ones of these has those that the file's units share
  pub shares_repeated : (file : DwarfFile) (cache : TablesByOffset) (kept : DeclarationsByOffset) (items : List O)
      (last : Option (Result O Error)) (s u : S)
      → units s ≡ Some (whole_section file.sections.debug_info) → limit ≡ file.offset_limit
      → YieldsThen Gives s (map (λ o. Ok o) items) last u → EndsOffsets last
      → HasRepeated (map count items) cache → HasAll (map count items) cache kept
      → SharesTables (cached_file file cache)
  shares_repeated file cache kept items last s u from same h ends repeated all =
      let offsets : map count items ≡ table_offsets file = file_offsets file items last s u from same h ends in
      record {
        shared = λ offset twice. among_offsets cache offset (repeated offset (rw offsets twice));
        of_units = λ offset has.
            subst (λ (os : List ℕ). Contains os offset) offsets
            (among_all (map count items) cache kept offset all has);
      }

  -- a cache with the tables that are chosen of these is one with those of a file's units
  pub caches_chosen : {E : Type 0} (r : Result (Unit {0}) E) (choose : List ℕ → TablesByOffset) (file : DwarfFile)
      (cache : TablesByOffset) (s : S)
      → units s ≡ Some (whole_section file.sections.debug_info) → limit ≡ file.offset_limit
      → OnOk r ((items : List O) × (last : Option (Result O Error)) × (u : S)
      × YieldsThen Gives s (map (λ o. Ok o) items) last u × EndsOffsets last × (cache ≡ choose (map count items)))
      → OnOk r (cached_file file cache ≡ cached_file file (choose (table_offsets file)))
  caches_chosen (Ok x) choose file cache s from same h =
      ap (cached_file file) (h.5 ∙ ap choose (file_offsets file h.0 h.1 s h.2 from same h.3 h.4))
  caches_chosen (Err e) choose file cache s from same h = tt
