-- All sections of a file, by what a function answers for each.
use Rattle.std.specs.Prelude.{◌≡◌, List, [], ◌∷◌, ◌++◌, ℕ, map, Some, Result, Ok, Err}
use Rattle.std.specs.List.{FoldsTo}
use Rattle.gimli_dwarf_spec.specs.View.{View}
use Rattle.gimli_dwarf_spec.specs.DwarfFileType.TheVariants.{Main}
use Rattle.gimli_dwarf_spec.specs.SectionId.{SectionId}
use Rattle.gimli_dwarf_spec.specs.SectionId.TheVariants.{DebugAbbrev, DebugAddr, DebugAranges, DebugInfo, DebugLine, DebugLineStr, DebugLoc, DebugLocLists, DebugMacinfo, DebugMacro, DebugNames, DebugRanges, DebugRngLists, DebugStr, DebugStrOffsets, DebugTypes}
use Rattle.gimli_dwarf_spec.specs.DwarfFiles.{DwarfFile, dwarf_file}

-- those of a main file without a supplement
abbrev pub loaded_file : ℕ → (SectionId → View) → DwarfFile
loaded_file limit contents = record {
  offset_limit = limit;
  sections = record {
    debug_abbrev = contents DebugAbbrev;
    debug_addr = contents DebugAddr;
    debug_aranges = contents DebugAranges;
    debug_info = contents DebugInfo;
    debug_line = contents DebugLine;
    debug_line_str = contents DebugLineStr;
    debug_macinfo = contents DebugMacinfo;
    debug_macro = contents DebugMacro;
    debug_names = contents DebugNames;
    debug_str = contents DebugStr;
    debug_str_offsets = contents DebugStrOffsets;
    debug_types = contents DebugTypes;
    locations = record { debug_loc = contents DebugLoc; debug_loclists = contents DebugLocLists };
    ranges =
        record { debug_ranges = contents DebugRanges; debug_rnglists = contents DebugRngLists };
    file_type = Main;
  };
  supplements = [];
}

-- the sections of a file, in the order in which they are asked for
abbrev pub load_order : List SectionId
load_order =
    DebugAbbrev ∷ DebugAddr ∷ DebugAranges ∷ DebugInfo ∷ DebugLine ∷ DebugLineStr ∷ DebugLoc
    ∷ DebugLocLists ∷ DebugMacinfo ∷ DebugMacro ∷ DebugNames ∷ DebugRanges ∷ DebugRngLists
    ∷ DebugStr ∷ DebugStrOffsets ∷ DebugTypes ∷ []

module _ {F R E : Type 0} (step : F → SectionId → Result R E → F → Type 0) where
  -- Calls for sections, one after the other, answered these readers.
  pub record Answers (before : F) (calls : List (SectionId × R)) (after : F) : Type 0 where
    pub each : FoldsTo (λ p call q. step p call.0 (Ok call.1) q) before calls after

  -- Some of these sections were asked for, in order, up to one that was refused.
  pub record RefusesOneOf (ids : List SectionId) (before : F) (e : E) : Type 0 where
    pub calls : List (SectionId × R)
    pub id : SectionId
    pub rest : List SectionId
    pub before_refusal : F
    pub after : F
    pub order : ids ≡ map (λ call. call.0) calls ++ id ∷ rest
    pub answers : Answers before calls before_refusal
    pub refusal : step before_refusal id (Err e) after

module _ {F R E : Type 0} (step : F → SectionId → Result R E → F → Type 0) (view : R → View) where
  -- a call for a section answered a reader over these bytes
  abbrev pub GivesSection : (SectionId → View) → F → SectionId → F → Type 0
  GivesSection contents before id after =
      (reader : R) × step before id (Ok reader) after × (view reader ≡ contents id)

  -- calls for these sections, one after the other, answered a reader over the bytes of each
  abbrev pub GivesSections : (SectionId → View) → F → List SectionId → F → Type 0
  GivesSections contents before ids after = FoldsTo (GivesSection contents) before ids after

  -- Each section was asked for, and these are the file's, whose offsets have this limit.
  pub record Loads (limit : ℕ) (before : F) (file : DwarfFile) : Type 0 where
    pub contents : SectionId → View
    pub after : F
    pub calls : GivesSections contents before load_order after
    pub are : file ≡ loaded_file limit contents

  -- The sections were asked for up to one that was refused.
  pub record RefusesToLoad (before : F) (e : E) : Type 0 where
    pub contents : SectionId → View
    pub prefix : List SectionId
    pub id : SectionId
    pub rest : List SectionId
    pub before_refusal : F
    pub after : F
    pub order : load_order ≡ prefix ++ id ∷ rest
    pub calls : GivesSections contents before prefix before_refusal
    pub refusal : step before_refusal id (Err e) after

-- a file with another's sections for its supplement's
abbrev pub with_supplement : DwarfFile → DwarfFile → DwarfFile
with_supplement supplement file = dwarf_file file.offset_limit file.sections (Some supplement)
