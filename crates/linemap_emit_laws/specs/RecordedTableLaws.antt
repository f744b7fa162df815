-- Files that say what a sound table says are read as what it means.
use Rattle.std.specs.Prelude.{◌≡◌, ℕ, Bool, List, map, All, Option, None, option_map, Ok}
use Rattle.addr2line_spec.specs.SuspensionLaws.{HasNoSplitPart}
use Rattle.linemap_emit_units.specs.Encoding.{Encoding}
use Rattle.linemap_emit_units.specs.DwarfFiles.{DwarfFile}
use Rattle.linemap_emit_units.specs.Contexts.{Context, ContextUnit, FileContext, context, location, stretches}
use Rattle.linemap_emit_units.specs.TableParts.{UnitPart}
use Rattle.linemap_emit_units.specs.Conditions.{IsSound}
use Rattle.linemap_emit_units.specs.Meaning as table
use Rattle.linemap_emit_units.specs.Entry.{Entry}
use Rattle.linemap_emit_units.specs.LookupAgreement.{lookup_location}
use Rattle.linemap_emit_units.specs.Repetition.{no_items, prepend}
use Rattle.linemap_stretches_laws.specs.LookupStretches.{lookup_stretch}
use Rattle.linemap_emit_calls_laws.specs.Frames.{Frame}
use Rattle.linemap_emit_calls_laws.specs.FirstAnswers.{FirstAnswers, output}
use Rattle.linemap_emit_calls_laws.specs.Lookups.{frames}
use Rattle.linemap_emit_calls_laws.specs.ContextNames.{naming_in}
use Rattle.linemap_emit_calls_laws.specs.CallAgreement.{OneByOne}
use Rattle.linemap_emit_calls_laws.specs.LookupFrameLaws.{FrameAgrees}
use Rattle.linemap_emit_laws.specs.RecordedTables.{RecordsTable}

-- the frames of an address are found without a load, and agree one by one with the table's
pub record FramesFound (c : FileContext) (us : List UnitPart) (answers : FirstAnswers)
    (a : ℕ) : Type 0
  where
    pub list : List Frame
    pub are_frames : frames c (naming_in c) answers a ≡ output (Ok list)
    pub agree : OneByOne FrameAgrees (table.frames_at us a) list

-- the language of a unit isn't known
abbrev pub HasNoLanguage : ContextUnit → Type 0
HasNoLanguage u = u.language ≡ None

-- There is a context, without a unit that has a split part or a language. The place that it answers
-- is the table's at every address, and so are the frames, under all first answers to loads, and the
-- stretches between every two ends.
pub record AnswersTable (s : DwarfFile) (us : List UnitPart) : Type 0 where
  pub found : Context
  pub is_context : context s ≡ Ok found
  pub has_no_split_part : All HasNoSplitPart found.units
  pub has_no_language : All HasNoLanguage found.units
  pub places : (a : ℕ)
      → location found a ≡ Ok (option_map lookup_location (table.location_at us a))
  pub frames_are : (answers : FirstAnswers) (a : ℕ)
      → FramesFound (record { file = s; context = found }) us answers a
  pub stretches_are : (low high : ℕ)
      → stretches found low high
      ≡ prepend (map lookup_stretch (table.stretches_between us low high)) (no_items (Ok tt))

abbrev pub SectionsAnswer : Type 0
SectionsAnswer =
    (e : Encoding) (is_big : Bool) (s : DwarfFile) (us : List UnitPart)
    (entries : List (List Entry))
    → IsSound us → RecordsTable e is_big s us entries → AnswersTable s us

-- the name of a frame's function, if it is known
abbrev pub name_bytes : Frame → Option (List ℕ)
name_bytes f = option_map (λ n. n.name.bytes) f.function

-- two frames have the same name and the same place
pub record SameFrame (f g : Frame) : Type 0 where
  pub same_name : name_bytes f ≡ name_bytes g
  pub same_place : f.location ≡ g.location

-- Two files that answer the same table, in whatever encodings, answer alike, under all first
-- answers.
abbrev pub AnswersAgree : Type 0
AnswersAgree =
    (s t : DwarfFile) (us : List UnitPart) (x : AnswersTable s us) (y : AnswersTable t us)
    (answers other_answers : FirstAnswers) (a low high : ℕ)
    → (location x.found a ≡ location y.found a)
    × OneByOne SameFrame (x.frames_are answers a).list (y.frames_are other_answers a).list
    × (stretches x.found low high ≡ stretches y.found low high)
