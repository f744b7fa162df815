-- Answers of calls as copies, which borrow nothing of a context.
use Rattle.std.specs.Prelude.{ℕ, List, map, Option, Some, None, option_map, Result, Ok, Err}
use Rattle.addr2line_context.specs.Error.{Error}
use Rattle.addr2line_context.specs.Repetition.{Listing}
use Rattle.addr2line_context.specs.DwarfFileType.{DwarfFileType}
use Rattle.addr2line_context.specs.UnitFacts.{UnitInFile}
use Rattle.addr2line_context.specs.Lines.{Location, Stretch}
use Rattle.addr2line_context.specs.Frames.{FunctionName, Frame}
use Rattle.addr2line_context.specs.Histories.{CallAnswer, location_answer, frames_answer, unit_answer, stretches_answer, loads_answer, completion, suspension, no_token}
use Rattle.addr2line_context.specs.OwnedPlaces.{location_of, stretch_of}
use Rattle.linemap_replay.specs.declared.answer.OwnedName.{OwnedName}
use Rattle.linemap_replay.specs.declared.answer.OwnedFrame.{OwnedFrame}
use Rattle.linemap_replay.specs.declared.answer.OwnedUnit.{OwnedUnit}
use Rattle.linemap_replay.specs.declared.answer.Answer.{Answer}
use Rattle.linemap_replay.specs.declared.answer.Answer.TheVariants.{Location as LocationFound, Frames as FramesFound, Range as RangeFound, Unit as UnitFound, Preload, Done, Refused, Suspended, NoToken}

-- ---- what is copied

-- the bytes of a function's name, and the language of its unit
pub record CopiedName : Type 0 where
  pub name : List ℕ
  pub language : Option ℕ

pub record CopiedFrame : Type 0 where
  pub offset : Option ℕ
  pub function : Option CopiedName
  pub location : Option Location

-- the kind of a unit's file, and the unit's offset in `.debug_info`
pub record CopiedUnit : Type 0 where
  pub file_type : DwarfFileType
  pub offset : ℕ

pub data CopiedAnswer : Type 0 where
  location_copy : Option Location → CopiedAnswer
  frames_copy : List CopiedFrame → CopiedAnswer
  stretches_copy : Listing (Unit {0}) Stretch → CopiedAnswer
  unit_copy : Option CopiedUnit → CopiedAnswer
  dwo_ids : List ℕ → CopiedAnswer
  success : CopiedAnswer
  refusal : Error → CopiedAnswer
  dropped_lookup : CopiedAnswer
  missing_token : CopiedAnswer

-- ---- of what a definition answers

abbrev pub copied_name : FunctionName → CopiedName
copied_name f = record { name = f.name.bytes; language = f.language }

abbrev pub copied_frame : Frame → CopiedFrame
copied_frame f =
    record {
      offset = f.offset;
      function = option_map copied_name f.function;
      location = f.location;
    }

abbrev pub copied_unit : UnitInFile → CopiedUnit
copied_unit u =
    record { file_type = u.file.sections.file_type; offset = u.facts.header.offset }

abbrev pub copied_or_refusal : {A : Type 0} → (A → CopiedAnswer) → Result A Error → CopiedAnswer
copied_or_refusal copy (Ok x) = copy x
copied_or_refusal copy (Err e) = refusal e

abbrev pub copied_answer : CallAnswer → CopiedAnswer
copied_answer (location_answer found) = copied_or_refusal location_copy found
copied_answer (frames_answer found) =
    copied_or_refusal (λ fs. frames_copy (map copied_frame fs)) found
copied_answer (unit_answer found) = unit_copy (option_map copied_unit found)
copied_answer (stretches_answer found) = stretches_copy found
copied_answer (loads_answer loads) = dwo_ids (map (λ l. l.dwo_id) loads)
copied_answer (completion result) = copied_or_refusal (λ done. success) result
copied_answer suspension = dropped_lookup
copied_answer no_token = missing_token

-- ---- of the program's values

abbrev pub name_of : OwnedName → CopiedName
name_of n = record { name = n.name.items; language = option_map (λ l. l.0) n.language }

abbrev pub frame_of : OwnedFrame → CopiedFrame
frame_of f =
    record {
      offset = f.dw_die_offset;
      function = option_map name_of f.function;
      location = option_map location_of f.location;
    }

abbrev pub unit_of : OwnedUnit → CopiedUnit
unit_of u = record { file_type = u.file_type; offset = u.offset }

-- the end of stretches, which a refusal may be
abbrev pub ending_of : Option Error → Result (Unit {0}) Error
ending_of None = Ok tt
ending_of (Some e) = Err e

abbrev pub answer_of : Answer → CopiedAnswer
answer_of (LocationFound l) = location_copy (option_map location_of l)
answer_of (FramesFound fs) = frames_copy (map frame_of fs.items)
answer_of (RangeFound ss e) =
    stretches_copy (record { items = map stretch_of ss.items; ending = ending_of e })
answer_of (UnitFound u) = unit_copy (option_map unit_of u)
answer_of (Preload ids) = dwo_ids (map (λ i. i.0) ids.items)
answer_of Done = success
answer_of (Refused e) = refusal e
answer_of Suspended = dropped_lookup
answer_of NoToken = missing_token
