-- What `lookup` prints of a table, by what the table says alone.
use Rattle.std.specs.Prelude.{ℕ, ◌-◌, ◌^◌, List, [], ◌∷◌, ◌++◌, codes, flat_map, map, Option, Some, None, option_and_then, option_map, unwrap_or, if◌then◌else◌}
use Rattle.std.specs.Str.Lossy.{utf8_lossy}
use Rattle.linemap_image.specs.AnswerTexts.{unknown_text}
use Rattle.linemap_image.specs.LookupAgreement.{lookup_location}
use Rattle.linemap_image.specs.Meaning.{Frame, Location, frames_at, location_at, stretches_between}
use Rattle.linemap_image.specs.TableParts.{UnitPart}
use Rattle.linemap_lookup.specs.AddressTexts.{address_text, location_text_if_any}
use Rattle.linemap_lookup.specs.FrameTexts.{frame_line, inlined_by, name_text}
use Rattle.linemap_lookup.specs.LookupAnswers.{asks_frames, looked_up}
use Rattle.linemap_lookup.specs.Options.{Options}
use Rattle.linemap_lookup.specs.Programs.{ascending_after}
use Rattle.linemap_lookup.specs.Range.{Range}

-- ---- places and frames

-- the text of a place
abbrev pub table_place_text : Options → Option Location → List ℕ
table_place_text o place = location_text_if_any o (option_map lookup_location place)

-- a name, which is one of no known language; "??" where there is none
abbrev pub table_name_text : Options → Option (List ℕ) → List ℕ
table_name_text o None = unknown_text
table_name_text o (Some name) = name_text o None (utf8_lossy name)

abbrev pub table_frame_text : Options → Frame → List ℕ
table_frame_text o f =
    frame_line o (table_name_text o f.function) (option_map lookup_location f.location)

-- a frame after the first
abbrev pub table_caller_text : Options → Frame → List ℕ
table_caller_text o f = inlined_by o ++ table_frame_text o f

-- All frames, or the first alone where calls aren't asked for. Where there is none, a name and a
-- place that aren't known.
abbrev pub table_frames_text : Options → List Frame → List ℕ
table_frames_text o [] = frame_line o unknown_text None
table_frames_text o (f ∷ fs) =
    table_frame_text o f ++ (if o.inlines then flat_map (table_caller_text o) fs else [])

-- ---- addresses

-- the frames of an address, if one is looked up
abbrev pub frames_if_any : List UnitPart → Option ℕ → List Frame
frames_if_any us a = unwrap_or (option_map (frames_at us) a) []

-- what the table says of an address: its frames, or its place where frames aren't asked for
abbrev pub table_found_text : Options → List UnitPart → Option ℕ → List ℕ
table_found_text o us a =
    if asks_frames o then table_frames_text o (frames_if_any us a)
    else table_place_text o (option_and_then (location_at us) a) ++ codes "\n"

-- with the address before it, which is 0 if it can't be read; in the form of `llvm-symbolizer` an
-- empty line follows. In a section the address counts from the section's begin.
abbrev pub table_answer_text : Options → List UnitPart → Option Range → Option ℕ → List ℕ
table_answer_text o us section a =
    address_text o (unwrap_or a 0)
    ++ (table_found_text o us (looked_up section a) ++ (if o.llvm then codes "\n" else []))

-- the text of addresses, one after the other
abbrev pub table_text : Options → List UnitPart → Option Range → List (Option ℕ) → List ℕ
table_text o us section addresses = flat_map (table_answer_text o us section) addresses

-- ---- all addresses

-- the addresses where a stretch of the table begins, in ascending order
abbrev pub table_addresses : List UnitPart → List ℕ
table_addresses us =
    ascending_after None (map (λ s. s.address) (stretches_between us 0 (2 ^ 64 - 1)))

-- those, if all addresses are asked for
abbrev pub all_addresses : Options → List UnitPart → Option (List ℕ)
all_addresses o us = if o.all then Some (table_addresses us) else None
