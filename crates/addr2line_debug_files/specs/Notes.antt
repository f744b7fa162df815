-- Notes (System V ABI, "Note Section"), and the build identifier among them.
use Rattle.std.specs.Prelude.{ℕ, ◌-◌, ◌%◌, ◌==◌, ◌&&◌, nat_eq, Bool, List, length, min, Option, option_map, Ok}
use Rattle.std.specs.List.{find}
use Rattle.std.specs.Cmp.Lexicographic.{pointwise}
use Rattle.gimli_core_readers.specs.View.{View, after, bytes_left}
use Rattle.gimli_core_readers.specs.Parsers.{Parser, ◌>>=◌, give, part, skip}
use Rattle.gimli_core_readers.specs.Repetition.{listing_in, until_end}
use Rattle.gimli_core_readers.specs.NumberParsers.{fixed}
use Rattle.addr2line_debug_files.specs.declared.notes.Note.{Note}
use Rattle.addr2line_debug_files.specs.declared.notes.TheConstants.{NOTE_ALIGNMENT, NT_GNU_BUILD_ID, ELF_NOTE_GNU}

-- how many bytes follow n bytes up to a multiple of the alignment
abbrev pub padding : ℕ → ℕ
padding n = (NOTE_ALIGNMENT - n % NOTE_ALIGNMENT) % NOTE_ALIGNMENT

-- skips n bytes, or what is left if that is less
abbrev pub skip_up_to : ℕ → Parser (Unit {0})
skip_up_to n v = Ok (tt, after (min n (length v.bytes)) v)

-- A note: the sizes of its name and of its descriptor, its type, the name and the descriptor, both
-- padded. The padding may be missing at the end of the section.
unfoldable pub note : Parser Note
note = do
  name_size ← fixed 4
  descriptor_size ← fixed 4
  note_type ← fixed 4
  name ← part name_size
  name_padding ← skip (padding name_size)
  descriptor ← part descriptor_size
  descriptor_padding ← skip_up_to (padding descriptor_size)
  give (record { name = name; note_type = note_type; descriptor = descriptor })

-- the notes of a section, up to the first that the section cuts off
abbrev pub notes_of : View → List Note
notes_of section = (listing_in bytes_left (until_end note) section).items

-- the note has a build identifier as its descriptor
abbrev pub is_build_id : Note → Bool
is_build_id n = n.note_type == NT_GNU_BUILD_ID && pointwise nat_eq n.name.bytes ELF_NOTE_GNU

-- the descriptor of the first note that has a build identifier
abbrev pub first_build_id : View → Option View
first_build_id section = option_map (λ n. n.descriptor) (find is_build_id (notes_of section))
