-- The sections of an ELF file as those of a file of debugging information, or why they are refused.
use Rattle.std.specs.Prelude.{ℕ, ◌^◌, false, [], Result, Ok, Err}
use Rattle.addr2line_unit.specs.View.{View}
use Rattle.addr2line_unit.specs.Results.{each, ◌>>=◌}
use Rattle.gimli_dwarf_spec.specs.SectionId.{SectionId}
use Rattle.addr2line_unit.specs.DwarfFiles.{DwarfFile}
use Rattle.addr2line_unit.specs.SectionLoading.{load_order, loaded_file}
use Rattle.addr2line_elf.specs.declared.error.LoadError.{LoadError}
use Rattle.addr2line_elf.specs.ElfImages.{Image}
use Rattle.addr2line_elf.specs.ElfDebugSections.{main_section, split_section}

-- offsets are numbers of 64 bits
abbrev pub offset_limit : ℕ
offset_limit = 2 ^ 64

-- the bytes of a section; none where it is refused
abbrev pub bytes_or_none : Result View LoadError → View
bytes_or_none (Ok view) = view
bytes_or_none (Err e) = record { bytes = []; is_big = false; first = 0 }

-- the file of some sections, or the first refusal of one, in the order in which they are asked for
abbrev pub file_by : (SectionId → Result View LoadError) → Result DwarfFile LoadError
file_by section = do
  all ← each section load_order
  Ok (loaded_file offset_limit (λ id. bytes_or_none (section id)))

-- an image's sections as those of a main file
abbrev pub main_file : Image → Result DwarfFile LoadError
main_file image = file_by (λ id. main_section id image)

-- and as those of a split file (DWARF 5, 7.3.2)
abbrev pub dwo_file : Image → Result DwarfFile LoadError
dwo_file image = file_by (λ id. split_section id image)
