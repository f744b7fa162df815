-- Whether a file is the one that is named.
use Rattle.std.specs.Prelude.{ℕ, ◌==◌, nat_eq, Bool, false, List, Option, Some, None, option_and_then, if◌then◌else◌}
use Rattle.std.specs.Cmp.Lexicographic.{pointwise}
use Rattle.addr2line_elf.specs.ElfImages.{image_of}
use Rattle.addr2line_debug_files.specs.declared.candidates.Identity.{Identity}
use Rattle.addr2line_debug_files.specs.declared.candidates.Identity.TheVariants.{BuildId, Crc}
use Rattle.addr2line_debug_files.specs.declared.files.NamedFile.{NamedFile}
use Rattle.addr2line_debug_files.specs.Crc32.{crc32}
use Rattle.addr2line_debug_files.specs.DebugLinks.{readable, build_id}

-- the build identifier of a file, if it is an ELF file and has one
abbrev pub build_id_of : List ℕ → Option (List ℕ)
build_id_of bytes = option_and_then build_id (readable (image_of bytes))

abbrev pub is_this : List ℕ → Option (List ℕ) → Bool
is_this identifier None = false
is_this identifier (Some other) = pointwise nat_eq other identifier

-- the file has the identifier, or the CRC-32
abbrev pub is_named : Identity → List ℕ → Bool
is_named (BuildId identifier) bytes = is_this identifier (build_id_of bytes)
is_named (Crc crc) bytes = crc32 bytes == crc

-- the file at a candidate's path, if there is one and it is the one that is named
abbrev pub file_for : Identity → Option NamedFile → Option NamedFile
file_for identity None = None
file_for identity (Some file) = if is_named identity file.bytes then Some file else None
