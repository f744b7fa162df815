-- What an error prints: what is wrong, and the index of the section where.
use Rattle.std.specs.Prelude.{ℕ, List, ◌++◌, codes, decimal}
use Rattle.addr2line_elf.specs.LoadErrors.{text_of}
use Rattle.addr2line_inflate.specs.ErrorText.{error_text as stream_error_text}
use Rattle.addr2line_decompress.specs.declared.error.DecompressError.{DecompressError}
use Rattle.addr2line_decompress.specs.declared.error.DecompressError.TheVariants.{Memory, Image, OverlappingHeaders, OverlappingSection, SectionCut, CompressedNames, SharedNames, NameCut, HeaderCut, Zstandard, UnknownCompression, ImpossibleSize, Stream, TooLarge}

-- a section, and what goes on after its index
abbrev pub section_text : ℕ → List ℕ → List ℕ
section_text section rest = codes "section " ++ (decimal section ++ rest)

abbrev pub error_text : DecompressError → List ℕ
error_text Memory = codes "out of memory"
error_text (Image error) = codes "the image can't be loaded (" ++ text_of error ++ codes ")"
error_text OverlappingHeaders = codes "the section headers overlap the file's header"
error_text (OverlappingSection section) =
    section_text section (codes " overlaps the section headers")
error_text (SectionCut section) = section_text section (codes " goes on after the end of the file")
error_text (CompressedNames section) =
    section_text section (codes " holds names and is compressed")
error_text (SharedNames section) =
    section_text section (codes " holds more than the names of sections, which change")
error_text (NameCut section) = section_text section (codes " has a name that doesn't end")
error_text (HeaderCut section) = section_text section (codes " ends in its compression header")
error_text (Zstandard section) =
    section_text section
    (codes " is compressed by zstd; run objcopy --decompress-debug-sections on the file first")
error_text (UnknownCompression section kind) =
    section_text section (codes " has the unknown compression type " ++ decimal kind)
error_text (ImpossibleSize section) =
    section_text section (codes " is too small for the size that it claims")
error_text (Stream section error) =
    section_text section (codes " has an invalid stream: " ++ stream_error_text error)
error_text TooLarge = codes "the decompressed image is too large for its ELF class"
