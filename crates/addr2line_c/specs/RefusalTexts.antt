-- The texts of the numbers that calls return.
use Rattle.std.specs.Prelude.{ℕ, ◌-◌, ℤ, pos, negsuc, nat_le, List, [], ◌∷◌, drop, slice_get, Option, Some, None, codes, if◌then◌else◌}

-- ---- letters and numbers

-- of the numbers from 1 on
abbrev pub call_codes : List (List ℕ)
call_codes =
    codes "C1" ∷ codes "C2" ∷ codes "C3" ∷ codes "C4" ∷ codes "C5" ∷ codes "C6" ∷ codes "C7" ∷
    codes "C8" ∷ []

-- from 101 on: why debugging information can't be read
abbrev pub error_codes : List (List ℕ)
error_codes =
    codes "E1" ∷ codes "E2" ∷ codes "E3" ∷ codes "E4" ∷ codes "E5" ∷ codes "E6" ∷ codes "E7" ∷
    codes "E8" ∷ codes "E9" ∷ codes "E10" ∷ codes "E11" ∷ codes "E12" ∷ codes "E13" ∷
    codes "E14" ∷ codes "E15" ∷ codes "E16" ∷ codes "E17" ∷ codes "E18" ∷ codes "E19" ∷
    codes "E20" ∷ codes "E21" ∷ codes "E22" ∷ codes "E23" ∷ codes "E24" ∷ codes "E25" ∷
    codes "E26" ∷ codes "E27" ∷ codes "E28" ∷ codes "E29" ∷ codes "E30" ∷ codes "E31" ∷
    codes "E32" ∷ codes "E33" ∷ []

-- from 201 on: why a file isn't opened
abbrev pub load_codes : List (List ℕ)
load_codes =
    codes "L1" ∷ codes "L2" ∷ codes "L3" ∷ codes "L4" ∷ codes "L5" ∷ codes "L6" ∷ codes "L7" ∷ []

-- from 302 on: why the debugging information of a file that isn't opened can't be read
abbrev pub dwarf_codes : List (List ℕ)
dwarf_codes =
    codes "L8 E2" ∷ codes "L8 E3" ∷ codes "L8 E4" ∷ codes "L8 E5" ∷ codes "L8 E6" ∷
    codes "L8 E7" ∷ codes "L8 E8" ∷ codes "L8 E9" ∷ codes "L8 E10" ∷ codes "L8 E11" ∷
    codes "L8 E12" ∷ codes "L8 E13" ∷ codes "L8 E14" ∷ codes "L8 E15" ∷ codes "L8 E16" ∷
    codes "L8 E17" ∷ codes "L8 E18" ∷ codes "L8 E19" ∷ codes "L8 E20" ∷ codes "L8 E21" ∷
    codes "L8 E22" ∷ codes "L8 E23" ∷ codes "L8 E24" ∷ codes "L8 E25" ∷ codes "L8 E26" ∷
    codes "L8 E27" ∷ codes "L8 E28" ∷ codes "L8 E29" ∷ codes "L8 E30" ∷ codes "L8 E31" ∷
    codes "L8 E32" ∷ codes "L8 E33" ∷ []

-- from 401 on: why the compressed sections of a file that isn't opened can't be decompressed
abbrev pub decompress_codes : List (List ℕ)
decompress_codes =
    codes "Z1" ∷ codes "Z2" ∷ codes "Z3" ∷ codes "Z4" ∷ codes "Z5" ∷ codes "Z6" ∷ codes "Z7" ∷
    codes "Z8" ∷ codes "Z9" ∷ codes "Z10" ∷ codes "Z11" ∷ codes "Z12" ∷ []

-- ---- sentences, of the same

abbrev pub call_sentences : List (List ℕ)
call_sentences =
    codes "there is no such location, symbol or section" ∷
    codes "the number is past the last, or no stretch is left" ∷
    codes "there is no room for results" ∷ codes "the loader is closed" ∷
    codes "the loader is neither open nor closed" ∷ codes "the loader is already open" ∷
    codes "the bytes are not the split file of this unit" ∷ codes "there is no such flag" ∷ []

abbrev pub error_sentences : List (List ℕ)
error_sentences =
    codes "out of memory" ∷ codes "the bytes end before a value does" ∷
    codes "an unsigned LEB128 number is too long or too large" ∷
    codes "a signed LEB128 number is too long or too large" ∷
    codes "a length is one of those that the standard reserves" ∷
    codes "an offset is larger than the reader's offsets can be" ∷
    codes "the size of an address is not 1, 2, 4 or 8" ∷ codes "an abbreviation has the tag 0" ∷
    codes "an attribute has the name 0 and a form" ∷
    codes "an attribute has a name and the form 0" ∷ codes "a children byte is neither 0 nor 1" ∷
    codes "an abbreviation code occurs twice in its table" ∷
    codes "an entry has a code that its unit's abbreviation table lacks" ∷
    codes "a form can't be read" ∷
    codes "an implicit constant is reached through an indirect form" ∷
    codes "a version is not one of those that are read" ∷
    codes "a unit has a type that the standard does not number" ∷
    codes "the size of a segment selector is not 0" ∷
    codes "an offset is outside the entries of its unit" ∷
    codes "an offset is not that of an entry" ∷ codes "a unit has no root entry" ∷
    codes "an address is too large for the address size" ∷
    codes "a range list has an entry that the standard does not number" ∷
    codes "a location list has an entry that the standard does not number" ∷
    codes "the minimum instruction length of a line program is 0" ∷
    codes "the operations per instruction of a line program are 0" ∷
    codes "the line range of a line program is 0" ∷
    codes "the opcode base of a line program is 0" ∷
    codes "a directory or file format does not have exactly one path" ∷
    codes "the value of an attribute is not a text" ∷ codes "a text is not UTF-8" ∷
    codes "a sum of offsets does not fit 64 bits" ∷ codes "there is no unit of this number" ∷ []

abbrev pub load_sentences : List (List ℕ)
load_sentences =
    codes "out of memory" ∷ codes "the file can't be read" ∷
    codes "the bytes do not begin as those of an ELF file do" ∷
    codes "the class, the byte order or the header size of the ELF file is not supported" ∷
    codes "the file ends before a header, a section or a table does" ∷
    codes "a section of debugging information is compressed" ∷
    codes "a linker has yet to fill in the addresses of a section of debugging information" ∷ []

abbrev pub decompress_sentences : List (List ℕ)
decompress_sentences =
    codes "the section headers overlap the file's header" ∷
    codes "a section overlaps the section headers" ∷
    codes "the file ends before a section does" ∷
    codes "a section holds names and is compressed" ∷
    codes "a section ends in its compression header" ∷
    codes
    "a section is compressed by zstd; run objcopy --decompress-debug-sections on the file first" ∷
    codes "a section has an unknown compression type" ∷
    codes "a section is too small for the size that it claims" ∷
    codes "a section has an invalid stream" ∷
    codes "the decompressed image is too large for its ELF class" ∷
    codes "a section holds more than the names of sections, which change" ∷
    codes "the name of a section doesn't end" ∷ []

-- ---- the text of a number

-- that of the number n, among texts of the numbers from one on
abbrev pub text_from : ℕ → List (List ℕ) → ℕ → Option (List ℕ)
text_from first texts n = if nat_le first n then slice_get texts (n - first) else None

-- the first of two that there is
abbrev pub or_else : {A : Type 0} → Option A → Option A → Option A
or_else (Some x) other = Some x
or_else None other = other

-- two, if there are both
abbrev pub both : {A B : Type 0} → Option A → Option B → Option (A × B)
both None other = None
both (Some x) None = None
both (Some x) (Some y) = Some (x, y)

-- the letter and number
abbrev pub code_text : ℕ → Option (List ℕ)
code_text n =
    or_else (text_from 1 call_codes n) (or_else (text_from 101 error_codes n)
    (or_else (text_from 201 load_codes n) (or_else (text_from 302 dwarf_codes n)
    (text_from 401 decompress_codes n))))

-- the sentence
abbrev pub sentence_text : ℕ → Option (List ℕ)
sentence_text n =
    or_else (text_from 1 call_sentences n) (or_else (text_from 101 error_sentences n)
    (or_else (text_from 201 load_sentences n) (or_else (text_from 302 (drop 1 error_sentences) n)
    (text_from 401 decompress_sentences n))))

-- the letter and number, and the sentence
abbrev pub texts : ℕ → Option (List ℕ × List ℕ)
texts n = both (code_text n) (sentence_text n)

-- what a number stands for; one below 0 stands for nothing
abbrev pub of_number : {A : Type 0} → (ℕ → Option A) → ℤ → Option A
of_number text (pos n) = text n
of_number text (negsuc n) = None

-- the letter and number of what a call returned, if it has one
abbrev pub code_of : ℤ → Option (List ℕ)
code_of number = of_number code_text number

-- its sentence
abbrev pub sentence_of : ℤ → Option (List ℕ)
sentence_of number = of_number sentence_text number

-- both of them
abbrev pub texts_of : ℤ → Option (List ℕ × List ℕ)
texts_of number = of_number texts number
