-- What a file's bytes make: the image of an ELF file, its symbols, and the context over its
-- sections of debugging information; or why they are refused.
use Rattle.std.specs.Prelude.{ℕ, List, length, Option, Some, None, Result, Ok, Err}
use Rattle.addr2line_context.specs.Contexts.{FileContext, file_context}
use Rattle.addr2line_context.specs.DwarfFiles.{DwarfFile}
use Rattle.addr2line_context.specs.Error.{Error}
use Rattle.addr2line_context.specs.FirstAnswers.{FirstAnswers, no_answers}
use Rattle.addr2line_context.specs.Results.{and_then, ◌>>=◌}
use Rattle.addr2line_split.specs.ElfImages.{Image, image_of}
use Rattle.addr2line_split.specs.ElfSymbols.{NamedSymbol, symbols_of}
use Rattle.addr2line_split.specs.ImageFiles.{main_file}
use Rattle.addr2line_split.specs.LoadErrors.{load_error_of}
use Rattle.addr2line_split.specs.LoadError.{LoadError}
use Rattle.addr2line_split.specs.Range.{Range}
use Rattle.addr2line_split.specs.SectionLoading.{with_supplement}

-- An ELF file that is loaded: its symbols, its sections of debugging information, the context over
-- them, and the first answers to the loads of its split units so far.
pub record LoadedFile : Type 0 where
  pub image : Image
  pub symbols : List NamedSymbol
  pub sections : DwarfFile
  pub context : FileContext
  pub answers : FirstAnswers

-- ---- sections

-- a file with the sections of a supplement, which is an ELF file too (DWARF 5, 7.3.6)
abbrev pub with_supplement_in : List ℕ → DwarfFile → Result DwarfFile LoadError
with_supplement_in bytes file = do
  image ← image_of bytes
  supplement ← main_file image
  Ok (with_supplement supplement file)

-- if there is one
abbrev pub with_supplement_if_any : Option (List ℕ) → DwarfFile → Result DwarfFile LoadError
with_supplement_if_any None file = Ok file
with_supplement_if_any (Some bytes) file = with_supplement_in bytes file

-- ---- files

-- an error of the debugging information as one of loading
abbrev pub or_load_error : {A : Type 0} → Result A Error → Result A LoadError
or_load_error (Ok x) = Ok x
or_load_error (Err e) = Err (load_error_of e)

-- a file's sections, and the context over them
pub record SharedContext : Type 0 where
  pub sections : DwarfFile
  pub context : FileContext

-- the context over sections, which keeps them
abbrev pub shared_context : DwarfFile → Result SharedContext LoadError
shared_context sections = do
  context ← or_load_error (file_context sections)
  Ok (record { sections = sections; context = context })

-- the symbols of an image, and the context over its sections
pub record ImageParts : Type 0 where
  pub symbols : List NamedSymbol
  pub debug : SharedContext

-- Those of an image whose sections are read. Refused by the symbols, by the supplement if there is
-- one, or by the debugging information, in this order.
abbrev pub parts_with : Image → DwarfFile → Option (List ℕ) → Result ImageParts LoadError
parts_with image main supplement = do
  symbols ← symbols_of image
  debug ← and_then (with_supplement_if_any supplement main) shared_context
  Ok (record { symbols = symbols; debug = debug })

-- those of an image, or, before all else, the first refusal of a section
abbrev pub parts_of : Image → Option (List ℕ) → Result ImageParts LoadError
parts_of image supplement = do
  main ← main_file image
  parts_with image main supplement

-- before all lookups
abbrev pub file_of_parts : Image → ImageParts → LoadedFile
file_of_parts image parts = record {
  image = image;
  symbols = parts.symbols;
  sections = parts.debug.sections;
  context = parts.debug.context;
  answers = no_answers (length parts.debug.context.context.units);
}

-- the file of some bytes, with a supplement if there is one; or why it is refused
abbrev pub loaded_file : List ℕ → Option (List ℕ) → Result LoadedFile LoadError
loaded_file bytes supplement = do
  image ← image_of bytes
  parts ← parts_of image supplement
  Ok (file_of_parts image parts)

-- ---- what is asked of a file

-- addresses from the first up to, and without, the second
abbrev pub range_of : ℕ × ℕ → Range
range_of ends = record { begin = ends.0; end = ends.1 }

abbrev pub symbol_name : NamedSymbol → List ℕ
symbol_name s = s.name
