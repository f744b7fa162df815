-- What is loaded depends on an image by its sections of debugging information and its symbols alone.
use Rattle.std.proofs.Common.{◌≡◌, ℕ, List, length, Option, Some, None, Result, Ok, Err, refl, ap, ◌∙◌}
use Rattle.std.proofs.Math.Path.{fun_ext}
use Rattle.addr2line_context.specs.DwarfFiles.{DwarfFile}
use Rattle.addr2line_context.specs.FirstAnswers.{no_answers}
use Rattle.addr2line_context.specs.Results.{and_then}
use Rattle.addr2line_split.specs.ElfDebugSections.{main_section}
use Rattle.addr2line_split.specs.ElfImages.{Image, image_of}
use Rattle.addr2line_split.specs.ElfSymbols.{NamedSymbol, symbols_of}
use Rattle.addr2line_split.specs.ImageFiles.{file_by, main_file}
use Rattle.addr2line_split.specs.LoadedParts.{AlikeImages, AreAlike, LoadsAlike}
use Rattle.addr2line_split.specs.LoadError.{LoadError}
use Rattle.addr2line_split.specs.SectionLoading.{with_supplement}
use Rattle.addr2line_loader.specs.AlikeFiles.{AreAlikeFiles, LoadAlikeIfAny}
use Rattle.addr2line_loader.specs.LoadedFiles.{ImageParts, LoadedFile, SharedContext, file_of_parts, loaded_file, parts_of, shared_context, with_supplement_if_any}

-- ---- sections

main_alike : (a b : Image) → AlikeImages a b → main_file a ≡ main_file b
main_alike a b h = ap file_by (fun_ext {f = λ id. main_section id a} {g = λ id. main_section id b} h.debug)

abbrev supplemented : DwarfFile → DwarfFile → Result DwarfFile LoadError
supplemented file supplement = Ok (with_supplement supplement file)

abbrev supplemented_by : DwarfFile → Image → Result DwarfFile LoadError
supplemented_by file image = and_then (main_file image) (supplemented file)

abbrev refused_file : LoadError → Result DwarfFile LoadError
refused_file e = Err e

supplement_by : (r s : Result Image LoadError) → AreAlike r s → (file : DwarfFile)
    → and_then r (supplemented_by file) ≡ and_then s (supplemented_by file)
supplement_by (Ok a) (Ok b) h file =
    ap (λ (r : Result DwarfFile LoadError). and_then r (supplemented file)) (main_alike a b h)
supplement_by (Ok a) (Err e) h file = absurd h
supplement_by (Err e) (Ok b) h file = absurd h
supplement_by (Err e) (Err d) h file = ap refused_file h

supplement_alike : (a b : Option (List ℕ)) → LoadAlikeIfAny a b → (file : DwarfFile)
    → with_supplement_if_any a file ≡ with_supplement_if_any b file
supplement_alike None None h file = refl
supplement_alike None (Some other) h file = absurd h
supplement_alike (Some bytes) None h file = absurd h
supplement_alike (Some bytes) (Some other) h file = supplement_by (image_of bytes) (image_of other) h file

-- ---- parts

abbrev parts_in : List NamedSymbol → SharedContext → Result ImageParts LoadError
parts_in symbols debug = Ok (record { symbols = symbols; debug = debug })

-- by the symbols, by what adds the supplement, and by the sections
abbrev parts_by : Result (List NamedSymbol) LoadError → (DwarfFile → Result DwarfFile LoadError)
    → Result DwarfFile LoadError → Result ImageParts LoadError
parts_by symbols add main =
    and_then main (λ file.
    and_then symbols (λ found. and_then (and_then (add file) shared_context) (parts_in found)))

parts_alike : (a b : Image) (x y : Option (List ℕ)) → AlikeImages a b → LoadAlikeIfAny x y
    → parts_of a x ≡ parts_of b y
parts_alike a b x y h more =
    ap (parts_by (symbols_of a) (with_supplement_if_any x)) (main_alike a b h)
    ∙ ap (λ (symbols : Result (List NamedSymbol) LoadError).
    parts_by symbols (with_supplement_if_any x) (main_file b)) h.symbols
    ∙ ap (λ (add : DwarfFile → Result DwarfFile LoadError). parts_by (symbols_of b) add (main_file b))
    (fun_ext {f = with_supplement_if_any x} {g = with_supplement_if_any y} (supplement_alike x y more))

-- ---- files

abbrev file_in : Image → ImageParts → Result LoadedFile LoadError
file_in image parts = Ok (file_of_parts image parts)

abbrev file_with : Option (List ℕ) → Image → Result LoadedFile LoadError
file_with supplement image = and_then (parts_of image supplement) (file_in image)

files_with : (a b : Image) → AlikeImages a b → (p q : Result ImageParts LoadError) → p ≡ q
    → AreAlikeFiles (and_then p (file_in a)) (and_then q (file_in b))
files_with a b h (Ok p) (Ok q) same =
    let is : p ≡ q = cc in
    record {
      image = h;
      symbols = ap (λ (parts : ImageParts). parts.symbols) is;
      sections = ap (λ (parts : ImageParts). parts.debug.sections) is;
      context = ap (λ (parts : ImageParts). parts.debug.context) is;
      answers = ap (λ (parts : ImageParts). no_answers (length parts.debug.context.context.units)) is;
    }
files_with a b h (Ok p) (Err e) same = absurd cc
files_with a b h (Err e) (Ok q) same = absurd cc
files_with a b h (Err e) (Err d) same = let is : e ≡ d = cc in is

files_by : (r s : Result Image LoadError) (x y : Option (List ℕ)) → AreAlike r s → LoadAlikeIfAny x y
    → AreAlikeFiles (and_then r (file_with x)) (and_then s (file_with y))
files_by (Ok a) (Ok b) x y h more =
    files_with a b h (parts_of a x) (parts_of b y) (parts_alike a b x y h more)
files_by (Ok a) (Err e) x y h more = absurd h
files_by (Err e) (Ok b) x y h more = absurd h
files_by (Err e) (Err d) x y h more = h

pub loaded_alike : (bytes other : List ℕ) (x y : Option (List ℕ)) → LoadsAlike bytes other → LoadAlikeIfAny x y
    → AreAlikeFiles (loaded_file bytes x) (loaded_file other y)
loaded_alike bytes other x y h more = files_by (image_of bytes) (image_of other) x y h more
