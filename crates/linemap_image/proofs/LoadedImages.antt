-- An image that holds a table's sections is loaded, and answers the table.
use Rattle.std.proofs.Common.{◌≡◌, ℕ, Bool, true, false, cond, List, [], ◌∷◌, map, length, None, Result, Ok, refl, sym, ap, subst, ◌∙◌, arith}
use Rattle.std.specs.Prelude.{nat_le}
use Rattle.gimli_core_base.specs.View.{View, prefix, bytes_left}
use Rattle.gimli_core_base.specs.declared.common.Encoding.{Encoding}
use Rattle.gimli_core_base.specs.declared.common.SectionId.{SectionId}
use Rattle.gimli_core_base.specs.declared.common.SectionId.TheVariants.{DebugAbbrev, DebugAranges, DebugInfo, DebugLine, DebugLineStr, DebugRanges, DebugRngLists, DebugStr}
use Rattle.gimli_core_base.specs.SectionNames.{name_of}
use Rattle.addr2line_loader.specs.Contexts.{Context, FileContext, file_context}
use Rattle.addr2line_loader.specs.DwarfFiles.{DwarfFile}
use Rattle.addr2line_loader.specs.Error.{Error}
use Rattle.addr2line_loader.specs.Results.{and_then, each, ◌>>=◌}
use Rattle.addr2line_loader.specs.LoadError.{LoadError}
use Rattle.addr2line_loader.specs.ElfImages.{Image, section_named}
use Rattle.addr2line_loader.specs.ElfSymbols.{NamedSymbol}
use Rattle.addr2line_loader.specs.ElfDebugSections.{is_read, main_section}
use Rattle.addr2line_loader.specs.ImageFiles.{offset_limit, bytes_or_none, main_file}
use Rattle.addr2line_loader.specs.SectionLoading.{load_order}
use Rattle.addr2line_loader.specs.SectionLoading as sections
use Rattle.addr2line_loader.specs.LoadedFiles.{or_load_error, SharedContext, ImageParts, parts_with, parts_of, file_of_parts, loaded_file}
use Rattle.linemap_elf.specs.SpelledImages.{NamedBytes, all_sections}
use Rattle.linemap_elf.specs.ImageLaws.{bytes_named, HoldsSections}
use Rattle.linemap_emit.specs.BytesAt.{bytes_at}
use Rattle.linemap_emit.specs.EmittedSections.{SectionBytes, HoldBytes}
use Rattle.linemap_emit.specs.RecordedTableLaws.{AnswersTable}
use Rattle.linemap_emit.specs.SectionAnswers.{AreAnswers}
use Rattle.linemap_emit.specs.TableParts.{UnitPart}
use Rattle.linemap_image.specs.TableImages.{section_of, section_ids, image_sections}
use Rattle.linemap_image.specs.ImageAnswers.{FileAnswers}

-- what is emitted up to version 4 has no lists of version 5, and the other way round
pub record IsOfVersion (version : ℕ) (bytes : SectionBytes) : Type 0 where
  pub no_lists : nat_le version 4 ≡ true → bytes.debug_rnglists ≡ []
  pub no_ranges : nat_le version 4 ≡ false → bytes.debug_ranges ≡ []
  pub no_line_texts : nat_le version 4 ≡ true → bytes.debug_line_str ≡ []

-- ---- sections by name

-- the sections up to version 4, or those of version 5
abbrev pub sections_by : SectionBytes → Bool → List NamedBytes
sections_by bytes b =
    map (section_of bytes)
    (cond b (DebugAbbrev ∷ DebugInfo ∷ DebugLine ∷ DebugRanges ∷ DebugStr ∷ [])
    (DebugAbbrev ∷ DebugInfo ∷ DebugLine ∷ DebugLineStr ∷ DebugRngLists ∷ DebugStr ∷ []))

abbrev section_bytes : SectionBytes → SectionId → Bool → List ℕ
section_bytes bytes id b = bytes_named (name_of id) (all_sections (sections_by bytes b))

abbrev_found : (bytes : SectionBytes) (b : Bool) → section_bytes bytes DebugAbbrev b ≡ bytes.debug_abbrev
abbrev_found bytes true = refl
abbrev_found bytes false = refl

info_found : (bytes : SectionBytes) (b : Bool) → section_bytes bytes DebugInfo b ≡ bytes.debug_info
info_found bytes true = refl
info_found bytes false = refl

line_found : (bytes : SectionBytes) (b : Bool) → section_bytes bytes DebugLine b ≡ bytes.debug_line
line_found bytes true = refl
line_found bytes false = refl

str_found : (bytes : SectionBytes) (b : Bool) → section_bytes bytes DebugStr b ≡ bytes.debug_str
str_found bytes true = refl
str_found bytes false = refl

aranges_found : (bytes : SectionBytes) (b : Bool) → section_bytes bytes DebugAranges b ≡ []
aranges_found bytes true = refl
aranges_found bytes false = refl

ranges_found : (bytes : SectionBytes) (b : Bool) → (b ≡ false → bytes.debug_ranges ≡ [])
    → section_bytes bytes DebugRanges b ≡ bytes.debug_ranges
ranges_found bytes true none = refl
ranges_found bytes false none = sym (none refl)

lists_found : (bytes : SectionBytes) (b : Bool) → (b ≡ true → bytes.debug_rnglists ≡ [])
    → section_bytes bytes DebugRngLists b ≡ bytes.debug_rnglists
lists_found bytes true none = sym (none refl)
lists_found bytes false none = refl

line_str_found : (bytes : SectionBytes) (b : Bool) → (b ≡ true → bytes.debug_line_str ≡ [])
    → section_bytes bytes DebugLineStr b ≡ bytes.debug_line_str
line_str_found bytes true none = sym (none refl)
line_str_found bytes false none = refl

-- an image's sections are these
pub of_image : (e : Encoding) (bytes : SectionBytes)
    → image_sections e bytes ≡ sections_by bytes (nat_le e.version 4)
unfolding section_ids
of_image e bytes = refl

-- ---- the file of an image's sections

-- the section of a name, or none
abbrev named_or_none : Image → List ℕ → Bool → Result View LoadError
named_or_none image name b = cond b (section_named name image) (Ok (prefix 0 image.file))

is_ok : (image : Image) (name : List ℕ) (b : Bool) → (v : View) × (section_named name image ≡ Ok v)
    → named_or_none image name b ≡ Ok (bytes_or_none (named_or_none image name b))
is_ok image name true is = is.1 ∙ ap (λ (r : Result View LoadError). Ok (bytes_or_none r)) (sym is.1)
is_ok image name false is = refl

module _ (image : Image) where
  -- a section's bytes
  abbrev view_of : SectionId → View
  view_of id = bytes_or_none (main_section id image)

  -- each section is read that has a name
  section_ok : ((name : List ℕ) → (v : View) × (section_named name image ≡ Ok v)) → (id : SectionId)
      → main_section id image ≡ Ok (view_of id)
  section_ok each_named id = is_ok image (name_of id) (is_read id) (each_named (name_of id))

  each_ok : ((id : SectionId) → main_section id image ≡ Ok (view_of id)) → (ids : List SectionId)
      → each (λ id. main_section id image) ids ≡ Ok (map view_of ids)
  each_ok ok [] = refl
  each_ok ok (id ∷ ids) =
      ap (λ (r : Result View LoadError).
      and_then r (λ y. and_then (each (λ i. main_section i image) ids) (λ ys. Ok (y ∷ ys)))) (ok id)
      ∙ ap (λ (r : Result (List View) LoadError). and_then r (λ ys. Ok (view_of id ∷ ys))) (each_ok ok ids)

-- ---- what is loaded

module _ (e : Encoding) (is_big : Bool) (bytes : SectionBytes) (file : List ℕ) (us : List UnitPart)
    (version : IsOfVersion e.version bytes)
    (held : HoldsSections is_big (all_sections (sections_by bytes (nat_le e.version 4))) file)
    (answers : AreAnswers is_big bytes us) where
  abbrev image : Image
  image = held.image

  -- the file of the image's sections
  abbrev dwarf : DwarfFile
  dwarf = sections.loaded_file offset_limit (view_of image)

  abbrev old : Bool
  old = nat_le e.version 4

  holds_bytes : HoldBytes is_big bytes dwarf
  holds_bytes =
      let abbrev_ = held.each (name_of DebugAbbrev) in
      let info = held.each (name_of DebugInfo) in
      let line = held.each (name_of DebugLine) in
      let line_str = held.each (name_of DebugLineStr) in
      let ranges = held.each (name_of DebugRanges) in
      let lists = held.each (name_of DebugRngLists) in
      let str = held.each (name_of DebugStr) in
      let aranges = held.each (name_of DebugAranges) in
      record {
        abbrev_first = abbrev_.first;
        info_first = info.first;
        line_first = line.first;
        line_str_first = line_str.first;
        ranges_first = ranges.first;
        rnglists_first = lists.first;
        str_first = str.first;
        abbrev_is = ap bytes_or_none abbrev_.section_is
            ∙ ap (λ (xs : List ℕ). bytes_at is_big abbrev_.first xs) (abbrev_found bytes old);
        info_is = ap bytes_or_none info.section_is
            ∙ ap (λ (xs : List ℕ). bytes_at is_big info.first xs) (info_found bytes old);
        line_is = ap bytes_or_none line.section_is
            ∙ ap (λ (xs : List ℕ). bytes_at is_big line.first xs) (line_found bytes old);
        line_str_is = ap bytes_or_none line_str.section_is
            ∙ ap (λ (xs : List ℕ). bytes_at is_big line_str.first xs)
            (line_str_found bytes old version.no_line_texts);
        ranges_is = ap bytes_or_none ranges.section_is
            ∙ ap (λ (xs : List ℕ). bytes_at is_big ranges.first xs) (ranges_found bytes old version.no_ranges);
        rnglists_is = ap bytes_or_none lists.section_is
            ∙ ap (λ (xs : List ℕ). bytes_at is_big lists.first xs) (lists_found bytes old version.no_lists);
        str_is = ap bytes_or_none str.section_is
            ∙ ap (λ (xs : List ℕ). bytes_at is_big str.first xs) (str_found bytes old);
        no_aranges = ap (λ (r : Result View LoadError). bytes_left (bytes_or_none r)) aranges.section_is
            ∙ ap (λ (xs : List ℕ). length xs) (aranges_found bytes old);
        is_main = refl;
        is_alone = refl;
      }

  table_answers : AnswersTable dwarf us
  table_answers = answers dwarf (omega arith) holds_bytes

  abbrev dwarf_context : FileContext
  dwarf_context = record { file = dwarf; context = table_answers.found }

  -- the sections, and a context over them
  abbrev shared : FileContext → SharedContext
  shared c = record { sections = dwarf; context = c }

  abbrev parts : ImageParts
  parts = record { symbols = []; debug = shared dwarf_context }

  main_is : main_file image ≡ Ok dwarf
  main_is =
      ap (λ (r : Result (List View) LoadError). r >>= λ all. Ok dwarf)
      (each_ok image
      (section_ok image (λ name. let has = held.each name in (bytes_at is_big has.first _, has.section_is)))
      load_order)

  parts_are : parts_of image None ≡ Ok parts
  parts_are =
      ap (λ (r : Result DwarfFile LoadError). r >>= λ main. parts_with image main None) main_is
      ∙ ap (λ (r : Result (List NamedSymbol) LoadError). r >>= λ symbols.
      (or_load_error (file_context dwarf) >>= λ c. Ok (shared c))
      >>= λ d. Ok (record { symbols = symbols; debug = d })) held.no_symbols
      ∙ ap (λ (r : Result Context Error).
      (or_load_error (r >>= λ c. Ok (record { file = dwarf; context = c })) >>= λ c. Ok (shared c))
      >>= λ d. Ok (record { symbols = []; debug = d })) table_answers.is_context

  loaded_is : loaded_file file None ≡ Ok (file_of_parts image parts)
  loaded_is =
      ap (λ (r : Result Image LoadError). r >>= λ i. parts_of i None >>= λ ps. Ok (file_of_parts i ps)) held.image_is
      ∙ ap (λ (r : Result ImageParts LoadError). r >>= λ ps. Ok (file_of_parts image ps)) parts_are

  answered : FileAnswers file us
  answered = record {
    loaded = file_of_parts image parts;
    is_loaded = loaded_is;
    no_symbols = refl;
    answers = table_answers;
    context_is = refl;
  }

pub file_answers : (e : Encoding) (is_big : Bool) (bytes : SectionBytes) (file : List ℕ) (us : List UnitPart)
    → IsOfVersion e.version bytes → HoldsSections is_big (all_sections (image_sections e bytes)) file
    → AreAnswers is_big bytes us → FileAnswers file us
file_answers e is_big bytes file us version held answers =
    answered e is_big bytes file us version
    (subst (λ (ss : List NamedBytes). HoldsSections is_big (all_sections ss) file) (of_image e bytes) held) answers
