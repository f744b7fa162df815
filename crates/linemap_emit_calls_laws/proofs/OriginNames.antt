-- The name of a call is found through the reference to its abstract function.
use Rattle.std.proofs.Common.{◌≡◌, ℕ, suc, ◌+◌, Bool, true, List, [], ◌∷◌, ◌++◌, length, Option, Some, None, Result, Ok, sym, ap, subst, ◌∙◌, append_assoc, append-nil}
use Rattle.std.specs.List.{cons_option, last_or}
use Rattle.std.specs.Prelude.{pos}
use Rattle.std.proofs.lemmas.List.Elements.{All-head}
use Rattle.linemap_emit_units.specs.Error.{Error}
use Rattle.linemap_emit_units.specs.View.{View}
use Rattle.linemap_emit_units.specs.Encoding.{Encoding}
use Rattle.linemap_emit_units.specs.FormatSizes.{word_size}
use Rattle.linemap_emit_units.specs.Fixed.{number_bytes}
use Rattle.linemap_emit_units.specs.NumberParsers.{is_address_size}
use Rattle.linemap_emit_units.specs.Spelling.{unsigned_string}
use Rattle.linemap_emit_units.specs.Repetition.{Listing, no_items}
use Rattle.linemap_emit_units.specs.Results.{and_then}
use Rattle.linemap_emit_units.specs.SectionReads.{string_at}
use Rattle.linemap_emit_units.specs.AttributeMeanings.{if_readable}
use Rattle.linemap_emit_units.specs.AttributeValues.{RawAttribute, unit_reference}
use Rattle.linemap_emit_units.specs.Declarations.{Declaration}
use Rattle.linemap_emit_units.specs.UnitHeaders.{DebugUnit, length_including_self}
use Rattle.linemap_emit_units.specs.EntryWalks.{Walk, entry_head, value, read_in_walk}
use Rattle.linemap_emit_units.specs.UnitEntries.{walk_from}
use Rattle.linemap_emit_units.specs.Attributes.{Bases}
use Rattle.linemap_emit_units.specs.DwarfFiles.{DwarfFile}
use Rattle.linemap_emit_units.specs.UnitFacts.{UnitInFile, in_file}
use Rattle.linemap_emit_units.specs.LineHeaders.{LineHeader}
use Rattle.linemap_emit_units.specs.Entry.{Entry}
use Rattle.linemap_emit_units.specs.Entry.TheVariants.{AbstractFunction}
use Rattle.linemap_emit_units.specs.EmittedEntries.{AllFit, attributes_of, declarations, declaration_of, abbreviation_code, strp}
use Rattle.linemap_emit_units.specs.EmittedEntryRows.{walk_at, spelled_entries, place_before}
use Rattle.linemap_emit_units.specs.EmittedEntryLaws.{AllEntriesFit}
use Rattle.linemap_emit_units.specs.EmittedUnits.{unit_for}
use Rattle.linemap_emit_units.specs.BytesAt.{bytes_at}
use Rattle.linemap_emit_units.proofs.EntryRowsRead.{head_again, known_code, small_code}
use Rattle.linemap_emit_units.proofs.EntryListsRead.{walk_to, place_is}
use Rattle.linemap_emit_units.proofs.ValuesRead.{value_again}
use Rattle.linemap_emit_units.proofs.InlinedNameLemmas.{All-right}
use Rattle.addr2line_functions.specs.EntryReferences.{KnownUnits, HoldingUnit}
use Rattle.addr2line_functions.specs.EntryNamings.{EntryNaming, by_name, nameless, name_or_naming, attributes_from, attributes_of as attributes_of_declaration, attributes_at, attribute_and_rest, naming_in, naming_at}
use Rattle.addr2line_functions.specs.FunctionNames.{name_by_reference, name_or_follow}
use Rattle.linemap_emit_calls_laws.specs.RecordedFunctions.{HasOrigin}
use Rattle.linemap_emit_calls_laws.specs.FunctionLaws.{written_facts}

module _ (e : Encoding) (is_big : Bool) (s : DwarfFile) (offset first : ℕ) (all : List Entry) (b : Bases)
    (name directory : Option View) (header : Option LineHeader)
    (is_size : is_address_size e.address_size ≡ true) (fit : AllEntriesFit s.offset_limit e all) where
  abbrev unit : UnitInFile
  unit = in_file s (written_facts e is_big offset first all b name directory header)

  -- the text of an abstract function is its name
  name_there : (h : HoldingUnit) → h.unit ≡ unit → (origin : ℕ) (text : List ℕ) (has : HasOrigin e s all origin text)
      → naming_at (record { holder = h; offset = origin }) ≡ Ok (by_name has.is_name.found)
  unfolding attributes_from value
  name_there h same origin text has =
      ap (λ (u : UnitInFile). and_then (attributes_at u origin) (naming_in h)) same
      ∙ ap (λ (o : ℕ). and_then (and_then (walk_from u (declarations e) (Some o)) heads) (naming_in h)) place
      ∙ ap (λ (r : Result Walk Error). and_then (and_then r heads) (naming_in h))
      (walk_to e is_big offset first all has.before x has.others has.entries_are)
      ∙ ap (λ (bytes : List ℕ). and_then (heads (walk_at e end_offset (pos 0) (bytes_at is_big there bytes)))
      (naming_in h)) regroup
      ∙ ap (λ (r : Result (Option Declaration × Walk) Error). and_then (and_then r (λ r.
      attributes_of_declaration s.offset_limit origin r.0 r.1)) (naming_in h))
      (head_again e end_offset (pos 0) is_big there (abbreviation_code x) (declaration_of e x)
      (values ++ more) (small_code x) (known_code e x))
      ∙ ap (λ (r : Result (RawAttribute × View) Error). and_then
      (Ok (attribute_and_rest (read_in_walk after_head r) no_more)) (naming_in h))
      ((value_again s.offset_limit e is_big (there + length code) 0x03 (strp has.text) is_size here_fit.0).again more)
      ∙ ap (λ (u : UnitInFile). from (string_at has.text u.file.sections.debug_str)) same
      ∙ ap from has.is_name.there
    where
      x : Entry
      x = AbstractFunction has.text

      u : DebugUnit
      u = unit_for e is_big offset first all

      end_offset : ℕ
      end_offset = length_including_self u

      there : ℕ
      there = u.entries.first + length (spelled_entries e is_big has.before)

      code : List ℕ
      code = unsigned_string (abbreviation_code x)

      values : List ℕ
      values = number_bytes is_big (word_size e.format) has.text

      more : List ℕ
      more = spelled_entries e is_big has.others

      regroup : spelled_entries e is_big (x ∷ has.others) ≡ code ++ (values ++ more)
      regroup = append_assoc code (values ++ []) more ∙ ap (λ (l : List ℕ). code ++ (l ++ more)) (append-nil values)

      after_head : Walk
      after_head = walk_at e end_offset (pos 0) (bytes_at is_big (there + length code) (values ++ more))

      heads : Walk → Result (Listing Walk RawAttribute) Error
      heads w = and_then (entry_head w) (λ r. attributes_of_declaration s.offset_limit origin r.0 r.1)

      no_more : Walk → Listing Walk RawAttribute
      no_more w = no_items (Ok w)

      place : origin ≡ place_before e is_big end_offset (x ∷ has.others)
      place = has.place_is is_big
          ∙ place_is e is_big offset first has.before (x ∷ has.others)
          ∙ ap (λ (ys : List Entry). place_before e is_big (length_including_self (unit_for e is_big offset first ys))
          (x ∷ has.others)) (sym has.entries_are)

      here_fit : AllFit s.offset_limit e (attributes_of x)
      here_fit = All-head (λ y. AllFit s.offset_limit e (attributes_of y)) x has.others
          (All-right (λ y. AllFit s.offset_limit e (attributes_of y)) has.before (x ∷ has.others)
          (subst (λ (ys : List Entry). AllEntriesFit s.offset_limit e ys) has.entries_are fit))

      from : Result View Error → Result EntryNaming Error
      from r = Ok (name_or_naming (last_or None (cons_option (if_readable r) [])) nameless)

  -- a reference to it gives that name
  pub origin_name : (known : KnownUnits) (more : ℕ) (h : HoldingUnit) → h.unit ≡ unit → (origin : ℕ) (text : List ℕ)
      (has : HasOrigin e s all origin text)
      → name_by_reference known (suc more) h (unit_reference origin) ≡ Ok (Some has.is_name.found)
  unfolding name_by_reference
  origin_name known more h same origin text has =
      ap (λ r. and_then r (name_or_follow (name_by_reference known more h))) (name_there h same origin text has)
