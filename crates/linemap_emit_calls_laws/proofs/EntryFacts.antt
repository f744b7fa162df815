-- What the entries of functions and calls say, by their attributes.
use Rattle.std.proofs.Common.{◌≡◌, ℕ, ◌<◌, ◌^◌, ◌%◌, ℤ, Bool, cond, List, [], ◌∷◌, map, Option, Some, None, Result, Ok, refl, ap, ◌∙◌}
use Rattle.std.proofs.Math.Nat.{mod-eq_of_lt}
use Rattle.linemap_emit_units.specs.Error.{Error}
use Rattle.linemap_emit_units.specs.View.{View}
use Rattle.linemap_emit_units.specs.DwarfFileType.{DwarfFileType}
use Rattle.linemap_emit_units.specs.DwarfFileType.TheVariants.{Main}
use Rattle.linemap_emit_units.specs.Encoding.{Encoding}
use Rattle.linemap_emit_units.specs.Range.{Range}
use Rattle.linemap_emit_units.specs.ListSections.{offset_from_base}
use Rattle.linemap_emit_units.specs.Results.{and_then, some_of, each}
use Rattle.linemap_emit_units.specs.SectionReads.{string_at}
use Rattle.linemap_emit_units.specs.AttributeMeanings.{if_readable}
use Rattle.linemap_emit_units.specs.AttributeValues.{RawValue, RawAttribute, unit_reference}
use Rattle.linemap_emit_units.specs.Attributes.{Bases, counts_from_base}
use Rattle.linemap_emit_units.specs.DwarfFiles.{DwarfFile}
use Rattle.linemap_emit_units.specs.UnitFacts.{UnitFacts, UnitInFile, in_file}
use Rattle.linemap_emit_units.specs.TableParts.{RangePart}
use Rattle.linemap_emit_units.specs.Entry.{Entry}
use Rattle.linemap_emit_units.specs.Entry.TheVariants.{Function, Call}
use Rattle.linemap_emit_units.specs.EmittedEntries.{attributes_of, raw_attribute_of, attribute_with, sec_offset, udata}
use Rattle.linemap_emit_units.specs.EmittedEntryRows.{row_for}
use Rattle.linemap_emit_units.specs.LookupAgreement.{lookup_range}
use Rattle.linemap_emit_units.specs.UnitRanges.{RangeFact, no_fact, has_list, last_of, list_in}
use Rattle.addr2line_functions.specs.EntryRanges.{ranges_of_facts, ranges_of_entry}
use Rattle.addr2line_functions.specs.InlinedCalls.{Call as FoundCall, CallFacts, Naming, call_facts, call_at, call_file, file_number, name_by}
use Rattle.addr2line_functions.specs.EntryReferences.{HoldingUnit}
use Rattle.addr2line_functions.specs.FunctionNames.{name_with}
use Rattle.linemap_emit_calls_laws.specs.RecordedFunctions.{HasTextAt, HasListAt}

-- all of some ranges, none of which is refused
pub all_there : (rs : List RangePart)
    → each (λ (r : Result Range Error). r) (map (λ r. Ok (lookup_range r)) rs) ≡ Ok (map lookup_range rs)
all_there [] = refl
all_there (r ∷ rs) = ap (λ q. and_then q (λ ys. Ok (lookup_range r ∷ ys))) (all_there rs)

-- the attributes of an entry
abbrev pub raw_attributes : Encoding → Entry → List RawAttribute
raw_attributes e x = map (raw_attribute_of e) (attributes_of x)

-- what an attribute of ranges says
abbrev list_fact : DwarfFile → Bases → DwarfFileType → ℕ → Result RangeFact Error
list_fact s b t range_list =
    and_then (some_of
    (cond (counts_from_base t b.encoding) (offset_from_base s.offset_limit b.rnglists_base range_list)
    (Ok range_list))) (λ o. Ok (has_list o))

module _ (e : Encoding) (s : DwarfFile) (f : UnitFacts) (main : s.sections.file_type ≡ Main)
    (encoding : f.bases.encoding ≡ e) (low : f.bases.low_pc ≡ 0) where
  -- ---- functions

  -- a function has those of its list
  pub function_ranges : (has_children : Bool) (name range_list : ℕ) (rs : List RangePart)
      → HasListAt e s range_list rs
      → ranges_of_entry (in_file s f) (raw_attributes e (Function has_children name range_list))
      ≡ Ok (map lookup_range rs)
  function_ranges has_children name range_list rs list_is =
      ap (λ t. and_then (each (λ (r : Result RangeFact Error). r) (Ok no_fact ∷ list_fact s f.bases t range_list ∷ []))
      (λ facts. ranges_of_facts (in_file s f) facts (last_of list_in facts))) main
      ∙ ap (λ q. and_then q (λ rs. each (λ (r : Result Range Error). r) rs)) (list_is f.bases encoding low)
      ∙ all_there rs

  -- ---- names

  module _ (h : HoldingUnit) (file_is : h.unit ≡ in_file s f) (follow : RawValue → Result (Option View) Error) where
    pub function_name : (has_children : Bool) (name range_list : ℕ) (text : List ℕ) (there : HasTextAt s name text)
        → name_by (name_with h follow) None (raw_attributes e (Function has_children name range_list))
        ≡ Ok (Some there.found)
    function_name has_children name range_list text there =
        let rest : RawAttribute = raw_attribute_of e (attribute_with 0x55 (sec_offset range_list)) in
        let from : Result View Error → Result (Option View) Error =
        λ r. and_then (Ok (if_readable r)) (λ more. name_by (name_with h follow) more (rest ∷ [])) in
        ap (λ (u : UnitInFile). from (string_at name u.file.sections.debug_str)) file_is ∙ ap from there.there

    -- ---- calls

    pub call_read : (depth offset : ℕ) (row_depth : ℤ) (has_children : Bool)
        (origin range_list file number line column : ℕ)
        (rs : List RangePart) (name : View) → follow (unit_reference origin) ≡ Ok (Some name)
        → HasListAt e s range_list rs → file_number f.header.encoding.version file ≡ Some number
        → line < 2 ^ 32 → column < 2 ^ 32
        → call_at (in_file s f) (name_with h follow) depth
        (row_for e offset row_depth (Call has_children origin range_list file line column))
        ≡ Ok (record {
          depth = depth;
          offset = offset;
          ranges = map lookup_range rs;
          name = Some name;
          file = Some number;
          line = line;
          column = column;
        })
    call_read depth offset row_depth has_children origin range_list file number line column rs name named list_is
        file_is'
        line_low column_low =
        ap (λ named. and_then (and_then (and_then named (λ name. Ok (record { name = name; ranges = no_fact ∷ [] })))
        (λ more. call_facts u naming more (second ∷ last))) finish) named
        ∙ ap (λ t. and_then (and_then (and_then (list_fact s f.bases t range_list)
        (λ fact. Ok (record { name = Some name; ranges = no_fact ∷ fact ∷ [] })))
        (λ more. call_facts u naming more last)) finish) main
        ∙ ap (λ q. and_then (and_then q (λ rs. each (λ (r : Result Range Error). r) rs)) (λ rs. Ok (with_ranges rs)))
        (list_is f.bases encoding low)
        ∙ ap (λ q. and_then q (λ rs. Ok (with_ranges rs))) (all_there rs)
        ∙ ap (λ n. Ok (call (map lookup_range rs) n (line % 2 ^ 32) (column % 2 ^ 32))) file_is'
        ∙ ap (λ n. Ok (call (map lookup_range rs) (Some number) n (column % 2 ^ 32))) (mod-eq_of_lt line_low)
        ∙ ap (λ n. Ok (call (map lookup_range rs) (Some number) line n)) (mod-eq_of_lt column_low)
      where
        u : UnitInFile
        u = in_file s f

        naming : Naming
        naming = name_with h follow

        second : RawAttribute
        second = raw_attribute_of e (attribute_with 0x55 (sec_offset range_list))

        last : List RawAttribute
        last = raw_attribute_of e (attribute_with 0x58 (udata file))
            ∷ raw_attribute_of e (attribute_with 0x59 (udata line))
            ∷ raw_attribute_of e (attribute_with 0x57 (udata column)) ∷ []

        attributes : List RawAttribute
        attributes = raw_attributes e (Call has_children origin range_list file line column)

        call : List Range → Option ℕ → ℕ → ℕ → FoundCall
        call ranges file line column = record {
          depth = depth;
          offset = offset;
          ranges = ranges;
          name = Some name;
          file = file;
          line = line;
          column = column;
        }

        with_ranges : List Range → FoundCall
        with_ranges ranges = call ranges (file_number f.header.encoding.version file) (line % 2 ^ 32) (column % 2 ^ 32)

        finish : CallFacts → Result FoundCall Error
        finish facts =
            and_then (ranges_of_facts u facts.ranges (last_of list_in facts.ranges)) (λ rs. Ok (record {
              depth = depth;
              offset = offset;
              ranges = rs;
              name = facts.name;
              file = call_file f.header.encoding.version attributes;
              line = line % 2 ^ 32;
              column = column % 2 ^ 32;
            }))
