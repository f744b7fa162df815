-- The ranges that a unit covers (DWARF 5, 2.17, 3.1.1 and 6.1.2).
use Rattle.std.specs.Prelude.{ℕ, ◌+◌, ◌^◌, ◌%◌, ◌==◌, ◌||◌, Bool, true, false, nat_lt, List, [], ◌∷◌, map, filter, flat_map, Option, Some, None, Result, Ok, Err, if◌then◌else◌}
use Rattle.std.specs.List.{filter_map, last_or}
use Rattle.gimli_lines_machine.specs.Error.{Error}
use Rattle.gimli_lines_machine.specs.TheConstants.{DW_AT_high_pc, DW_AT_ranges, DW_AT_language, DW_TAG_partial_unit}
use Rattle.gimli_lines_machine.specs.Range.{Range}
use Rattle.gimli_dwarf_spec.specs.AttributeMeanings.{value_under}
use Rattle.gimli_dwarf_spec.specs.AttributeValues.{RawValue, RawAttribute, address, address_index, unsigned_data, language}
use Rattle.gimli_dwarf_spec.specs.ArangeSets.{ArangeSet, ArangePair, sets_of, pairs_of, aranges_to_come, pair_end}
use Rattle.gimli_dwarf_spec.specs.UnitHeaders.{UnitKind, partial}
use Rattle.gimli_lines_machine.specs.Results.{and_then, each, ◌>>=◌}
use Rattle.gimli_dwarf_spec.specs.Attributes.{indexed_address, attr_ranges_offset, ranges_of_list}
use Rattle.gimli_dwarf_spec.specs.DwarfFiles.{DwarfFile}
use Rattle.gimli_dwarf_spec.specs.UnitFacts.{UnitInFile, is_low_pc, last_value_of_kind}
use Rattle.addr2line_spec.specs.Lines.{Lines, range_of}

-- ---- what the root says

-- what an attribute says of ranges
pub data RangeFact : Type 0 where
  begins_at : (address : ℕ) → RangeFact
  ends_at : (address : ℕ) → RangeFact
  has_size : (size : ℕ) → RangeFact
  has_list : (offset : Option ℕ) → RangeFact
  no_fact : RangeFact

-- ---- names (DWARF 5, 7.5.4)

abbrev pub is_high_pc : ℕ → Bool
is_high_pc n = n == DW_AT_high_pc.0

abbrev pub is_ranges : ℕ → Bool
is_ranges n = n == DW_AT_ranges.0

abbrev pub is_language : ℕ → Bool
is_language n = n == DW_AT_language.0

abbrev pub low_pc_fact : UnitInFile → RawValue → Result RangeFact Error
low_pc_fact u (address a) = Ok (begins_at a)
low_pc_fact u (address_index i) =
    and_then (indexed_address u.file u.facts.bases i) (λ a. Ok (begins_at a))
low_pc_fact u _ = Ok no_fact

-- an address, or a size
abbrev pub high_pc_fact : UnitInFile → RawValue → Result RangeFact Error
high_pc_fact u (address a) = Ok (ends_at a)
high_pc_fact u (address_index i) =
    and_then (indexed_address u.file u.facts.bases i) (λ a. Ok (ends_at a))
high_pc_fact u (unsigned_data n) = Ok (has_size n)
high_pc_fact u _ = Ok no_fact

abbrev pub ranges_fact : UnitInFile → RawValue → Result RangeFact Error
ranges_fact u v = and_then (attr_ranges_offset u.file u.facts.bases v) (λ o. Ok (has_list o))

abbrev pub fact_under : UnitInFile → ℕ → RawValue → Result RangeFact Error
fact_under u name v =
    if is_low_pc name then low_pc_fact u v
    else (if is_high_pc name then high_pc_fact u v
    else (if is_ranges name then ranges_fact u v
    else Ok no_fact))

abbrev pub fact_of : UnitInFile → RawAttribute → Result RangeFact Error
fact_of u a = fact_under u a.name (value_under a.name a.value)

abbrev pub begin_in : RangeFact → Option ℕ
begin_in (begins_at a) = Some a
begin_in _ = None

abbrev pub end_in : RangeFact → Option ℕ
end_in (ends_at a) = Some a
end_in _ = None

abbrev pub size_in : RangeFact → Option ℕ
size_in (has_size n) = Some n
size_in _ = None

abbrev pub list_in : RangeFact → Option (Option ℕ)
list_in (has_list o) = Some o
list_in _ = None

-- the last of a kind
abbrev pub last_of : {A : Type 0} → (RangeFact → Option A) → List RangeFact → Option A
last_of kind facts = last_or None (filter_map kind facts)

-- ---- from attributes alone

abbrev pub range_if_nonempty : ℕ → ℕ → List Range
range_if_nonempty begin end =
    if nat_lt begin end then record { begin = begin; end = end } ∷ [] else []

-- from low_pc to high_pc, or of a size, modulo 2 ^ 64, if it begins before it ends
abbrev pub low_to_high : Option ℕ → Option ℕ → Option ℕ → List Range
low_to_high None end size = []
low_to_high (Some begin) (Some end) size = range_if_nonempty begin end
low_to_high (Some begin) None (Some size) = range_if_nonempty begin ((begin + size) % 2 ^ 64)
low_to_high (Some begin) None None = []

abbrev pub range_of_root : List RangeFact → List Range
range_of_root facts =
    low_to_high (last_of begin_in facts) (last_of end_in facts) (last_of size_in facts)

-- ---- from `.debug_aranges`

-- the range of an entry; none where it is empty or refused
abbrev pub range_of_arange : Result ArangePair Error → Option Range
range_of_arange (Ok p) =
    if p.length == 0 then None else Some (record { begin = p.address; end = pair_end p })
range_of_arange (Err e) = None

-- those of all sets of a unit
abbrev pub ranges_of_aranges : DwarfFile → ℕ → List Range
ranges_of_aranges file offset =
    flat_map (λ set. filter_map range_of_arange (aranges_to_come (pairs_of set)))
    (filter (λ (set : ArangeSet). set.info_offset == offset)
    (sets_of file.offset_limit file.sections.debug_aranges))

-- ---- all together

-- the first list, or the second if that is empty
abbrev pub or_else : List Range → List Range → List Range
or_else [] others = others
or_else (r ∷ rs) others = r ∷ rs

-- a unit's range list; where it has none its address ranges, and where they are none what low_pc
-- and high_pc say
abbrev pub declared_ranges : UnitInFile → List RangeFact → Option (Option ℕ)
    → Result (List Range) Error
declared_ranges u facts (Some (Some offset)) =
    and_then (ranges_of_list u.file u.facts.bases offset) (λ rs.
    each (λ (r : Result Range Error). r) rs)
declared_ranges u facts _ =
    Ok (or_else (ranges_of_aranges u.file u.facts.header.offset) (range_of_root facts))

-- the ranges of the sequences; none where the lines are refused
abbrev pub ranges_of_lines : Result Lines Error → List Range
ranges_of_lines (Ok l) = map range_of l.sequences
ranges_of_lines (Err e) = []

-- the ranges of a unit whose root has these attributes: those declared, and where they are none
-- those of its lines
abbrev pub ranges_of_attributes : UnitInFile → Result Lines Error → List RawAttribute
    → Result (List Range) Error
ranges_of_attributes u lines attributes = do
  facts ← each (fact_of u) attributes
  rs ← declared_ranges u facts (last_of list_in facts)
  Ok (or_else rs (ranges_of_lines lines))

-- ---- partial units

abbrev pub is_partial_kind : UnitKind → Bool
is_partial_kind partial = true
is_partial_kind _ = false

-- A partial unit is one that others import, and has no ranges of its own (DWARF 5, 3.1.1). Its
-- header's type says so, and so does its root's tag, which alone does before version 5.
abbrev pub is_partial : UnitKind → ℕ → Bool
is_partial kind tag = is_partial_kind kind || tag == DW_TAG_partial_unit.0

-- ---- the language

-- the language of a root
abbrev pub language_of : RawValue → Option ℕ
language_of (language n) = Some n
language_of _ = None

abbrev pub language_in : List RawAttribute → Option ℕ
language_in attributes = last_value_of_kind language_of is_language attributes
