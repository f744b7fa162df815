-- All that is emitted of a sound table has no more bytes than the table weighs.
use Rattle.std.proofs.Common.{◌≡◌, ℕ, ◌+◌, ◌*◌, ◌<◌, ◌≤◌, ◌^◌, Bool, true, false, cond, List, [], ◌∷◌, ◌++◌, length, map, flat_map, sum_by, refl, ap, ◌∙◌, arith, suc}
use Rattle.std.specs.Prelude.{nat_le}
use Rattle.std.proofs.lemmas.List.{length-append, length-map}
use Rattle.std.proofs.lemmas.List.Concat.{flat_map-append}
use Rattle.std.proofs.lemmas.List.Elements.{All-nil}
use Rattle.std.proofs.lemmas.List.Sums.{sum_by-cons}
use Rattle.linemap_emit_units.specs.Encoding.{Encoding}
use Rattle.linemap_emit_units.specs.Format.{Format}
use Rattle.linemap_emit_units.specs.Format.TheVariants.{Dwarf32, Dwarf64}
use Rattle.linemap_emit_units.specs.StringSections.{IsText, section_of}
use Rattle.linemap_emit_units.specs.Conditions.{IsSound}
use Rattle.linemap_emit_units.specs.EncodingFits.{fits}
use Rattle.linemap_emit_units.specs.TableParts.{RangePart, Calls, no_calls, more_calls, FunctionPart, UnitPart}
use Rattle.linemap_emit_units.specs.TableWeight.{file_weight, function_weight, sequence_weight, unit_weight, table_weight}
use Rattle.linemap_emit_units.specs.Declarations.{Attribute, Declaration}
use Rattle.linemap_emit_units.specs.Fixed.{number_bytes}
use Rattle.linemap_emit_units.specs.Spelling.{unsigned_string}
use Rattle.linemap_emit_units.proofs.NumberRoundTrip.{length-spelled}
use Rattle.linemap_emit_units.specs.Entry.{Entry}
use Rattle.linemap_emit_units.specs.Entry.TheVariants.{CompileUnit, AbstractFunction, Function, Call, EndOfChildren}
use Rattle.linemap_emit_units.specs.EmittedEntries.{attributes_of, spelled_entry, declarations, spelled_attributes, spelled_declaration, spelled_declarations}
use Rattle.linemap_emit_units.specs.EmittedEntryRows.{spelled_entries}
use Rattle.linemap_emit_units.specs.EmittedRanges.{spelled_ranges, spelled_lists_header, spelled_lists}
use Rattle.linemap_emit_units.specs.EmittedUnits.{IsWritten, spelled_fields, spelled_unit_body, spelled_unit, spelled_units}
use Rattle.linemap_emit_units.specs.EmittedSections.{emitted_sections}
use Rattle.linemap_emit_units.specs.InlinedNames.{inlined_names}
use Rattle.linemap_emit_units.specs.LookupAgreement.{lookup_range}
use Rattle.linemap_emit_units.specs.NumberBytes.{spelled_length}
use Rattle.linemap_emit_units.specs.SoundSequences.{CanEmitSequences, AllCanEmitSequences}
use Rattle.linemap_emit_units.specs.UnitEmission.{EmittedUnit, text_offset, with_name, with_list, list_offset, with_entry, has_calls, with_end_of_children, with_abstract_functions, origin_of, with_call, with_calls, with_function_entry, with_function, with_functions, with_unit_entry, with_unit}
use Rattle.linemap_emit_units.specs.TableEmission.{EmittedTable, no_units, number_of, before_entries, after_entries, with_emitted_unit, with_emitted_units, emitted_table}
use Rattle.linemap_emit_units.specs.EmittedPrograms.{line_program_bytes, bytes_if_any}
use Rattle.linemap_emit_units.proofs.SoundSequenceLemmas.{sound_can_emit}
use Rattle.linemap_emit_units.proofs.Wrapping.{at_most_eight}
use Rattle.linemap_emit_fits.specs.EmissionBounds.{IsTableBounded, sections_size}
use Rattle.linemap_emit_fits.proofs.NumberSizes.{length-unsigned, length-cond}
use Rattle.linemap_emit_fits.proofs.StringSectionSizes.{section_grows}
use Rattle.linemap_emit_fits.proofs.FileTableSizes.{unit_both, unit_old}
use Rattle.linemap_emit_fits.proofs.EntryListSizes.{ranges_few, entry_few, fields_few}
use Rattle.linemap_emit_fits.proofs.InlinedNameSizes.{name_most, names_most, names_few, site_most, calls_most, function_most, unit_split}
use Rattle.linemap_emit_fits.proofs.SoundUnitFits.{CanEmitUnitSequences, plain_can_emit, AllPlain, sound_is_plain}
use Rattle.linemap_emit_fits.proofs.EmittedUnitSizes.{program_bounded, unit_bounded}

-- ---- a unit

-- The string section, the range lists and the entries together are no longer than a bound.
record IsSummed (e : Encoding) (is_big : Bool) (most : ℕ) (st : EmittedUnit) : Type 0 where
  size_few : st.encoding.address_size ≤ 8
  few : length (section_of st.texts) + length st.ranges.bytes + length (spelled_entries e is_big st.entries) ≤ most

-- what a unit's entries, texts and range lists take together, at most
abbrev unit_sum : UnitPart → ℕ
unit_sum u = 200 + 64 * length u.ranges + length u.directory + length u.name + sum_by function_weight u.functions

module _ (e : Encoding) (is_big : Bool) (narrow : e.address_size ≤ 8) where
  raised : {m n : ℕ} {st : EmittedUnit} → IsSummed e is_big m st → m ≤ n → IsSummed e is_big n st
  raised {m} {n} {st} k h = let few = k.few in record { size_few = k.size_few; few = omega arith }

  name_summed : {m : ℕ} {st : EmittedUnit} (text : List ℕ) → IsSummed e is_big m st
      → IsSummed e is_big (m + (length text + 1)) (with_name text st)
  name_summed {m} {st} text k =
      let few = k.few in
      let grown = section_grows st.texts text in
      record { size_few = k.size_few; few = omega arith }

  list_summed : {m : ℕ} {st : EmittedUnit} (rs : List RangePart) → IsSummed e is_big m st
      → IsSummed e is_big (m + (17 * length rs + 16)) (with_list rs st)
  list_summed {m} {st} rs k =
      let list = spelled_ranges st.encoding st.ranges.is_big (map lookup_range rs) in
      record {
        size_few = k.size_few;
        few = sum _ _ _ _ _ (length rs) m _ k.few
            (ranges_few st.encoding st.ranges.is_big (map lookup_range rs) k.size_few) (length-map rs lookup_range)
            (length-append st.ranges.bytes list);
      }
    where
      sum : (t r x a k n m b : ℕ) → t + r + x ≤ m → a ≤ 17 * k + 16 → k ≡ n → b ≡ r + a
          → t + b + x ≤ m + (17 * n + 16)
      sum t r x a k n m b f g h i = omega arith

  entry_summed : {m : ℕ} {st : EmittedUnit} (x : Entry) → IsSummed e is_big m st
      → IsSummed e is_big (m + (10 + 10 * length (attributes_of x))) (with_entry x st)
  entry_summed {m} {st} x k = record {
    size_few = k.size_few;
    few = sum _ _ _ _ _ _ m _ k.few (entry_few e is_big x narrow)
        (ap length (flat_map-append (spelled_entry e is_big) st.entries (x ∷ []))
        ∙ length-append (spelled_entries e is_big st.entries) (spelled_entries e is_big (x ∷ [])))
        (length-append (spelled_entry e is_big x) []);
  }
    where
      sum : (t r a b c y m n : ℕ) → t + r + a ≤ m → b ≤ n → y ≡ a + c → c ≡ b + 0 → t + r + y ≤ m + n
      sum t r a b c y m n f g h i = omega arith

  end_summed : {m : ℕ} {st : EmittedUnit} (b : Bool) → IsSummed e is_big m st
      → IsSummed e is_big (m + 10) (with_end_of_children b st)
  end_summed true k = entry_summed EndOfChildren k
  end_summed false k = raised k (omega arith)

  calls_summed : (number : ℕ → ℕ) (names : List (List ℕ)) (cs : Calls) {m : ℕ} {st : EmittedUnit}
      → IsSummed e is_big m st
      → IsSummed e is_big (m + calls_most cs) (with_calls number names cs st)
  unfolding with_calls
  calls_summed number names no_calls {m} {st} k = raised k (omega arith)
  calls_summed number names (more_calls site inner others) {m} {st} k =
      let head : IsSummed e is_big (m + site_most site) (with_call number names (has_calls inner) site st) =
      raised (entry_summed
      (Call (has_calls inner) (origin_of st.encoding names site.name) (list_offset st) (number site.file) site.line
      site.column) (list_summed site.ranges k)) (omega arith) in
      raised (calls_summed number names others (end_summed (has_calls inner) (calls_summed number names inner head)))
      (omega arith)

  function_summed : (number : ℕ → ℕ) (names : List (List ℕ)) {m : ℕ} {st : EmittedUnit} (f : FunctionPart)
      → IsSummed e is_big m st
      → IsSummed e is_big (m + function_most f) (with_function number names f st)
  function_summed number names {m} {st} f k =
      let head : IsSummed e is_big (m + (54 + 64 * length f.ranges + 4 * length f.name)) (with_function_entry f st) =
      raised (entry_summed (Function (has_calls f.calls) (text_offset f.name st) (list_offset st))
      (list_summed f.ranges (name_summed f.name k))) (omega arith) in
      raised (end_summed (has_calls f.calls) (calls_summed number names f.calls head)) (omega arith)

  functions_summed : (number : ℕ → ℕ) (names : List (List ℕ)) (fs : List FunctionPart) {m : ℕ} {st : EmittedUnit}
      → IsSummed e is_big m st → IsSummed e is_big (m + sum_by function_most fs) (with_functions number names fs st)
  functions_summed number names [] {m} {st} k = raised k (omega arith)
  functions_summed number names (f ∷ fs) {m} {st} k =
      let whole = sum_by-cons function_most f fs in
      raised (functions_summed number names fs (function_summed number names f k)) (omega arith)

  abstract_summed : (names : List (List ℕ)) {m : ℕ} {st : EmittedUnit} → IsSummed e is_big m st
      → IsSummed e is_big (m + names_most names) (with_abstract_functions names st)
  abstract_summed [] {m} {st} k = raised k (omega arith)
  abstract_summed (name ∷ names) {m} {st} k =
      let whole = sum_by-cons name_most name names in
      let head : IsSummed e is_big (m + name_most name)
      (with_entry (AbstractFunction (text_offset name st)) (with_name name st)) =
      raised (entry_summed (AbstractFunction (text_offset name st)) (name_summed name k)) (omega arith) in
      raised (abstract_summed names head) (omega arith)

  unit_summed : {m : ℕ} {st : EmittedUnit} (number : ℕ → ℕ) (line_program : ℕ) (u : UnitPart) → IsSummed e is_big m st
      → IsSummed e is_big (m + unit_sum u) (with_unit number line_program u st)
  unit_summed {m} {st} number line_program u k =
      let root : IsSummed e is_big (m + (120 + 64 * length u.ranges + length u.directory + length u.name))
      (with_unit_entry line_program u st) =
      raised
      (entry_summed
      (CompileUnit (text_offset u.name st) (text_offset u.directory (with_name u.name st)) line_program
      (list_offset st)) (list_summed u.ranges (name_summed u.directory (name_summed u.name k)))) (omega arith) in
      let names = inlined_names u in
      let split = unit_split u in
      raised (entry_summed EndOfChildren (functions_summed number names u.functions (abstract_summed names root)))
      (omega arith)

-- ---- a table

length_few : (f : Format) (is_big : Bool) (n : ℕ) → length (spelled_length f is_big n) ≤ 12
length_few Dwarf32 is_big n = let h = length-spelled is_big 4 n in omega arith
length_few Dwarf64 is_big n =
    let h = length-spelled is_big 4 0xffffffff in
    let k = length-spelled is_big 8 n in
    let l = length-append (number_bytes is_big 4 0xffffffff) (number_bytes is_big 8 n) in
    omega arith

-- The line number programs, the string sections, the range lists and the units together are no
-- longer than a bound.
record IsTableSummed (e : Encoding) (is_big : Bool) (most : ℕ) (st : EmittedTable) : Type 0 where
  few : length st.lines + length (section_of st.line_texts) + length (section_of st.texts) + length st.ranges
      + length (spelled_units e is_big st.units) ≤ most

unit_few : (e : Encoding) (is_big : Bool) (xs : List Entry)
    → length (spelled_unit e is_big xs) ≤ 24 + length (spelled_entries e is_big xs)
unit_few e is_big xs =
    let body = spelled_unit_body e is_big xs in
    sum _ _ _ _ _ (length_few e.format is_big (length body)) (fields_few e is_big)
    (length-append (spelled_fields e is_big) (spelled_entries e is_big xs))
    (length-append (spelled_length e.format is_big (length body)) body)
  where
    sum : (l f x b n : ℕ) → l ≤ 12 → f ≤ 12 → b ≡ f + x → n ≡ l + b → n ≤ 24 + x
    sum l f x b n g h i j = omega arith

module _ (e : Encoding) (is_big : Bool) (served : IsWritten e) where
  unit_added : (m : ℕ) (u : UnitPart) (st : EmittedTable)
      → CanEmitSequences e.address_size (length u.files) u.sequences → CanEmitUnitSequences e.address_size u
      → IsTableBounded m st → m + unit_weight u < 2 ^ 31 → IsTableSummed e is_big m st
      → IsTableSummed e is_big (m + unit_weight u) (with_emitted_unit e is_big u st)
  unit_added m u st rows can bounded fits summed =
      let program = program_bounded e is_big served m u st rows can bounded fits in
      let written = bytes_if_any (line_program_bytes e is_big u st.line_texts) in
      let entries = (after_entries e is_big u st).entries in
      let units = spelled_units e is_big st.units in
      let start : IsSummed e is_big (length (section_of st.texts) + length st.ranges) (before_entries e is_big st) =
      record { size_few = at_most_eight e.address_size served.has_address_size; few = omega arith } in
      let after =
      unit_summed e is_big (at_most_eight e.address_size served.has_address_size) (number_of e u st) (length st.lines)
      u start in
      record {
        few = sum (length u.ranges) (length u.directory) (length u.name) (sum_by file_weight u.files)
            (sum_by function_weight u.functions) (sum_by sequence_weight u.sequences) _ _ _ _ _ _ _ _ _ _ _ _ _ _ _ m
            summed.few program.few (ap (λ r. length (bytes_if_any r)) program.are) (length-append st.lines written)
            (unit_both e u st.line_texts) after.few (unit_few e is_big entries) _
            (ap length (flat_map-append (spelled_unit e is_big) st.units (entries ∷ []))
            ∙ length-append units (spelled_units e is_big (entries ∷ [])))
            (length-append (spelled_unit e is_big entries) []);
      }
    where
      sum : (r d n f fs s l lt t g us k ts b ls la ta ga x y c m : ℕ) → l + lt + t + g + us ≤ m → k ≤ 124 + ts + s
          → b ≡ k → ls ≡ l + b → ts + la ≤ lt + (48 + 2 * d + 2 * n + f)
          → ta + ga + x ≤ t + g + (200 + 64 * r + d + n + fs) → y ≤ 24 + x → (z : ℕ) → z ≡ us + c → c ≡ y + 0
          → ls + la + ta + ga + z ≤ m + (1024 + 64 * r + 4 * d + 4 * n + f + fs + s)
      sum r d n f fs s l lt t g us k ts b ls la ta ga x y c m h1 h2 h3 h4 h5 h6 h7 z h8 h9 = omega arith

  units_added : (us : List UnitPart) (m : ℕ) (st : EmittedTable) → AllCanEmitSequences e.address_size us
      → AllPlain e.address_size us → IsTableBounded m st → m + sum_by unit_weight us < 2 ^ 31
      → IsTableSummed e is_big m st
      → IsTableSummed e is_big (m + sum_by unit_weight us) (with_emitted_units e is_big us st)
  unfolding with_emitted_units AllCanEmitSequences AllPlain
  units_added [] m st rows plain bounded fits summed = let few = summed.few in record { few = omega arith }
  units_added (u ∷ us) m st rows plain bounded fits summed =
      let whole = sum_by-cons unit_weight u us in
      let here : m + unit_weight u < 2 ^ 31 = omega arith in
      let split = unit_split u in
      let count = names_few (inlined_names u) in
      let can = plain_can_emit e.address_size u (omega arith) plain.0 in
      let rest =
      units_added us (m + unit_weight u) (with_emitted_unit e is_big u st) rows.1 plain.1
      (unit_bounded e is_big served m u st rows.0 can bounded here) (omega arith)
      (unit_added m u st rows.0 can bounded here summed) in
      let few = rest.few in
      record { few = omega arith }

-- up to version 4 `.debug_line_str` has no text
units_old : (e : Encoding) (is_big : Bool) (us : List UnitPart) (st : EmittedTable) → nat_le e.version 4 ≡ true
    → (with_emitted_units e is_big us st).line_texts ≡ st.line_texts
unfolding with_emitted_units
units_old e is_big [] st old = refl
units_old e is_big (u ∷ us) st old =
    units_old e is_big us (with_emitted_unit e is_big u st) old ∙ unit_old e u st.line_texts old

pub no_line_texts : (e : Encoding) (is_big : Bool) (us : List UnitPart) → nat_le e.version 4 ≡ true
    → (emitted_sections e is_big us).debug_line_str ≡ []
unfolding section_of
no_line_texts e is_big us old = ap section_of (units_old e is_big us no_units old)

-- ---- declarations

attributes_few : (xs : List Attribute) → length (spelled_attributes xs) ≤ 2 + 20 * length xs
attributes_few [] = omega arith
attributes_few (a ∷ others) =
    sum _ _ _ _ _ (length others) (length-unsigned a.name) (length-unsigned a.form) (attributes_few others)
    (length-append (unsigned_string a.name) (unsigned_string a.form))
    (length-append (unsigned_string a.name ++ unsigned_string a.form) (spelled_attributes others))
  where
    sum : (x y z w v n : ℕ) → x ≤ 10 → y ≤ 10 → z ≤ 2 + 20 * n → w ≡ x + y → v ≡ w + z → v ≤ 2 + 20 * suc n
    sum x y z w v n a b c d e = omega arith

abbrev declaration_most : Declaration → ℕ
declaration_most d = 23 + 20 * length d.attributes

declaration_few : (d : Declaration) → length (spelled_declaration d) ≤ declaration_most d
declaration_few d =
    sum _ _ _ _ _ (length d.attributes) (length-unsigned d.code) (length-unsigned d.tag) (attributes_few d.attributes)
    (length-append (unsigned_string d.code) (unsigned_string d.tag))
    (length-append (unsigned_string d.code ++ unsigned_string d.tag)
    (cond d.has_children 1 0 ∷ spelled_attributes d.attributes))
  where
    sum : (x y z w v n : ℕ) → x ≤ 10 → y ≤ 10 → z ≤ 2 + 20 * n → w ≡ x + y → v ≡ w + suc z → v ≤ 23 + 20 * n
    sum x y z w v n a b c d e = omega arith

all_declarations_few : (ds : List Declaration)
    → length (flat_map spelled_declaration ds) ≤ sum_by declaration_most ds
all_declarations_few [] = omega arith
all_declarations_few (d ∷ ds) =
    let here = declaration_few d in
    let others = all_declarations_few ds in
    let whole = sum_by-cons declaration_most d ds in
    let both = length-append (spelled_declaration d) (flat_map spelled_declaration ds) in
    omega arith

declarations_few : (e : Encoding) → length (spelled_declarations e) ≤ 1000
declarations_few e =
    let all : length (flat_map spelled_declaration (declarations e)) ≤ 538 = all_declarations_few (declarations e) in
    let whole = length-append (flat_map spelled_declaration (declarations e)) (0 ∷ []) in
    omega arith

-- ---- sections

lists_header_few : (e : Encoding) (is_big : Bool) (n : ℕ) → length (spelled_lists_header e is_big n) ≤ 20
lists_header_few e is_big n =
    let first = spelled_length e.format is_big (8 + n) in
    let version = number_bytes is_big 2 e.version in
    let l = length_few e.format is_big (8 + n) in
    let two = length-spelled is_big 2 e.version in
    let four = length-spelled is_big 4 0 in
    let rest = length-append version (e.address_size ∷ 0 ∷ number_bytes is_big 4 0) in
    let whole = length-append first (version ++ (e.address_size ∷ 0 ∷ number_bytes is_big 4 0)) in
    length-cond (nat_le e.version 4) [] (first ++ (version ++ (e.address_size ∷ 0 ∷ number_bytes is_big 4 0))) 20
    (omega arith) (omega arith)

-- range lists, in the section of one version or the other
lists_few : (e : Encoding) (is_big b : Bool) (lists : List ℕ)
    → length (cond b lists []) + length (cond b [] (spelled_lists e is_big lists)) ≤ 20 + length lists
lists_few e is_big true lists = omega arith
lists_few e is_big false lists =
    let header = lists_header_few e is_big (length lists) in
    let whole = length-append (spelled_lists_header e is_big (length lists)) lists in
    omega arith

pub weight_bounds_size : (e : Encoding) (is_big : Bool) (us : List UnitPart) → IsWritten e → IsSound us
    → fits e.address_size us ≡ true → table_weight us < 2 ^ 31
    → sections_size (emitted_sections e is_big us) ≤ table_weight us
unfolding section_of
weight_bounds_size e is_big us served sound fitting light =
    let bounded : IsTableBounded 0 no_units = record {
      lines_few = omega arith;
      line_texts_few = omega arith;
      texts_few = omega arith;
      ranges_few = omega arith;
      no_zeros = All-nil IsText;
    } in
    let start : IsTableSummed e is_big 0 no_units = record { few = omega arith } in
    let all =
    units_added e is_big served us 0 no_units (sound_can_emit e.address_size us sound fitting)
    (sound_is_plain e.address_size us sound fitting) bounded (omega arith) start in
    let st = emitted_table e is_big us in
    sum _ _ _ _ _ _ _ _ (sum_by unit_weight us) all.few (declarations_few e)
    (lists_few e is_big (nat_le e.version 4) st.ranges)
  where
    sum : (l lt t g us a r x w : ℕ) → l + lt + t + g + us ≤ 0 + w → a ≤ 1000 → r + x ≤ 20 + g
        → a + us + l + lt + r + x + t ≤ 8192 + w
    sum l lt t g us a r x w h1 h2 h3 = omega arith
