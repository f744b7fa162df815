-- What is emitted of a unit's entries stays within a bound.
use Rattle.std.proofs.Common.{◌≡◌, ℕ, ◌+◌, ◌*◌, ◌<◌, ◌≤◌, ◌^◌, Bool, true, false, cond, not, List, [], ◌∷◌, ◌++◌, length, map, sum_by, refl, ap, ◌∙◌, arith}
use Rattle.std.specs.Prelude.{nat_le}
use Rattle.std.specs.List.{prefix_len}
use Rattle.std.proofs.Math.Nat.{one-le-pow}
use Rattle.std.proofs.lemmas.List.{length-append, length-map}
use Rattle.std.proofs.lemmas.List.Elements.{All-push}
use Rattle.std.proofs.lemmas.List.Concat.{flat_map-append}
use Rattle.std.proofs.lemmas.List.Sums.{sum_by-cons}
use Rattle.linemap_emit_units.specs.Encoding.{Encoding}
use Rattle.linemap_emit_units.specs.Format.{Format}
use Rattle.linemap_emit_units.specs.Format.TheVariants.{Dwarf32, Dwarf64}
use Rattle.linemap_emit_units.specs.FormatSizes.{initial_length_size, word_size}
use Rattle.linemap_emit_units.specs.StringSections.{same_bytes, with_text, section_of, text_index}
use Rattle.linemap_emit_units.specs.TableParts.{RangePart, Site, Calls, no_calls, more_calls, FunctionPart, UnitPart}
use Rattle.linemap_emit_units.specs.TableWeight.{function_weight}
use Rattle.linemap_emit_units.specs.Entry.{Entry}
use Rattle.linemap_emit_units.specs.Entry.TheVariants.{CompileUnit, AbstractFunction, Function, Call, EndOfChildren}
use Rattle.linemap_emit_units.specs.EmittedEntries.{AllFit, attributes_of, spelled_entry}
use Rattle.linemap_emit_units.specs.EmittedEntryRows.{spelled_entries}
use Rattle.linemap_emit_units.specs.EmittedRanges.{spelled_ranges}
use Rattle.linemap_emit_units.specs.EmittedUnits.{entries_start}
use Rattle.linemap_emit_units.specs.InlinedNames.{inlined_names}
use Rattle.linemap_emit_units.specs.UnitEmission.{EmittedUnit, text_offset, with_name, with_list, list_offset, with_entry, has_calls, with_end_of_children, with_abstract_functions, origin_of, with_call, with_calls, with_function_entry, with_function, with_functions, with_unit_entry, with_unit}
use Rattle.linemap_emit_fits.specs.EmissionBounds.{IsUnitBounded}
use Rattle.linemap_emit_fits.proofs.NumberSizes.{word_few}
use Rattle.linemap_emit_fits.proofs.StringSectionSizes.{section_grows, offset_within}
use Rattle.linemap_emit_fits.proofs.EntryListSizes.{start_few, ranges_few, entry_few}
use Rattle.linemap_emit_fits.proofs.InlinedNameSizes.{name_most, names_most, names_few, site_most, calls_most, function_most, unit_split}
use Rattle.linemap_emit_units.specs.LookupAgreement.{lookup_range}

-- offsets below 2^31 fit their words
fits_word : (f : Format) (offset : ℕ) → offset < 2 ^ 31 → offset < 256 ^ word_size f
fits_word Dwarf32 offset low = omega arith
fits_word Dwarf64 offset low = omega arith

-- the offset of a text is within the section as it grows
text_low : (text : List ℕ) (st : EmittedUnit) (most : ℕ) → length (section_of st.texts) ≤ most
    → text_offset text st ≤ most + (length text + 1)
text_low text st most few =
    sum _ _ _ (length text) most (offset_within (with_text st.texts text) (text_index st.texts text))
    (section_grows st.texts text) few
  where
    sum : (o s t n m : ℕ) → o ≤ s → s ≤ t + (n + 1) → t ≤ m → o ≤ m + (n + 1)
    sum o s t n m a b c = omega arith

-- numbers of a call that fit 64 bits
pub record IsCounted (s : Site) : Type 0 where
  pub line : s.line < 2 ^ 64
  pub column : s.column < 2 ^ 64

unfoldable pub AllCounted : Calls → Type 0
AllCounted no_calls = Unit {0}
AllCounted (more_calls site inner others) = IsCounted site × AllCounted inner × AllCounted others

unfoldable pub AllFunctionsCounted : List FunctionPart → Type 0
AllFunctionsCounted [] = Unit {0}
AllFunctionsCounted (f ∷ fs) = AllCounted f.calls × AllFunctionsCounted fs

-- an abstract function's entry is near the start of its unit
prefix_few : {X : Type 0} (p : X → Bool) (xs : List X) → prefix_len p xs ≤ length xs
prefix_few p [] = omega arith
prefix_few p (x ∷ xs) = by (p x) (prefix_few p xs)
  where
    by : (b : Bool) → prefix_len p xs ≤ length xs → cond b (1 + prefix_len p xs) 0 ≤ length (x ∷ xs)
    by true few = omega arith
    by false few = omega arith

index_few : (names : List (List ℕ)) (t : List ℕ) → text_index names t ≤ length names
index_few names t = prefix_few (λ s. not (same_bytes t s)) names

origin_few : (e : Encoding) (names : List (List ℕ)) (t : List ℕ) → e.address_size ≤ 8
    → origin_of e names t ≤ 65 + 9 * length names
origin_few e names t narrow =
    sum _ (entries_start e) _ e.address_size _ (text_index names t) (length names) refl
    (by_version (nat_le e.version 4) e.format) (few e.format (text_index names t)) narrow (word_few e.format)
    (index_few names t)
  where
    by_version : (b : Bool) (f : Format)
        → cond b (initial_length_size f + 3 + word_size f) (initial_length_size f + 4 + word_size f) ≤ 24
    by_version true Dwarf32 = omega arith
    by_version true Dwarf64 = omega arith
    by_version false Dwarf32 = omega arith
    by_version false Dwarf64 = omega arith

    few : (f : Format) (n : ℕ) → n * (1 + word_size f) ≤ 9 * n
    few Dwarf32 n = omega arith
    few Dwarf64 n = omega arith

    sum : (o s a size w i n : ℕ) → o ≡ s + (1 + 4 * w + size) + a → s ≤ 24 → a ≤ 9 * i → size ≤ 8 → w ≤ 8 → i ≤ n
        → o ≤ 65 + 9 * n
    sum o s a size w i n g h j k l m = omega arith

-- what a unit's entries, texts and range lists take at most
abbrev pub unit_most : UnitPart → ℕ
unit_most u =
    200 + 64 * length u.ranges + 4 * length u.directory + 4 * length u.name + sum_by function_weight u.functions

module _ (e : Encoding) (is_big : Bool) (narrow : e.address_size ≤ 8) where
  pub bound_raised : {m n : ℕ} {st : EmittedUnit} → IsUnitBounded e is_big m st → m ≤ n → IsUnitBounded e is_big n st
  bound_raised {m} {n} {st} k h =
      let t = k.texts_few in
      let r = k.ranges_few in
      let b = k.entries_few in
      record {
        size_few = k.size_few;
        texts_few = omega arith;
        ranges_few = omega arith;
        entries_few = omega arith;
        fit = k.fit;
      }

  -- a text more
  name_bounded : {m : ℕ} {st : EmittedUnit} (text : List ℕ) → IsUnitBounded e is_big m st
      → IsUnitBounded e is_big (m + (length text + 1)) (with_name text st)
  name_bounded {m} {st} text k =
      let t = k.texts_few in
      let grown = section_grows st.texts text in
      let r = k.ranges_few in
      let b = k.entries_few in
      record {
        size_few = k.size_few;
        texts_few = omega arith;
        ranges_few = omega arith;
        entries_few = omega arith;
        fit = k.fit;
      }

  -- a range list more
  list_bounded : {m : ℕ} {st : EmittedUnit} (rs : List RangePart) → IsUnitBounded e is_big m st
      → IsUnitBounded e is_big (m + (17 * length rs + 16)) (with_list rs st)
  list_bounded {m} {st} rs k =
      let t = k.texts_few in
      let r = k.ranges_few in
      let b = k.entries_few in
      let list = spelled_ranges st.encoding st.ranges.is_big (map lookup_range rs) in
      let grown : length (st.ranges.bytes ++ list) ≤ m + (17 * length rs + 16) =
      sum _ _ _ _ (length rs) m r (ranges_few st.encoding st.ranges.is_big (map lookup_range rs) k.size_few)
      (length-map rs lookup_range) (length-append st.ranges.bytes list) in
      record {
        size_few = k.size_few;
        texts_few = omega arith;
        ranges_few = grown;
        entries_few = omega arith;
        fit = k.fit;
      }
    where
      sum : (a b k x n m : ℕ) → a ≤ m → b ≤ 17 * k + 16 → k ≡ n → x ≡ a + b → x ≤ m + (17 * n + 16)
      sum a b k x n m f g h i = omega arith

  -- an entry more that fits
  entry_bounded : {m : ℕ} {st : EmittedUnit} (x : Entry) → AllFit (2 ^ 31) e (attributes_of x)
      → IsUnitBounded e is_big m st
      → IsUnitBounded e is_big (m + (10 + 10 * length (attributes_of x))) (with_entry x st)
  entry_bounded {m} {st} x fit k =
      let t = k.texts_few in
      let r = k.ranges_few in
      let grown : length (spelled_entries e is_big (st.entries ++ x ∷ [])) ≤ m + (10 + 10 * length (attributes_of x)) =
      sum _ _ _ _ m _ k.entries_few (entry_few e is_big x narrow)
      (ap length (flat_map-append (spelled_entry e is_big) st.entries (x ∷ []))
      ∙ length-append (spelled_entries e is_big st.entries) (spelled_entries e is_big (x ∷ [])))
      (length-append (spelled_entry e is_big x) []) in
      record {
        size_few = k.size_few;
        texts_few = omega arith;
        ranges_few = omega arith;
        entries_few = grown;
        fit = All-push (λ x. AllFit (2 ^ 31) e (attributes_of x)) st.entries x k.fit fit;
      }
    where
      sum : (a b c x m n : ℕ) → a ≤ m → b ≤ n → x ≡ a + c → c ≡ b + 0 → x ≤ m + n
      sum a b c x m n f g h i = omega arith

  end_bounded : {m : ℕ} {st : EmittedUnit} (b : Bool) → IsUnitBounded e is_big m st
      → IsUnitBounded e is_big (m + 10) (with_end_of_children b st)
  end_bounded true k = entry_bounded EndOfChildren tt k
  end_bounded false k = bound_raised k (omega arith)

  -- ---- calls

  call_bounded : (number : ℕ → ℕ) (low : (i : ℕ) → number i < 2 ^ 64) (names : List (List ℕ))
      {m : ℕ} {st : EmittedUnit} (b : Bool) (s : Site)
      → 65 + 9 * length names < 2 ^ 31 → IsCounted s → m + site_most s < 2 ^ 31
      → IsUnitBounded e is_big m st → IsUnitBounded e is_big (m + site_most s) (with_call number names b s st)
  call_bounded number low names {m} {st} b s few numbers fits k =
      let near = origin_few st.encoding names s.name k.size_few in
      let origin_fits : origin_of st.encoding names s.name < 2 ^ 31 = omega arith in
      let origin_wide : origin_of st.encoding names s.name < 256 ^ 4 = omega arith in
      let list_few = k.ranges_few in
      let start = start_few st.encoding in
      let list_fits : list_offset st < 2 ^ 31 = omega arith in
      bound_raised
      (entry_bounded
      (Call b (origin_of st.encoding names s.name) (list_offset st) (number s.file) s.line s.column) (
        (origin_wide, origin_fits),
        (
          (fits_word e.format (list_offset st) list_fits, list_fits, refl),
          (low s.file, (numbers.line, (numbers.column, tt))),
        ),
      ) (list_bounded s.ranges k)) (omega arith)

  pub calls_bounded : (number : ℕ → ℕ) (low : (i : ℕ) → number i < 2 ^ 64) (names : List (List ℕ))
      (cs : Calls) {m : ℕ} {st : EmittedUnit}
      → 65 + 9 * length names < 2 ^ 31 → AllCounted cs → m + calls_most cs < 2 ^ 31
      → IsUnitBounded e is_big m st → IsUnitBounded e is_big (m + calls_most cs) (with_calls number names cs st)
  unfolding with_calls AllCounted
  calls_bounded number low names no_calls {m} {st} few numbers fits k = bound_raised k (omega arith)
  calls_bounded number low names (more_calls site inner others) {m} {st} few numbers fits k =
      let head = call_bounded number low names (has_calls inner) site few numbers.0 (omega arith) k in
      let middle = calls_bounded number low names inner few numbers.1 (omega arith) head in
      let end = end_bounded (has_calls inner) middle in
      bound_raised (calls_bounded number low names others few numbers.2 (omega arith) end) (omega arith)

  -- ---- functions

  function_bounded : (number : ℕ → ℕ) (low : (i : ℕ) → number i < 2 ^ 64) (names : List (List ℕ))
      {m : ℕ} {st : EmittedUnit} (f : FunctionPart)
      → 65 + 9 * length names < 2 ^ 31 → AllCounted f.calls → m + function_most f < 2 ^ 31
      → IsUnitBounded e is_big m st → IsUnitBounded e is_big (m + function_most f) (with_function number names f st)
  function_bounded number low names {m} {st} f few numbers fits k =
      let name_low = text_low f.name st m k.texts_few in
      let name_fits : text_offset f.name st < 2 ^ 31 = omega arith in
      let list_few = k.ranges_few in
      let start = start_few st.encoding in
      let list_fits : list_offset st < 2 ^ 31 = omega arith in
      let head : IsUnitBounded e is_big (m + (54 + 64 * length f.ranges + 4 * length f.name))
      (with_function_entry f st) =
      bound_raised (entry_bounded (Function (has_calls f.calls) (text_offset f.name st) (list_offset st)) (
        (fits_word e.format (text_offset f.name st) name_fits, name_fits),
        ((fits_word e.format (list_offset st) list_fits, list_fits, refl), tt),
      ) (list_bounded f.ranges (name_bounded f.name k))) (omega arith) in
      bound_raised (end_bounded (has_calls f.calls) (calls_bounded number low names f.calls few numbers
      (omega arith) head))
      (omega arith)

  pub functions_bounded : (number : ℕ → ℕ) (low : (i : ℕ) → number i < 2 ^ 64) (names : List (List ℕ))
      (fs : List FunctionPart) {m : ℕ} {st : EmittedUnit}
      → 65 + 9 * length names < 2 ^ 31 → AllFunctionsCounted fs
      → m + sum_by function_most fs < 2 ^ 31 → IsUnitBounded e is_big m st
      → IsUnitBounded e is_big (m + sum_by function_most fs) (with_functions number names fs st)
  unfolding AllFunctionsCounted
  functions_bounded number low names [] {m} {st} few numbers fits k = bound_raised k (omega arith)
  functions_bounded number low names (f ∷ fs) {m} {st} few numbers fits k =
      let whole = sum_by-cons function_most f fs in
      bound_raised
      (functions_bounded number low names fs few numbers.1 (omega arith)
      (function_bounded number low names f few numbers.0 (omega arith) k))
      (omega arith)

  -- ---- abstract functions

  abstract_bounded : (names : List (List ℕ)) {m : ℕ} {st : EmittedUnit} → m + names_most names < 2 ^ 31
      → IsUnitBounded e is_big m st → IsUnitBounded e is_big (m + names_most names) (with_abstract_functions names st)
  abstract_bounded [] {m} {st} fits k = bound_raised k (omega arith)
  abstract_bounded (name ∷ names) {m} {st} fits k =
      let whole = sum_by-cons name_most name names in
      let name_low = text_low name st m k.texts_few in
      let name_fits : text_offset name st < 2 ^ 31 = omega arith in
      let head : IsUnitBounded e is_big (m + name_most name)
      (with_entry (AbstractFunction (text_offset name st)) (with_name name st)) =
      bound_raised
      (entry_bounded (AbstractFunction (text_offset name st))
      ((fits_word e.format (text_offset name st) name_fits, name_fits), tt) (name_bounded name k)) (omega arith) in
      bound_raised (abstract_bounded names (omega arith) head) (omega arith)

  -- ---- a unit

  pub unit_is_bounded : {m : ℕ} {st : EmittedUnit} (number : ℕ → ℕ) (line_program : ℕ) (u : UnitPart)
      → ((i : ℕ) → number i < 2 ^ 64) → AllFunctionsCounted u.functions → line_program < 2 ^ 31
      → m + unit_most u < 2 ^ 31 → IsUnitBounded e is_big m st
      → IsUnitBounded e is_big (m + unit_most u) (with_unit number line_program u st)
  unit_is_bounded {m} {st} number line_program u low numbers program_fits fits k =
      let name_low = text_low u.name st m k.texts_few in
      let name_fits : text_offset u.name st < 2 ^ 31 = omega arith in
      let after_name = name_bounded u.name k in
      let directory_low = text_low u.directory (with_name u.name st) (m + (length u.name + 1)) after_name.texts_few in
      let directory_fits : text_offset u.directory (with_name u.name st) < 2 ^ 31 = omega arith in
      let list_few = k.ranges_few in
      let start = start_few st.encoding in
      let list_fits : list_offset st < 2 ^ 31 = omega arith in
      let some = one-le-pow e.address_size 256 (omega arith) in
      let zero_fits : 0 < 256 ^ e.address_size = omega arith in
      let root : IsUnitBounded e is_big (m + (120 + 64 * length u.ranges + 4 * length u.directory + 4 * length u.name))
      (with_unit_entry line_program u st) =
      bound_raised
      (entry_bounded
      (CompileUnit (text_offset u.name st) (text_offset u.directory (with_name u.name st)) line_program
      (list_offset st)) (
        (fits_word e.format (text_offset u.name st) name_fits, name_fits),
        (
          (fits_word e.format (text_offset u.directory (with_name u.name st)) directory_fits, directory_fits),
          (
            (fits_word e.format line_program program_fits, program_fits, refl),
            (zero_fits, ((fits_word e.format (list_offset st) list_fits, list_fits, refl), tt)),
          ),
        ),
      ) (list_bounded u.ranges (name_bounded u.directory after_name))) (omega arith) in
      let names = inlined_names u in
      let split = unit_split u in
      let count = names_few names in
      let few : 65 + 9 * length names < 2 ^ 31 = omega arith in
      bound_raised
      (entry_bounded EndOfChildren tt
      (functions_bounded number low names u.functions few numbers (omega arith)
      (abstract_bounded names (omega arith) root)))
      (omega arith)
