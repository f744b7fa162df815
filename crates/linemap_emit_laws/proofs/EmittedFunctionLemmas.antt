-- What is emitted of a unit's functions and calls says what they say.
use Rattle.std.proofs.Common.{◌≡◌, ℕ, zero, suc, ◌+◌, ◌*◌, ◌≤◌, ◌^◌, Bool, true, false, List, [], ◌∷◌, ◌++◌, All, length, map, slice_get, Some, Ok, refl, sym, ap, subst, ◌∙◌, arith, append_assoc, append-nil}
use Rattle.std.proofs.Math.Nat.{add-mul}
use Rattle.std.proofs.lemmas.List.{length-append}
use Rattle.std.proofs.lemmas.List.Concat.{flat_map-append}
use Rattle.std.proofs.lemmas.List.Elements.{All-weaker}
use Rattle.linemap_emit_units.specs.Encoding.{Encoding}
use Rattle.linemap_emit_units.specs.FormatSizes.{word_size}
use Rattle.linemap_emit_units.specs.Fixed.{number_bytes}
use Rattle.linemap_emit_units.specs.Spelling.{unsigned_within}
use Rattle.linemap_emit_units.specs.NumberParsers.{is_address_size}
use Rattle.linemap_emit_units.proofs.NumberRoundTrip.{length-spelled}
use Rattle.linemap_emit_units.specs.StringSections.{IsText as HasNoZero, with_text}
use Rattle.linemap_emit_units.specs.Attributes.{ranges_of_list}
use Rattle.linemap_emit_units.specs.DwarfFiles.{DwarfFile}
use Rattle.linemap_emit_units.specs.TableParts.{RangePart, Calls, no_calls, more_calls, FunctionPart}
use Rattle.linemap_emit_units.specs.Entry.{Entry}
use Rattle.linemap_emit_units.specs.Entry.TheVariants.{CompileUnit, AbstractFunction, Function, Call}
use Rattle.linemap_emit_units.specs.EmittedEntries.{EmittedAttribute, EmittedValue, strp, sec_offset, addr, udata, ref4, Fits, AllFit, attributes_of, spelled_entry}
use Rattle.linemap_emit_units.specs.EmittedEntryRows.{spelled_entries}
use Rattle.linemap_emit_units.specs.EmittedEntryLaws.{AllEntriesFit}
use Rattle.linemap_emit_units.specs.EmittedRanges.{AllWritable, lists_start, spelled_ranges}
use Rattle.linemap_emit_units.specs.EmittedUnits.{entries_start, root_size, abstract_size, abstract_offset}
use Rattle.linemap_emit_units.specs.InlinedNames.{NamesAre, FunctionNamesAre, IsAmong}
use Rattle.linemap_emit_units.specs.UnitEmission.{EmittedUnit, text_offset, list_offset, with_name, with_list, with_entry, has_calls, with_end_of_children, with_abstract_functions, origin_of, with_call, with_calls, with_function_entry, with_function, with_functions, CanEmitCalls, CanEmitFunctions}
use Rattle.linemap_emit_units.specs.EmittedSections.{HoldTable}
use Rattle.linemap_emit_units.specs.TableEmission.{EmittedTable}
use Rattle.linemap_emit_units.specs.LookupAgreement.{lookup_range}
use Rattle.linemap_emit_calls_laws.specs.InlinedCalls.{file_number}
use Rattle.linemap_emit_calls_laws.specs.RecordedFunctions.{HasTextAt, HasListAt, CallReferences, no_references, more_references, FunctionReferences, end_of_children, entries_of_calls, entries_of_function, entries_of_functions, HasOrigin, RecordsCalls, AllRecorded}
use Rattle.linemap_emit_laws.proofs.EmissionGrowth.{TextsStay, texts_stay_on, Grows, grows_on, list_grows, entry_grows, end_grows, calls_grow, functions_grow, abstract_grow}
use Rattle.linemap_emit_laws.proofs.EmittedStringLemmas.{text_is}
use Rattle.linemap_emit_laws.proofs.EmittedListLemmas.{list_is}

-- ---- what fits below 2^31 fits below a limit that isn't less

value_below : (limit : ℕ) (e : Encoding) (name : ℕ) (v : EmittedValue) → 2 ^ 31 ≤ limit → Fits (2 ^ 31) e name v
    → Fits limit e name v
value_below limit e name (strp o) wide fit = let low = fit.1 in (fit.0, omega arith)
value_below limit e name (sec_offset o) wide fit = let low = fit.1 in (fit.0, omega arith, fit.2)
value_below limit e name (addr a) wide fit = fit
value_below limit e name (udata n) wide fit = fit
value_below limit e name (ref4 o) wide fit = let low = fit.1 in (fit.0, omega arith)

values_below : (limit : ℕ) (e : Encoding) (ss : List EmittedAttribute) → 2 ^ 31 ≤ limit → AllFit (2 ^ 31) e ss
    → AllFit limit e ss
values_below limit e [] wide fit = tt
values_below limit e (s ∷ ss) wide fit =
    (value_below limit e s.name s.value wide fit.0, values_below limit e ss wide fit.1)

pub entries_below : (limit : ℕ) (e : Encoding) (xs : List Entry) → 2 ^ 31 ≤ limit → AllEntriesFit (2 ^ 31) e xs
    → AllEntriesFit limit e xs
entries_below limit e xs wide fit =
    All-weaker (λ x. AllFit (2 ^ 31) e (attributes_of x)) (λ x. AllFit limit e (attributes_of x))
    (λ x. values_below limit e (attributes_of x) wide) xs fit

-- ---- the entries

-- what the entries of calls refer to
unfoldable pub call_refs : (ℕ → ℕ) → List (List ℕ) → Calls → EmittedUnit → CallReferences
call_refs number names no_calls a = no_references
call_refs number names (more_calls site inner others) a =
    let head = with_call number names (has_calls inner) site a in
    more_references (origin_of a.encoding names site.name) (list_offset a) (number site.file)
    (call_refs number names inner head)
    (call_refs number names others (with_end_of_children (has_calls inner) (with_calls number names inner head)))

abbrev pub function_refs : (ℕ → ℕ) → List (List ℕ) → FunctionPart → EmittedUnit → FunctionReferences
function_refs number names f a = record {
  name = text_offset f.name a;
  range_list = list_offset a;
  calls = call_refs number names f.calls (with_function_entry f a);
}

unfoldable pub all_refs : (ℕ → ℕ) → List (List ℕ) → List FunctionPart → EmittedUnit → List FunctionReferences
all_refs number names [] a = []
all_refs number names (f ∷ fs) a =
    function_refs number names f a
    ∷ all_refs number names fs (with_function number names f a)

-- the names of abstract functions
unfoldable pub abstract_texts : List (List ℕ) → EmittedUnit → List ℕ
abstract_texts [] a = []
abstract_texts (name ∷ names) a =
    text_offset name a
    ∷ abstract_texts names (with_entry (AbstractFunction (text_offset name a)) (with_name name a))

end_entries : (b : Bool) (a : EmittedUnit) → (with_end_of_children b a).entries ≡ a.entries ++ end_of_children b
end_entries true a = refl
end_entries false a = sym (append-nil a.entries)

pub call_entries : (number : ℕ → ℕ) (names : List (List ℕ)) (cs : Calls) (a : EmittedUnit)
    → (with_calls number names cs a).entries ≡ a.entries ++ entries_of_calls cs (call_refs number names cs a)
unfolding with_calls entries_of_calls call_refs
call_entries number names no_calls a = sym (append-nil a.entries)
call_entries number names (more_calls site inner others) a =
    let head = with_call number names (has_calls inner) site a in
    let within = with_calls number names inner head in
    let after = with_end_of_children (has_calls inner) within in
    let own = entries_of_calls inner (call_refs number names inner head) in
    let end = end_of_children (has_calls inner) in
    let last = entries_of_calls others (call_refs number names others after) in
    let x =
    Call (has_calls inner) (origin_of a.encoding names site.name) (list_offset a) (number site.file)
    site.line site.column in
    call_entries number names others after
    ∙ ap (λ (l : List Entry). l ++ last) (end_entries (has_calls inner) within
    ∙ ap (λ (l : List Entry). l ++ end) (call_entries number names inner head))
    ∙ regroup a.entries (x ∷ []) own end last
  where
    regroup : (a x i e o : List Entry) → (((a ++ x) ++ i) ++ e) ++ o ≡ a ++ (x ++ (i ++ (e ++ o)))
    regroup a x i e o = simp append_assoc

function_entries : (number : ℕ → ℕ) (names : List (List ℕ)) (f : FunctionPart) (a : EmittedUnit)
    → (with_function number names f a).entries ≡ a.entries ++ entries_of_function f (function_refs number names f a)
function_entries number names f a =
    let head = with_function_entry f a in
    let own = entries_of_calls f.calls (call_refs number names f.calls head) in
    let end = end_of_children (has_calls f.calls) in
    let x = Function (has_calls f.calls) (text_offset f.name a) (list_offset a) in
    end_entries (has_calls f.calls) (with_calls number names f.calls head)
    ∙ ap (λ (l : List Entry). l ++ end) (call_entries number names f.calls head)
    ∙ regroup a.entries (x ∷ []) own end
  where
    regroup : (a x i e : List Entry) → ((a ++ x) ++ i) ++ e ≡ a ++ (x ++ (i ++ e))
    regroup a x i e = simp append_assoc

pub functions_entries : (number : ℕ → ℕ) (names : List (List ℕ)) (fs : List FunctionPart) (a : EmittedUnit)
    → (with_functions number names fs a).entries ≡ a.entries ++ entries_of_functions fs (all_refs number names fs a)
unfolding entries_of_functions all_refs
functions_entries number names [] a = sym (append-nil a.entries)
functions_entries number names (f ∷ fs) a =
    let next = with_function number names f a in
    functions_entries number names fs next
    ∙ ap (λ (l : List Entry). l ++ entries_of_functions fs (all_refs number names fs next))
    (function_entries number names f a)
    ∙ append_assoc a.entries (entries_of_function f (function_refs number names f a))
    (entries_of_functions fs (all_refs number names fs next))

pub abstract_entries : (names : List (List ℕ)) (a : EmittedUnit)
    → (with_abstract_functions names a).entries ≡ a.entries ++ map AbstractFunction (abstract_texts names a)
unfolding abstract_texts
abstract_entries [] a = sym (append-nil a.entries)
abstract_entries (name ∷ names) a =
    let x = AbstractFunction (text_offset name a) in
    let next = with_entry x (with_name name a) in
    abstract_entries names next ∙ append_assoc a.entries (x ∷ []) (map AbstractFunction (abstract_texts names next))

-- ---- sizes

-- the root
pub root_takes : (e : Encoding) (is_big : Bool) (name directory line_program range_list : ℕ)
    → length (spelled_entries e is_big (CompileUnit name directory line_program range_list ∷ [])) ≡ root_size e
unfolding unsigned_within
root_takes e is_big name directory line_program range_list =
    let w = word_size e.format in
    let a = number_bytes is_big w name in
    let b = number_bytes is_big w directory in
    let c = number_bytes is_big w line_program in
    let d = number_bytes is_big e.address_size 0 in
    let r = number_bytes is_big w range_list in
    omega (
      arith,
      length-spelled is_big w name,
      length-spelled is_big w directory,
      length-spelled is_big w line_program,
      length-spelled is_big e.address_size 0,
      length-spelled is_big w range_list,
      length-append r [],
      length-append d (r ++ []),
      length-append c (d ++ (r ++ [])),
      length-append b (c ++ (d ++ (r ++ []))),
      length-append a (b ++ (c ++ (d ++ (r ++ [])))),
      length-append (a ++ (b ++ (c ++ (d ++ (r ++ []))))) [],
    )

-- an abstract function after others
abstract_takes : (e : Encoding) (is_big : Bool) (before : List Entry) (text : ℕ)
    → length (spelled_entries e is_big (before ++ AbstractFunction text ∷ []))
    ≡ length (spelled_entries e is_big before) + abstract_size e
unfolding unsigned_within
abstract_takes e is_big before text =
    let w = word_size e.format in
    let t = number_bytes is_big w text in
    let x = AbstractFunction text in
    omega (
      arith,
      ap length (flat_map-append (spelled_entry e is_big) before (x ∷ [])),
      length-append (spelled_entries e is_big before) (spelled_entries e is_big (x ∷ [])),
      length-spelled is_big w text,
      length-append t [],
      length-append (t ++ []) [],
    )

-- ---- what is in the other sections

module _ (e : Encoding) (is_big : Bool) (s : DwarfFile) (last : EmittedUnit) (final : EmittedTable)
    (hold : HoldTable e is_big final s) (no_zeros : All HasNoZero final.texts)
    (is_size : is_address_size e.address_size ≡ true) (encoding : last.encoding ≡ e)
    (order : last.ranges.is_big ≡ is_big) (stay : TextsStay last.texts final.texts) (more_ranges : List ℕ)
    (ranges : final.ranges ≡ last.ranges.bytes ++ more_ranges) where
  text_there : (a : EmittedUnit) (text : List ℕ) → Grows (with_name text a) last → HasTextAt s (text_offset text a) text
  text_there a text g =
      text_is s is_big hold.str_first final.texts a.texts text hold.str_is no_zeros
      (texts_stay_on (with_text a.texts text) last.texts final.texts g.texts stay)

  list_there : (a : EmittedUnit) (rs : List RangePart) → Grows (with_list rs a) last
      → AllWritable e.address_size (map lookup_range rs) → HasListAt e s (list_offset a) rs
  list_there a rs g writable b same low =
      let own_encoding : a.encoding ≡ e = sym g.same_encoding ∙ encoding in
      let own_order : a.ranges.is_big ≡ is_big = sym g.same_order ∙ order in
      let whole : final.ranges
      ≡ (a.ranges.bytes ++ spelled_ranges e is_big (map lookup_range rs)) ++ (g.more_ranges ++ more_ranges) =
      ranges ∙ ap (λ (l : List ℕ). l ++ more_ranges) g.ranges
      ∙ append_assoc (with_list rs a).ranges.bytes g.more_ranges more_ranges
      ∙ ap (λ (c : Encoding). (a.ranges.bytes ++ spelled_ranges c a.ranges.is_big (map lookup_range rs))
      ++ (g.more_ranges ++ more_ranges)) own_encoding
      ∙ ap (λ (c : Bool). (a.ranges.bytes ++ spelled_ranges e c (map lookup_range rs))
      ++ (g.more_ranges ++ more_ranges)) own_order in
      subst (λ (c : Encoding). ranges_of_list s b (lists_start c + length a.ranges.bytes)
      ≡ Ok (map (λ r. Ok (lookup_range r)) rs)) (sym own_encoding)
      (list_is e is_big hold.ranges_first hold.rnglists_first s b a.ranges.bytes (g.more_ranges ++ more_ranges)
      final.ranges rs is_size writable hold.ranges_is hold.rnglists_is whole same low)

  -- ---- abstract functions

  pub origin_there : (all : List Entry) (names : List (List ℕ)) (a : EmittedUnit) (before rest : List Entry) (n i : ℕ)
      (t : List ℕ) → all ≡ before ++ (map AbstractFunction (abstract_texts names a) ++ rest)
      → ((big : Bool) → abstract_offset e n ≡ entries_start e + length (spelled_entries e big before))
      → Grows (with_abstract_functions names a) last → slice_get names i ≡ Some t
      → HasOrigin e s all (abstract_offset e (n + i)) t
  unfolding abstract_texts
  origin_there all [] a before rest n i t are place g there = absurd cc
  origin_there all (name ∷ names) a before rest n zero t are place g there =
      let same : name ≡ t = cc in
      let named = with_name name a in
      let next = with_entry (AbstractFunction (text_offset name a)) named in
      subst (HasOrigin e s all (abstract_offset e (n + 0))) same
      (record {
        before = before;
        text = text_offset name a;
        others = map AbstractFunction (abstract_texts names next) ++ rest;
        entries_are = are;
        place_is = λ big. let same_place : n + 0 ≡ n = omega arith in ap (abstract_offset e) same_place ∙ place big;
        is_name = text_there a name (grows_on named next last
            (entry_grows (AbstractFunction (text_offset name a)) named)
            (grows_on next (with_abstract_functions names next) last (abstract_grow names next) g));
      })
  origin_there all (name ∷ names) a before rest n (suc i) t are place g there =
      let x = AbstractFunction (text_offset name a) in
      let next = with_entry x (with_name name a) in
      let further : n + suc i ≡ n + 1 + i = omega arith in
      subst (λ k. HasOrigin e s all (abstract_offset e k) t) (sym further)
      (origin_there all names next (before ++ x ∷ []) rest (n + 1) i t
      (are ∙ sym (append_assoc before (x ∷ []) (map AbstractFunction (abstract_texts names next) ++ rest)))
      (λ big. one_more n (abstract_size e) (entries_start e + root_size e) _ _ _ (place big)
      (abstract_takes e big before (text_offset name a))) g there)
    where
      mul-suc : (n k : ℕ) → (n + 1) * k ≡ n * k + k
      mul-suc n k = let one : 1 * k ≡ k = omega arith in add-mul n 1 k ∙ ap (λ m. n * k + m) one

      sum : (p q k c s w x : ℕ) → p ≡ q + k → c + q ≡ s + w → x ≡ w + k → c + p ≡ s + x
      sum p q k c s w x f g h = omega arith

      one_more : (n k c s w x : ℕ) → c + n * k ≡ s + w → x ≡ w + k → c + (n + 1) * k ≡ s + x
      one_more n k c s w x g h = sum ((n + 1) * k) (n * k) k c s w x (mul-suc n k) g h

  -- ---- calls

  module _ (number : ℕ → ℕ) (counts : (n : ℕ) → file_number e.version (number n) ≡ Some (number n))
      (names : List (List ℕ)) (all : List Entry)
      (origins : (t : List ℕ) → IsAmong names t → HasOrigin e s all (origin_of e names t) t) where
    calls_recorded : (files : ℕ) (cs : Calls) (a : EmittedUnit) → Grows (with_calls number names cs a) last
        → CanEmitCalls e.address_size files cs → NamesAre (IsAmong names) cs
        → RecordsCalls e s number all cs (call_refs number names cs a)
    unfolding with_calls CanEmitCalls NamesAre RecordsCalls call_refs
    calls_recorded files no_calls a g can among = tt
    calls_recorded files (more_calls site inner others) a g can among =
        let listed = with_list site.ranges a in
        let head = with_call number names (has_calls inner) site a in
        let within = with_calls number names inner head in
        let after = with_end_of_children (has_calls inner) within in
        let whole = with_calls number names others after in
        let after_grows = grows_on after whole last (calls_grow number names others after) g in
        let within_grows = grows_on within after last (end_grows (has_calls inner) within) after_grows in
        let head_grows = grows_on head within last (calls_grow number names inner head) within_grows in
        let x =
        Call (has_calls inner) (origin_of a.encoding names site.name) (list_offset a) (number site.file)
        site.line site.column in
        let listed_grows = grows_on listed head last (entry_grows x listed) head_grows in
        let own_encoding : a.encoding ≡ e = sym listed_grows.same_encoding ∙ encoding in (
          record {
            has_origin = subst (λ (c : Encoding). HasOrigin e s all (origin_of c names site.name) site.name)
                (sym own_encoding) (origins site.name among.0);
            ranges_are = list_there a site.ranges listed_grows can.0.1;
            file_is = counts site.file;
          },
          calls_recorded files inner head within_grows can.2 among.1,
          calls_recorded files others after g can.3 among.2,
        )

    -- ---- functions

    pub functions_recorded : (files : ℕ) (fs : List FunctionPart) (a : EmittedUnit)
        → Grows (with_functions number names fs a) last
        → CanEmitFunctions e.address_size files fs → FunctionNamesAre (IsAmong names) fs
        → AllRecorded e s number all fs (all_refs number names fs a)
    unfolding AllRecorded all_refs
    functions_recorded files [] a g can among = tt
    functions_recorded files (f ∷ fs) a g can among =
        let named = with_name f.name a in
        let listed = with_list f.ranges named in
        let head = with_function_entry f a in
        let within = with_calls number names f.calls head in
        let after = with_function number names f a in
        let x = Function (has_calls f.calls) (text_offset f.name a) (list_offset a) in
        let after_grows =
        grows_on after (with_functions number names fs after) last (functions_grow number names fs after) g in
        let within_grows = grows_on within after last (end_grows (has_calls f.calls) within) after_grows in
        let head_grows = grows_on head within last (calls_grow number names f.calls head) within_grows in
        let listed_grows = grows_on listed head last (entry_grows x listed) head_grows in (
          record {
            is_name = text_there a f.name (grows_on named listed last (list_grows f.ranges named) listed_grows);
            ranges_are = list_there named f.ranges listed_grows can.0.1;
            calls_are = calls_recorded files f.calls head within_grows can.1 among.0;
          },
          functions_recorded files fs after g can.2 among.1,
        )
