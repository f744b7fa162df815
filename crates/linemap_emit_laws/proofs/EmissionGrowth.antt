-- What is emitted only grows: texts keep their places, and bytes and entries go after those before.
use Rattle.std.proofs.Common.{◌≡◌, ℕ, Bool, true, false, List, [], ◌∷◌, ◌++◌, length, map, slice_get, Some, refl, sym, ap, ◌∙◌, append_assoc, append-nil}
use Rattle.linemap_emit_units.specs.Encoding.{Encoding}
use Rattle.linemap_emit_units.specs.StringSections.{offset_of}
use Rattle.linemap_emit_units.proofs.SectionTexts.{stays}
use Rattle.linemap_emit_units.specs.TableParts.{RangePart, Site, Calls, no_calls, more_calls, FunctionPart, UnitPart}
use Rattle.linemap_emit_units.specs.Entry.{Entry}
use Rattle.linemap_emit_units.specs.Entry.TheVariants.{CompileUnit, AbstractFunction, Function, Call, EndOfChildren}
use Rattle.linemap_emit_units.specs.EmittedRanges.{spelled_ranges}
use Rattle.linemap_emit_units.specs.InlinedNames.{inlined_names}
use Rattle.linemap_emit_units.specs.UnitEmission.{EmittedUnit, text_offset, list_offset, with_name, with_list, with_entry, has_calls, with_end_of_children, with_abstract_functions, origin_of, with_call, with_calls, with_function_entry, with_function, with_functions, with_unit_entry, with_unit}
use Rattle.linemap_emit_units.specs.TableEmission.{EmittedTable, before_entries, after_entries, with_emitted_unit, with_emitted_units, number_of}
use Rattle.linemap_emit_units.specs.EmittedPrograms.{line_program_bytes, bytes_if_any}
use Rattle.linemap_emit_units.proofs.SoundFiles.{unit_texts_extend}
use Rattle.linemap_emit_units.specs.LookupAgreement.{lookup_range}

-- texts keep their places, and begin where they did
abbrev pub TextsStay : List (List ℕ) → List (List ℕ) → Type 0
TextsStay texts more =
    (i : ℕ) (t : List ℕ) → slice_get texts i ≡ Some t
    → (slice_get more i ≡ Some t) × (offset_of more i ≡ offset_of texts i)

pub texts_stay_on : (a b c : List (List ℕ)) → TextsStay a b → TextsStay b c → TextsStay a c
texts_stay_on a b c g h i t there =
    let first = g i t there in
    let second = h i t first.0 in
    (second.0, second.1 ∙ first.1)

-- ---- within a unit

pub record Grows (a b : EmittedUnit) : Type 0 where
  pub same_encoding : b.encoding ≡ a.encoding
  pub same_order : b.ranges.is_big ≡ a.ranges.is_big
  pub texts : TextsStay a.texts b.texts
  pub more_ranges : List ℕ
  pub ranges : b.ranges.bytes ≡ a.ranges.bytes ++ more_ranges
  pub more_entries : List Entry
  pub entries : b.entries ≡ a.entries ++ more_entries

pub grows_by_nothing : (a : EmittedUnit) → Grows a a
grows_by_nothing a = record {
  same_encoding = refl;
  same_order = refl;
  texts = λ i t there. (there, refl);
  more_ranges = [];
  ranges = sym (append-nil a.ranges.bytes);
  more_entries = [];
  entries = sym (append-nil a.entries);
}

pub grows_on : (a b c : EmittedUnit) → Grows a b → Grows b c → Grows a c
grows_on a b c g h = record {
  same_encoding = h.same_encoding ∙ g.same_encoding;
  same_order = h.same_order ∙ g.same_order;
  texts = texts_stay_on a.texts b.texts c.texts g.texts h.texts;
  more_ranges = g.more_ranges ++ h.more_ranges;
  ranges =
      h.ranges ∙ ap (λ (l : List ℕ). l ++ h.more_ranges) g.ranges
      ∙ append_assoc a.ranges.bytes g.more_ranges h.more_ranges;
  more_entries = g.more_entries ++ h.more_entries;
  entries =
      h.entries ∙ ap (λ (l : List Entry). l ++ h.more_entries) g.entries
      ∙ append_assoc a.entries g.more_entries h.more_entries;
}

-- a text
pub name_grows : (text : List ℕ) (a : EmittedUnit) → Grows a (with_name text a)
name_grows text a = record {
  same_encoding = refl;
  same_order = refl;
  texts = λ i t there. stays a.texts text t i there;
  more_ranges = [];
  ranges = sym (append-nil a.ranges.bytes);
  more_entries = [];
  entries = sym (append-nil a.entries);
}

-- a list
pub list_grows : (rs : List RangePart) (a : EmittedUnit) → Grows a (with_list rs a)
list_grows rs a = record {
  same_encoding = refl;
  same_order = refl;
  texts = λ i t there. (there, refl);
  more_ranges = spelled_ranges a.encoding a.ranges.is_big (map lookup_range rs);
  ranges = refl;
  more_entries = [];
  entries = sym (append-nil a.entries);
}

-- an entry
pub entry_grows : (x : Entry) (a : EmittedUnit) → Grows a (with_entry x a)
entry_grows x a = record {
  same_encoding = refl;
  same_order = refl;
  texts = λ i t there. (there, refl);
  more_ranges = [];
  ranges = sym (append-nil a.ranges.bytes);
  more_entries = x ∷ [];
  entries = refl;
}

pub end_grows : (b : Bool) (a : EmittedUnit) → Grows a (with_end_of_children b a)
end_grows true a = entry_grows EndOfChildren a
end_grows false a = grows_by_nothing a

-- a text, a list and an entry
pub attributes_grow : (text : List ℕ) (rs : List RangePart) (x : Entry) (a : EmittedUnit)
    → Grows a (with_entry x (with_list rs (with_name text a)))
attributes_grow text rs x a =
    let named = with_name text a in
    let listed = with_list rs named in
    grows_on a named (with_entry x listed) (name_grows text a)
    (grows_on named listed (with_entry x listed) (list_grows rs named) (entry_grows x listed))

-- abstract functions
pub abstract_grow : (names : List (List ℕ)) (a : EmittedUnit) → Grows a (with_abstract_functions names a)
abstract_grow [] a = grows_by_nothing a
abstract_grow (name ∷ names) a =
    let named = with_name name a in
    let next = with_entry (AbstractFunction (text_offset name a)) named in
    grows_on a named (with_abstract_functions names next) (name_grows name a)
    (grows_on named next (with_abstract_functions names next)
    (entry_grows (AbstractFunction (text_offset name a)) named)
    (abstract_grow names next))

pub call_grows : (number : ℕ → ℕ) (names : List (List ℕ)) (children : Bool) (site : Site) (a : EmittedUnit)
    → Grows a (with_call number names children site a)
call_grows number names children site a =
    let listed = with_list site.ranges a in
    let x =
    Call children (origin_of a.encoding names site.name) (list_offset a) (number site.file)
    site.line site.column in
    grows_on a listed (with_entry x listed) (list_grows site.ranges a) (entry_grows x listed)

pub calls_grow : (number : ℕ → ℕ) (names : List (List ℕ)) (cs : Calls) (a : EmittedUnit)
    → Grows a (with_calls number names cs a)
unfolding with_calls
calls_grow number names no_calls a = grows_by_nothing a
calls_grow number names (more_calls site inner others) a =
    let head = with_call number names (has_calls inner) site a in
    let within = with_calls number names inner head in
    let after = with_end_of_children (has_calls inner) within in
    let whole = with_calls number names others after in
    grows_on a head whole (call_grows number names (has_calls inner) site a)
    (grows_on head within whole (calls_grow number names inner head)
    (grows_on within after whole (end_grows (has_calls inner) within) (calls_grow number names others after)))

pub function_grows : (number : ℕ → ℕ) (names : List (List ℕ)) (f : FunctionPart) (a : EmittedUnit)
    → Grows a (with_function number names f a)
function_grows number names f a =
    let head = with_function_entry f a in
    let within = with_calls number names f.calls head in
    grows_on a head (with_function number names f a)
    (attributes_grow f.name f.ranges (Function (has_calls f.calls) (text_offset f.name a) (list_offset a)) a)
    (grows_on head within (with_function number names f a) (calls_grow number names f.calls head)
    (end_grows (has_calls f.calls) within))

pub functions_grow : (number : ℕ → ℕ) (names : List (List ℕ)) (fs : List FunctionPart) (a : EmittedUnit)
    → Grows a (with_functions number names fs a)
functions_grow number names [] a = grows_by_nothing a
functions_grow number names (f ∷ fs) a =
    grows_on a (with_function number names f a) (with_functions number names fs (with_function number names f a))
    (function_grows number names f a)
    (functions_grow number names fs (with_function number names f a))

-- what is emitted after the entry of a unit
pub root_grows : (number : ℕ → ℕ) (line_program : ℕ) (u : UnitPart) (a : EmittedUnit)
    → Grows (with_unit_entry line_program u a) (with_unit number line_program u a)
root_grows number line_program u a =
    let names = inlined_names u in
    let root = with_unit_entry line_program u a in
    let named = with_abstract_functions names root in
    let after = with_functions number names u.functions named in
    grows_on root named (with_entry EndOfChildren after) (abstract_grow names root)
    (grows_on named after (with_entry EndOfChildren after) (functions_grow number names u.functions named)
    (entry_grows EndOfChildren after))

-- a unit
pub unit_grows : (number : ℕ → ℕ) (line_program : ℕ) (u : UnitPart) (a : EmittedUnit)
    → Grows a (with_unit number line_program u a)
unit_grows number line_program u a =
    let named = with_name u.name a in
    let root = with_unit_entry line_program u a in
    let x = CompileUnit (text_offset u.name a) (text_offset u.directory named) line_program (list_offset a) in
    grows_on a root (with_unit number line_program u a)
    (grows_on a named root (name_grows u.name a) (attributes_grow u.directory u.ranges x named))
    (root_grows number line_program u a)

-- ---- units one after the other

pub record Extends (a b : EmittedTable) : Type 0 where
  pub more_lines : List ℕ
  pub lines : b.lines ≡ a.lines ++ more_lines
  pub more_line_texts : List (List ℕ)
  pub line_texts : b.line_texts ≡ a.line_texts ++ more_line_texts
  pub texts : TextsStay a.texts b.texts
  pub more_ranges : List ℕ
  pub ranges : b.ranges ≡ a.ranges ++ more_ranges

pub extends_by_nothing : (a : EmittedTable) → Extends a a
extends_by_nothing a =
    record {
      more_lines = [];
      lines = sym (append-nil a.lines);
      more_line_texts = [];
      line_texts = sym (append-nil a.line_texts);
      texts = λ i t there. (there, refl);
      more_ranges = [];
      ranges = sym (append-nil a.ranges);
    }

pub extends_on : (a b c : EmittedTable) → Extends a b → Extends b c → Extends a c
extends_on a b c g h = record {
  more_lines = g.more_lines ++ h.more_lines;
  lines = h.lines ∙ ap (λ (l : List ℕ). l ++ h.more_lines) g.lines ∙ append_assoc a.lines g.more_lines h.more_lines;
  more_line_texts = g.more_line_texts ++ h.more_line_texts;
  line_texts =
      h.line_texts ∙ ap (λ (l : List (List ℕ)). l ++ h.more_line_texts) g.line_texts
      ∙ append_assoc a.line_texts g.more_line_texts h.more_line_texts;
  texts = texts_stay_on a.texts b.texts c.texts g.texts h.texts;
  more_ranges = g.more_ranges ++ h.more_ranges;
  ranges =
      h.ranges ∙ ap (λ (l : List ℕ). l ++ h.more_ranges) g.ranges ∙ append_assoc a.ranges g.more_ranges h.more_ranges;
}

unit_extends : (e : Encoding) (is_big : Bool) (u : UnitPart) (a : EmittedTable)
    → Extends a (with_emitted_unit e is_big u a)
unit_extends e is_big u a =
    let grown = unit_grows (number_of e u a) (length a.lines) u (before_entries e is_big a) in
    let line_texts = unit_texts_extend e u a.line_texts in
    record {
      more_lines = bytes_if_any (line_program_bytes e is_big u a.line_texts);
      lines = refl;
      more_line_texts = line_texts.more;
      line_texts = line_texts.are;
      texts = grown.texts;
      more_ranges = grown.more_ranges;
      ranges = grown.ranges;
    }

pub all_extend : (e : Encoding) (is_big : Bool) (us : List UnitPart) (a : EmittedTable)
    → Extends a (with_emitted_units e is_big us a)
unfolding with_emitted_units
all_extend e is_big [] a = extends_by_nothing a
all_extend e is_big (u ∷ us) a =
    extends_on a (with_emitted_unit e is_big u a) (with_emitted_units e is_big us (with_emitted_unit e is_big u a))
    (unit_extends e is_big u a) (all_extend e is_big us (with_emitted_unit e is_big u a))

-- ---- the entries of each unit

unfoldable pub entries_of_all : Encoding → Bool → List UnitPart → EmittedTable → List (List Entry)
entries_of_all e is_big [] a = []
entries_of_all e is_big (u ∷ us) a =
    (after_entries e is_big u a).entries ∷ entries_of_all e is_big us (with_emitted_unit e is_big u a)

pub units_are : (e : Encoding) (is_big : Bool) (us : List UnitPart) (a : EmittedTable)
    → (with_emitted_units e is_big us a).units ≡ a.units ++ entries_of_all e is_big us a
unfolding with_emitted_units entries_of_all
units_are e is_big [] a = sym (append-nil a.units)
units_are e is_big (u ∷ us) a =
    let entries = (after_entries e is_big u a).entries in
    units_are e is_big us (with_emitted_unit e is_big u a)
    ∙ append_assoc a.units (entries ∷ []) (entries_of_all e is_big us (with_emitted_unit e is_big u a))
