-- The units of a context, and those of its supplement, are in the order of their offsets, since the units of a section
-- lie end to end.
use Rattle.std.proofs.Common.{◌≡◌, ℕ, zero, suc, ◌+◌, ◌<◌, ◌≤◌, Bool, true, false, cond, List, [], ◌∷◌, length, get_or, map, Option, Some, None, Result, Ok, Err, refl, sym, ap, ◌∙◌, subst, arith}
use Rattle.std.specs.List.{filter_map, cons_option}
use Rattle.addr2line_functions.proofs.TilingLemmas.{parts_tile}
use Rattle.addr2line_functions.proofs.UnitHeaderLemmas.{units_are_parts}
use Rattle.addr2line_functions.specs.TableParsing.{table_at}
use Rattle.addr2line_functions.specs.Declarations.{Declaration}
use Rattle.addr2line_functions.specs.Error.{Error}
use Rattle.addr2line_functions.specs.View.{View}
use Rattle.addr2line_functions.specs.Repetition.{fault_of}
use Rattle.addr2line_functions.specs.Results.{and_then, unless, each}
use Rattle.addr2line_functions.specs.Tiling.{Tile}
use Rattle.addr2line_functions.specs.UnitHeaders.{DebugUnit, unit, length_including_self}
use Rattle.addr2line_functions.specs.AttributeValues.{RawAttribute}
use Rattle.addr2line_functions.specs.DwarfFiles.{DwarfFile}
use Rattle.addr2line_functions.specs.UnitFacts.{UnitFacts, UnitInFile, in_file, unit_facts, facts_of as facts_of_unit, root, bases_of, readable_text, last_value, last_value_of_kind, line_reference_of, line_header_of, address_or_0, is_name, is_comp_dir, is_stmt_list, is_low_pc}
use Rattle.addr2line_functions.specs.Contexts.{ContextUnit, context_unit, partial_unit, is_of_types, readable_facts, facts_of_code_unit, headers_of, units_of_file, units_of_supplement}
use Rattle.addr2line_functions.specs.UnitLines.{lines_of_unit}
use Rattle.addr2line_functions.specs.UnitRanges.{is_partial, ranges_of_attributes}
use Rattle.addr2line_functions.specs.OrderedUnits.{unit_offset, AreInOrder}

-- ---- units from an offset on

-- each begins at or after the offset, and at or after the one before it
abbrev BeginFrom : ℕ → List UnitFacts → Type 0
BeginFrom n [] = Unit {0}
BeginFrom n (u ∷ us) = (n ≤ unit_offset u) × BeginFrom (unit_offset u) us

begin_earlier : (m n : ℕ) (us : List UnitFacts) → m ≤ n → BeginFrom n us → BeginFrom m us
begin_earlier m n [] le h = tt
begin_earlier m n (u ∷ us) le h = let first = h.0 in (omega (arith, first), h.1)

begin_after : (n : ℕ) (us : List UnitFacts) → BeginFrom n us → (j : ℕ) (d : UnitFacts) → j < length us
    → n ≤ unit_offset (get_or us j d)
begin_after n [] h j d below = absurd (omega arith)
begin_after n (u ∷ us) h zero d below = h.0
begin_after n (u ∷ us) h (suc j) d below =
    let first = h.0 in
    let later = begin_after (unit_offset u) us h.1 j d (omega arith) in
    omega (arith, first, later)

in_order : (n : ℕ) (us : List UnitFacts) → BeginFrom n us → AreInOrder us
in_order n [] h i j d le below = absurd (omega arith)
in_order n (u ∷ us) h zero zero d le below = omega arith
in_order n (u ∷ us) h zero (suc j) d le below = begin_after (unit_offset u) us h.1 j d (omega arith)
in_order n (u ∷ us) h (suc i) zero d le below = absurd (omega arith)
in_order n (u ∷ us) h (suc i) (suc j) d le below = in_order (unit_offset u) us h.1 i j d (omega arith) (omega arith)

-- ---- the units of a section

abbrev TileFrom : ℕ → View → ℕ → List DebugUnit → Result View Error → Type 0
TileFrom limit section offset hs ending =
    Tile (unit limit) (λ u. u.offset) length_including_self section offset hs ending

-- those that a function makes of headers, if they keep the header
module _ (f : DebugUnit → Option UnitFacts)
    (keeps : (h : DebugUnit) (u : UnitFacts) → f h ≡ Some u → u.header ≡ h) (limit : ℕ) (section : View) where
  facts_from : (offset : ℕ) (hs : List DebugUnit) (ending : Result View Error) → TileFrom limit section offset hs ending
      → BeginFrom offset (filter_map f hs)
  facts_from offset [] ending t = tt
  facts_from offset (h ∷ hs) ending t =
      by (f h) refl (facts_from (offset + length_including_self h) hs ending t.2)
    where
      by : (o : Option UnitFacts) → f h ≡ o → BeginFrom (offset + length_including_self h) (filter_map f hs)
          → BeginFrom offset (cons_option o (filter_map f hs))
      by None is rest =
          begin_earlier offset (offset + length_including_self h) (filter_map f hs) (omega arith) rest
      by (Some u) is rest =
          let here : unit_offset u ≡ offset = ap (λ (x : DebugUnit). x.offset) (keeps h u is) ∙ t.0 in (
            omega (arith, here),
            begin_earlier (unit_offset u) (offset + length_including_self h) (filter_map f hs) (omega (arith, here))
                rest,
          )

-- ---- parts of a result

module _ {A B : Type 0} (part : A → B) (b : B) where
  -- a value that is returned has this part
  abbrev Has : Result A Error → Type 0
  Has r = (x : A) → r ≡ Ok x → part x ≡ b

  has_after : {C : Type 0} (r : Result C Error) (f : C → Result A Error) → ((y : C) → Has (f y))
      → Has (and_then r f)
  has_after (Ok y) f has x is = has y x is
  has_after (Err e) f has x is = absurd cc

  has_given : (v : A) → part v ≡ b → Has (Ok v)
  has_given v same x is = let given : v ≡ x = cc in subst (λ (y : A). part y ≡ b) given same

  has_either : (c : Bool) (r s : Result A Error) → Has r → Has s → Has (cond c r s)
  has_either true r s first second = first
  has_either false r s first second = second

-- ---- headers

abbrev header_of : UnitFacts → DebugUnit
header_of u = u.header

module _ (file : DwarfFile) (h : DebugUnit) where
  header_in_facts : (table : List Declaration) (attributes : List RawAttribute)
      → Has header_of h (facts_of_unit file h table attributes)
  header_in_facts table attributes =
      let b = bases_of file.sections.file_type h.encoding attributes in
      let name = readable_text file b (last_value is_name attributes) in
      let comp_dir = readable_text file b (last_value is_comp_dir attributes) in
      let program = last_value_of_kind line_reference_of is_stmt_list attributes in
      has_after header_of h
      (line_header_of file (record {
        address_bytes = h.encoding.address_size;
        directory = comp_dir;
        name = name;
      }) program) _
      (λ line_header.
      has_after header_of h (address_or_0 file b (last_value is_low_pc attributes)) _ (λ low_pc.
      has_given header_of h _ refl))

  header_kept : Has header_of h (unit_facts file h)
  header_kept =
      has_after header_of h (table_at h.abbrev_offset file.sections.debug_abbrev) _ (λ table.
      has_after header_of h (root file.offset_limit h table) _ (λ r. header_in_facts table r.attributes))

readable_kept : (h : DebugUnit) (r : Result UnitFacts Error) → Has header_of h r → (u : UnitFacts)
    → readable_facts r ≡ Some u → u.header ≡ h
readable_kept h (Ok v) keeps u is = let given : v ≡ u = cc in keeps u (ap Ok given)
readable_kept h (Err e) keeps u is = absurd cc

code_kept : (file : DwarfFile) (h : DebugUnit) (u : UnitFacts) → facts_of_code_unit file h ≡ Some u → u.header ≡ h
code_kept file h u is = by (is_of_types h.kind) is
  where
    by : (b : Bool) → cond b None (readable_facts (unit_facts file h)) ≡ Some u → u.header ≡ h
    by true is = absurd cc
    by false is = readable_kept h (unit_facts file h) (header_kept file h) u is

-- ---- a context's units

abbrev facts_in : ContextUnit → UnitFacts
facts_in c = c.facts

facts_kept : (u : UnitInFile) → Has facts_in u.facts (context_unit u)
facts_kept u =
    has_after facts_in u.facts (root u.file.offset_limit u.facts.header u.facts.table) _ (λ r.
    has_either facts_in u.facts (is_partial u.facts.header.kind r.tag) _ _
    (has_given facts_in u.facts (partial_unit u.facts (lines_of_unit u)) refl)
    (has_after facts_in u.facts (ranges_of_attributes u (lines_of_unit u) r.attributes) _ (λ ranges.
    has_given facts_in u.facts _ refl)))

each_kept : (file : DwarfFile) (xs : List UnitFacts) (cs : List ContextUnit)
    → each (λ u. context_unit (in_file file u)) xs ≡ Ok cs → map (λ (c : ContextUnit). c.facts) cs ≡ xs
each_kept file [] cs is = let none : [] ≡ cs = cc in ap (map (λ (c : ContextUnit). c.facts)) (sym none)
each_kept file (x ∷ xs) cs is =
    by (context_unit (in_file file x)) (each (λ u. context_unit (in_file file u)) xs) (facts_kept (in_file file x))
    (each_kept file xs) is
  where
    by : (r : Result ContextUnit Error) (rest : Result (List ContextUnit) Error) → Has facts_in x r
        → ((ds : List ContextUnit) → rest ≡ Ok ds → map (λ (c : ContextUnit). c.facts) ds ≡ xs)
        → and_then r (λ y. and_then rest (λ ys. Ok (y ∷ ys))) ≡ Ok cs
        → map (λ (c : ContextUnit). c.facts) cs ≡ x ∷ xs
    by (Ok c) (Ok ds) has later is =
        let whole : c ∷ ds ≡ cs = cc in
        ap (map (λ (c : ContextUnit). c.facts)) (sym whole)
        ∙ ap (λ y. y ∷ map (λ (c : ContextUnit). c.facts) ds) (has c refl) ∙ ap (λ l. x ∷ l) (later ds refl)
    by (Ok c) (Err e) has later is = absurd cc
    by (Err e) rest has later is = absurd cc

sound : {A : Type 0} (fault : Option Error) (r : Result A Error) (x : A)
    → and_then r (λ y. unless fault (Ok y)) ≡ Ok x → r ≡ Ok x
sound None (Ok y) x is = is
sound None (Err e) x is = absurd cc
sound (Some d) (Ok y) x is = absurd cc
sound (Some d) (Err e) x is = absurd cc

tiled : (file : DwarfFile)
    → TileFrom file.offset_limit file.sections.debug_info 0 (headers_of file).items (headers_of file).ending
tiled file = parts_tile (units_are_parts file.offset_limit) file.sections.debug_info

pub units_in_order : (file : DwarfFile) (cs : List ContextUnit) → units_of_file file ≡ Ok cs
    → AreInOrder (map (λ (c : ContextUnit). c.facts) cs)
units_in_order file cs is =
    let facts = filter_map (facts_of_code_unit file) (headers_of file).items in
    subst AreInOrder (sym (each_kept file facts cs (sound (fault_of (headers_of file)) _ cs is)))
    (in_order 0 facts
    (facts_from (facts_of_code_unit file) (code_kept file) file.offset_limit file.sections.debug_info 0
    (headers_of file).items (headers_of file).ending (tiled file)))

pub supplement_in_order : (s : Option DwarfFile) (us : List UnitFacts) → units_of_supplement s ≡ Ok us → AreInOrder us
supplement_in_order None us is = let none : [] ≡ us = cc in subst AreInOrder none (in_order 0 [] tt)
supplement_in_order (Some s) us is = by (fault_of (headers_of s)) is
  where
    facts : List UnitFacts
    facts = filter_map (λ h. readable_facts (unit_facts s h)) (headers_of s).items

    by : (fault : Option Error) → unless fault (Ok facts) ≡ Ok us → AreInOrder us
    by None is =
        let same : facts ≡ us = cc in
        subst AreInOrder same
        (in_order 0 facts
        (facts_from (λ h. readable_facts (unit_facts s h))
        (λ h u. readable_kept h (unit_facts s h) (header_kept s h) u) s.offset_limit s.sections.debug_info 0
        (headers_of s).items (headers_of s).ending (tiled s)))
    by (Some e) is = absurd cc
