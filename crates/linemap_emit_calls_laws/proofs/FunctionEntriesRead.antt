-- The entries of functions are read as the table's functions, each with its calls.
use Rattle.std.proofs.Common.{◌≡◌, ℕ, ◌+◌, ◌-◌, ◌<◌, ◌^◌, ◌≤ℤ◌, ℤ, pos, Bool, true, false, cond, not, ◌||◌, List, [], ◌∷◌, ◌++◌, length, filter, map, Option, Some, Result, Ok, refl, sym, ap, subst, ◌∙◌, arith, append_assoc, append-nil}
use Rattle.std.specs.Prelude.{◌==◌}
use Rattle.std.specs.List.{list_any}
use Rattle.std.proofs.lemmas.Int.{ints}
use Rattle.std.proofs.lemmas.Bool.{or_parts, ltb-false, ne_eqb}
use Rattle.std.proofs.lemmas.List.Elements.{All-head, All-tail}
use Rattle.linemap_emit_units.specs.Error.{Error}
use Rattle.linemap_emit_units.specs.View.{View}
use Rattle.linemap_emit_units.specs.DwarfFileType.TheVariants.{Main}
use Rattle.linemap_emit_units.specs.Encoding.{Encoding}
use Rattle.linemap_emit_units.specs.Range.{Range}
use Rattle.linemap_emit_units.specs.NumberParsers.{is_address_size}
use Rattle.linemap_emit_units.specs.Repetition.{Listing, prepend}
use Rattle.linemap_emit_units.specs.Results.{and_then, each}
use Rattle.linemap_emit_units.specs.AttributeValues.{RawValue}
use Rattle.linemap_emit_units.specs.Attributes.{Bases}
use Rattle.linemap_emit_units.specs.DwarfFiles.{DwarfFile}
use Rattle.linemap_emit_units.specs.LineHeaders.{LineHeader}
use Rattle.linemap_emit_units.specs.UnitHeaders.{length_including_self}
use Rattle.linemap_emit_units.specs.EntryWalks.{Walk, depth_after}
use Rattle.linemap_emit_units.specs.EntryRows.{Row, row}
use Rattle.linemap_emit_units.specs.EntryLaws.{row_under_choice}
use Rattle.linemap_emit_units.specs.UnitFacts.{UnitFacts, UnitInFile, in_file}
use Rattle.linemap_emit_units.specs.BytesAt.{bytes_at}
use Rattle.linemap_emit_units.specs.TableParts.{RangePart, Site, Calls, no_calls, more_calls, FunctionPart}
use Rattle.linemap_emit_units.specs.Conditions.{any_call, is_bad_number}
use Rattle.linemap_emit_units.specs.Entry.{Entry}
use Rattle.linemap_emit_units.specs.Entry.TheVariants.{CompileUnit, AbstractFunction, Function, Call, EndOfChildren}
use Rattle.linemap_emit_units.specs.EmittedEntries.{AllFit, attributes_of, declaration_of, spelled_entry}
use Rattle.linemap_emit_units.specs.EmittedEntryRows.{walk_at, spelled_entries, place_before, rows_for}
use Rattle.linemap_emit_units.specs.EmittedEntryLaws.{AllEntriesFit}
use Rattle.linemap_emit_units.specs.EmittedUnits.{unit_for}
use Rattle.linemap_emit_units.specs.LookupAgreement.{lookup_range}
use Rattle.linemap_emit_units.specs.UnitEmission.{has_calls}
use Rattle.linemap_emit_units.proofs.EntryRowsRead.{row_again}
use Rattle.linemap_emit_units.proofs.EntryListsRead.{rows_again, walk_to}
use Rattle.linemap_emit_units.proofs.InlinedNameLemmas.{All-left, All-right}
use Rattle.addr2line_functions.specs.Functions.{Function as FoundFunction, is_subprogram, function_of, has_range, functions_of_rows, functions_of_unit}
use Rattle.addr2line_functions.specs.InlinedCalls.{Call as FoundCall, FunctionCalls, FunctionWalk, NestedEntry, Naming, is_call, call_of, calls_among, calls_of_function, calls_of_row, entries_of}
use Rattle.addr2line_functions.specs.EntryReferences.{KnownUnits, HoldingUnit}
use Rattle.addr2line_functions.specs.FunctionNames.{name_by_reference, most_references, name_with}
use Rattle.linemap_frames_laws.specs.CallAgreement.{CallsAgree, EntryAgrees, FunctionsAgree}
use Rattle.linemap_emit_calls_laws.specs.RecordedFunctions.{CallReferences, no_references, more_references, FunctionReferences, end_of_children, entries_of_calls, entries_of_function, entries_of_functions, RecordsCalls, RecordsFunction, AllRecorded, RecordsFunctions}
use Rattle.linemap_emit_calls_laws.specs.FunctionLaws.{written_facts}
use Rattle.linemap_emit_calls_laws.proofs.EntryDepths.{deeper}
use Rattle.addr2line_functions.proofs.CallEntrySteps.{entries-end}
use Rattle.linemap_emit_calls_laws.proofs.EntryFacts.{function_ranges, function_name, call_read}
use Rattle.linemap_emit_calls_laws.proofs.OriginNames.{origin_name}
use Rattle.linemap_emit_calls_laws.proofs.CallEntriesRead.{ReadsCalls, calls_read, children_end, inside, nested_entry, no_call, filter-append}

-- ---- rows of functions

-- the rows of functions, with their attributes
abbrev pub function_rows : List Row → List Row
function_rows rs = filter (λ r. is_subprogram r.tag) (map (row_under_choice is_subprogram) rs)

-- entries that add no such row
record AreSkipped (e : Encoding) (is_big : Bool) (end_offset : ℕ) (d : ℤ) (xs rest : List Entry) : Type 0 where
  next : ℤ
  same : function_rows (rows_for e is_big end_offset d xs) ≡ function_rows (rows_for e is_big end_offset next rest)

module _ (e : Encoding) (is_big : Bool) (end_offset : ℕ) where
  end_skipped : (b : Bool) (d : ℤ) (rest : List Entry)
      → AreSkipped e is_big end_offset d (end_of_children b ++ rest) rest
  end_skipped true d rest = record { next = depth_after d (declaration_of e EndOfChildren); same = refl }
  end_skipped false d rest = record { next = d; same = refl }

  calls_skipped : (cs : Calls) (refs : CallReferences) (d : ℤ) (rest : List Entry)
      → AreSkipped e is_big end_offset d (entries_of_calls cs refs ++ rest) rest
  unfolding entries_of_calls
  calls_skipped no_calls refs d rest = record { next = d; same = refl }
  calls_skipped (more_calls site inner others) no_references d rest = record { next = d; same = refl }
  calls_skipped (more_calls site inner others) (more_references origin range_list file within after) d rest =
      let x = Call (has_calls inner) origin range_list file site.line site.column in
      let own = entries_of_calls inner within in
      let end = end_of_children (has_calls inner) in
      let last = entries_of_calls others after in
      let d1 = depth_after d (declaration_of e x) in
      let in_it = calls_skipped inner within d1 (end ++ (last ++ rest)) in
      let ended = end_skipped (has_calls inner) in_it.next (last ++ rest) in
      let later = calls_skipped others after ended.next rest in
      record {
        next = later.next;
        same =
            ap (λ (l : List Entry). function_rows (rows_for e is_big end_offset d1 l))
            (append_assoc own (end ++ last) rest ∙ ap (λ (l : List Entry). own ++ l) (append_assoc end last rest))
            ∙ in_it.same ∙ ended.same ∙ later.same;
      }

-- ---- one unit

module _ (e : Encoding) (is_big : Bool) (s : DwarfFile) (offset first : ℕ) (all : List Entry) (b : Bases)
    (unit_name directory : Option View) (header : Option LineHeader) (known : KnownUnits) (h : HoldingUnit)
    (number : ℕ → ℕ)
    (is_size : is_address_size e.address_size ≡ true) (fit : AllEntriesFit s.offset_limit e all)
    (main : s.sections.file_type ≡ Main) (encoding : b.encoding ≡ e) (low : b.low_pc ≡ 0)
    (holds : h.unit ≡ in_file s (written_facts e is_big offset first all b unit_name directory header)) where
  abbrev pub facts : UnitFacts
  facts = written_facts e is_big offset first all b unit_name directory header

  abbrev pub unit : UnitInFile
  unit = in_file s facts

  abbrev pub follow : RawValue → Result (Option View) Error
  follow = name_by_reference known most_references h

  abbrev pub naming : Naming
  naming = name_with h follow

  abbrev end_offset : ℕ
  end_offset = length_including_self (unit_for e is_big offset first all)

  abbrev fits : Entry → Type 0
  fits y = AllFit s.offset_limit e (attributes_of y)

  abbrev bad_number : Site → Bool
  bad_number c = is_bad_number c.line || is_bad_number c.column

  low_number : (n : ℕ) → is_bad_number n ≡ false → n < 2 ^ 32
  low_number n h =
      let high = ltb-false (2 ^ 32 - 1) n (or_parts _ _ h).1 in omega arith

  -- a call's entry says what the table's call says
  call_agrees : ReadsCalls s.offset_limit e is_big end_offset is_size s unit naming number all
  call_agrees site origin range_list file recorded plain children k xs =
      let tests = or_parts (is_bad_number site.line) (is_bad_number site.column) plain in
      let text = recorded.has_origin.is_name in
      let place = place_before e is_big end_offset (Call children origin range_list file site.line site.column ∷ xs) in
      let c : FoundCall = record {
        depth = k;
        offset = place;
        ranges = map lookup_range site.ranges;
        name = Some text.found;
        file = Some (number site.file);
        line = site.line;
        column = site.column;
      } in (
        c,
        call_read e s facts main encoding low h holds follow k place (pos (k + 1)) children origin range_list file
            (number site.file) site.line site.column site.ranges text.found
            (origin_name e is_big s offset first all b unit_name directory header is_size fit known 15 h holds origin
            site.name recorded.has_origin)
            recorded.ranges_are recorded.file_is (low_number site.line tests.0) (low_number site.column tests.1),
        record {
          depth_is = refl;
          ranges_agree = refl;
          name_is = ap Some text.bytes;
          file_is = refl;
          line_is = refl;
          column_is = refl;
        },
      )

  -- ---- a function's calls

  -- the walk after the entry of a function with calls or without
  abbrev after_entry : Calls → ℕ → ℕ → ℕ → List Entry → Walk
  after_entry cs name range_list place xs =
      walk_at e end_offset (depth_after (pos 0) (declaration_of e (Function (has_calls cs) name range_list)))
      (bytes_at is_big place (spelled_entries e is_big xs))

  record FunctionCallsRead (cs : Calls) (w : Walk) : Type 0 where
    flat : List FoundCall
    are : calls_among unit naming (entries_of s.offset_limit w) ≡ Ok flat
    agree : CallsAgree number 0 cs flat

  at_level : pos 0 ≤ℤ pos 0
  at_level = omega (arith, ints)

  calls_of_entry : (cs : Calls) (refs : CallReferences) (name range_list place : ℕ) (rest : List Entry)
      → RecordsCalls e s number all cs refs → AllEntriesFit s.offset_limit e (entries_of_calls cs refs)
      → any_call bad_number cs ≡ false
      → FunctionCallsRead cs (after_entry cs name range_list place
      ((entries_of_calls cs refs ++ end_of_children (has_calls cs)) ++ rest))
  unfolding entries_of_calls
  calls_of_entry no_calls refs name range_list place rest recorded fits_all plain = record {
    flat = [];
    are =
        ap (λ (l : Listing FunctionWalk NestedEntry). calls_among unit naming l)
        (entries-end s.offset_limit
        (record { walk = after_entry no_calls name range_list place rest; before = [] }) at_level);
    agree = tt;
  }
  calls_of_entry (more_calls site inner others) refs name range_list place rest recorded fits_all plain =
      let cs = more_calls site inner others in
      let limit = s.offset_limit in
      let own = entries_of_calls cs refs in
      let read =
      calls_read limit e is_big end_offset is_size s unit naming number all call_agrees cs refs 0 place []
      (EndOfChildren ∷ rest) recorded fits_all plain refl refl in
      let end = nested_entry limit e is_big end_offset is_size 1 EndOfChildren rest read.before in
      let last =
      inside limit e is_big end_offset is_size 0
      (read.next_first + length (spelled_entry e is_big EndOfChildren)) rest (end.row ∷ read.before) in
      record {
        flat = read.flat;
        are =
            ap (λ (l : List Entry). calls_among unit naming (entries_of limit (after_entry cs name range_list place l)))
            (append_assoc own (EndOfChildren ∷ []) rest)
            ∙ ap (λ d. calls_among unit naming (entries_of limit (walk_at e end_offset d
            (bytes_at is_big place (spelled_entries e is_big (own ++ (EndOfChildren ∷ rest))))))) (deeper 0)
            ∙ ap (λ (l : Listing FunctionWalk NestedEntry). calls_among unit naming l)
            (read.below
            ∙ ap (λ (l : Listing FunctionWalk NestedEntry). prepend read.items l)
            (children_end limit e is_big end_offset is_size 0 read.next_first read.before rest
            ∙ ap (λ (l : Listing FunctionWalk NestedEntry). prepend (end ∷ []) l)
            (entries-end limit last at_level)))
            ∙ ap (λ (l : List NestedEntry). and_then (each (call_of unit naming) l) (λ cs. Ok cs))
            (filter-append is_call read.items (end ∷ [])
            ∙ ap (λ l. filter is_call read.items ++ l)
            (no_call limit e is_big end_offset is_size s unit naming number all call_agrees 0 rest read.before [])
            ∙ append-nil (filter is_call read.items))
            ∙ ap (λ q. and_then q (λ cs. Ok cs)) read.each_is;
        agree = read.agree;
      }

  -- ---- a function

  record FunctionRead (f : FunctionPart) (place : ℕ) : Type 0 where
    entry : FunctionCalls
    at : calls_of_function unit naming place ≡ Ok entry
    agrees : EntryAgrees number f entry

  function_read : (f : FunctionPart) (refs : FunctionReferences) (front rest : List Entry)
      → all ≡ front ++ (entries_of_function f refs ++ rest) → RecordsFunction e s number all f refs
      → AllEntriesFit s.offset_limit e (entries_of_function f refs) → any_call bad_number f.calls ≡ false
      → FunctionRead f (place_before e is_big end_offset (entries_of_function f refs ++ rest))
  function_read f refs front rest are recorded fits_all plain =
      let limit = s.offset_limit in
      let x = Function (has_calls f.calls) refs.name refs.range_list in
      let own = entries_of_calls f.calls refs.calls in
      let end = end_of_children (has_calls f.calls) in
      let xs = (own ++ end) ++ rest in
      let place = place_before e is_big end_offset (x ∷ xs) in
      let there = (unit_for e is_big offset first all).entries.first + length (spelled_entries e is_big front) in
      let next = there + length (spelled_entry e is_big x) in
      let calls =
      calls_of_entry f.calls refs.calls refs.name refs.range_list next rest recorded.calls_are
      (All-left fits own end (All-tail fits x (own ++ end) fits_all)) plain in
      record {
        entry = record { name = Some recorded.is_name.found; calls = calls.flat };
        at =
            ap (λ (q : Result Walk Error). and_then q (λ w. calls_of_row unit naming place (row limit w)))
            (walk_to e is_big offset first all front x xs are)
            ∙ ap (calls_of_row unit naming place)
            (row_again limit e end_offset (pos 0) is_big there x (spelled_entries e is_big xs) is_size
            (All-head fits x (own ++ end) fits_all))
            ∙ ap (λ (q : Result (Option View) Error). and_then q (λ name.
            and_then (calls_among unit naming (entries_of limit
            (after_entry f.calls refs.name refs.range_list next xs))) (λ calls.
            Ok (record { name = name; calls = calls }))))
            (function_name e s facts main encoding low h holds follow (has_calls f.calls) refs.name refs.range_list
            f.name recorded.is_name)
            ∙ ap (λ (q : Result (List FoundCall) Error). and_then q (λ calls.
            Ok (record { name = Some recorded.is_name.found; calls = calls }))) calls.are;
        agrees = record { name_is = ap Some recorded.is_name.bytes; calls_are = calls.agree };
      }

  -- ---- functions

  abbrev rows_from : ℤ → List Entry → List Row
  rows_from d xs = function_rows (rows_for e is_big end_offset d xs)

  record FunctionsRead (fs : List FunctionPart) (d : ℤ) (xs rest : List Entry) : Type 0 where
    gs : List FoundFunction
    next : ℤ
    are : (more : List FoundFunction) → each (function_of unit) (rows_from next rest) ≡ Ok more
        → each (function_of unit) (rows_from d xs) ≡ Ok (gs ++ more)
    have_ranges : filter has_range gs ≡ gs
    agree : FunctionsAgree number (calls_of_function unit naming) fs gs

  abbrev no_range : FunctionPart → Bool
  no_range f = length f.ranges == 0

  some_ranges : (f : FunctionPart) (g : FoundFunction) → g.ranges ≡ map lookup_range f.ranges → no_range f ≡ false
      → has_range g ≡ true
  some_ranges f g same some = ap (λ l. not (length l == 0)) same ∙ by f.ranges some
    where
      by : (rs : List RangePart) → (length rs == 0) ≡ false → not (length (map lookup_range rs) == 0) ≡ true
      by [] none = absurd cc
      by (r ∷ rs) none = ap not (ne_eqb (length (map lookup_range (r ∷ rs))) 0 (omega arith))

  functions_read : (fs : List FunctionPart) (refs : List FunctionReferences) (d : ℤ) (front rest : List Entry)
      → all ≡ front ++ (entries_of_functions fs refs ++ rest) → AllRecorded e s number all fs refs
      → AllEntriesFit s.offset_limit e (entries_of_functions fs refs) → list_any no_range fs ≡ false
      → list_any (λ (f : FunctionPart). any_call bad_number f.calls) fs ≡ false
      → FunctionsRead fs d (entries_of_functions fs refs ++ rest) rest
  unfolding entries_of_functions AllRecorded
  functions_read [] [] d front rest are recorded fits_all some plain =
      record { gs = []; next = d; are = λ more h. h; have_ranges = refl; agree = tt }
  functions_read [] (r ∷ rs) d front rest are recorded fits_all some plain = absurd recorded
  functions_read (f ∷ fs) [] d front rest are recorded fits_all some plain = absurd recorded
  functions_read (f ∷ fs) (refs ∷ rs) d front rest are recorded fits_all some plain =
      let x = Function (has_calls f.calls) refs.name refs.range_list in
      let own = entries_of_calls f.calls refs.calls in
      let end = end_of_children (has_calls f.calls) in
      let here = entries_of_function f refs in
      let last = entries_of_functions fs rs in
      let tail = last ++ rest in
      let grouped : (here ++ last) ++ rest ≡ here ++ tail = append_assoc here last rest in
      let some_parts = or_parts (no_range f) (list_any no_range fs) some in
      let plain_parts =
      or_parts (any_call bad_number f.calls) (list_any (λ (f : FunctionPart). any_call bad_number f.calls) fs) plain in
      let there : all ≡ front ++ (here ++ tail) = are ∙ ap (λ (l : List Entry). front ++ l) grouped in
      let read = function_read f refs front tail there recorded.0 (All-left fits here last fits_all) plain_parts.0 in
      let g : FoundFunction = record {
        offset = place_before e is_big end_offset (here ++ tail);
        ranges = map lookup_range f.ranges;
      } in
      let d1 = depth_after d (declaration_of e x) in
      let in_it = calls_skipped e is_big end_offset f.calls refs.calls d1 (end ++ tail) in
      let ended = end_skipped e is_big end_offset (has_calls f.calls) in_it.next tail in
      let others =
      functions_read fs rs ended.next (front ++ here) rest (there ∙ sym (append_assoc front here tail)) recorded.1
      (All-right fits here last fits_all) some_parts.1 plain_parts.1 in
      let skipped : rows_from d1 ((own ++ end) ++ tail) ≡ rows_from ended.next tail =
      ap (λ (l : List Entry). rows_from d1 l) (append_assoc own end tail) ∙ in_it.same ∙ ended.same in
      record {
        gs = g ∷ others.gs;
        next = others.next;
        are = λ more h.
            ap (λ (l : List Entry). each (function_of unit) (rows_from d l)) grouped
            ∙ ap (λ (q : Result (List Range) Error). and_then (and_then q (λ rs. Ok (record {
              offset = g.offset;
              ranges = rs;
            })))
            (λ y. and_then (each (function_of unit) (rows_from d1 ((own ++ end) ++ tail))) (λ ys. Ok (y ∷ ys))))
            (function_ranges e s facts main encoding low (has_calls f.calls) refs.name refs.range_list f.ranges
            recorded.0.ranges_are)
            ∙ ap (λ l. and_then (each (function_of unit) l) (λ ys. Ok (g ∷ ys))) skipped
            ∙ ap (λ q. and_then q (λ ys. Ok (g ∷ ys))) (others.are more h);
        have_ranges =
            ap (λ b. cond b (g ∷ filter has_range others.gs) (filter has_range others.gs))
            (some_ranges f g refl some_parts.0)
            ∙ ap (λ l. g ∷ l) others.have_ranges;
        agree = (
          record { ranges_agree = refl; entry = read.entry; at_entry = read.at; entry_agrees = read.agrees },
          others.agree,
        );
      }

  -- ---- abstract functions

  record AbstractRead (d : ℤ) (xs rest : List Entry) : Type 0 where
    gs : List FoundFunction
    are : (more : List FoundFunction) → each (function_of unit) (rows_from d rest) ≡ Ok more
        → each (function_of unit) (rows_from d xs) ≡ Ok (gs ++ more)
    have_none : filter has_range gs ≡ []

  abstract_read : (names : List ℕ) (d : ℤ) (rest : List Entry)
      → AbstractRead d (map AbstractFunction names ++ rest) rest
  abstract_read [] d rest = record { gs = []; are = λ more h. h; have_none = refl }
  abstract_read (n ∷ names) d rest =
      let others = abstract_read names d rest in
      let g : FoundFunction = record {
        offset = place_before e is_big end_offset (AbstractFunction n ∷ (map AbstractFunction names ++ rest));
        ranges = [];
      } in
      record {
        gs = g ∷ others.gs;
        are = λ more h. ap (λ q. and_then q (λ ys. Ok (g ∷ ys))) (others.are more h);
        have_none = others.have_none;
      }

  -- ---- the unit's functions

  pub record UnitFunctionsRead (fs : List FunctionPart) : Type 0 where
    pub gs : List FoundFunction
    pub are : functions_of_unit unit ≡ Ok gs
    pub agree : FunctionsAgree number (calls_of_function unit naming) fs gs

  pub unit_functions_read : (fs : List FunctionPart) (name directory line_program range_list : ℕ) (others : List Entry)
      → all ≡ CompileUnit name directory line_program range_list ∷ others
      → RecordsFunctions e s number fs (CompileUnit name directory line_program range_list) others
      → list_any no_range fs ≡ false → list_any (λ (f : FunctionPart). any_call bad_number f.calls) fs ≡ false
      → UnitFunctionsRead fs
  unit_functions_read fs name directory line_program range_list others are recorded some plain =
      let limit = s.offset_limit in
      let root = CompileUnit name directory line_program range_list in
      let abstracts = map AbstractFunction recorded.abstract_names in
      let own = entries_of_functions fs recorded.refs in
      let end = EndOfChildren ∷ [] in
      let same : all ≡ root ∷ (abstracts ++ (own ++ end)) = are
      ∙ ap (λ (l : List Entry). root ∷ l) recorded.entries_are in
      let d1 = depth_after (pos 0) (declaration_of e root) in
      let fits_here : AllEntriesFit limit e (root ∷ (abstracts ++ (own ++ end))) =
      subst (λ (l : List Entry). AllEntriesFit limit e l) same fit in
      let fits_own =
      All-left fits own end (All-right fits abstracts (own ++ end) (All-tail fits root (abstracts ++
      (own ++ end)) fits_here))
      in
      let empty = abstract_read recorded.abstract_names d1 (own ++ end) in
      let read =
      functions_read fs recorded.refs d1 (root ∷ abstracts) end same
      (subst (λ (l : List Entry). AllRecorded e s number l fs recorded.refs)
      (sym are) recorded.are_recorded) fits_own some
      plain in
      let found : each (function_of unit) (rows_from (pos 0) all) ≡ Ok (empty.gs ++ (read.gs ++ [])) =
      ap (λ (l : List Entry). each (function_of unit) (rows_from (pos 0) l)) same
      ∙ empty.are (read.gs ++ []) (read.are [] refl) in
      record {
        gs = read.gs;
        are =
            ap (λ (l : Listing Walk Row). functions_of_rows unit l)
            (rows_again limit is_subprogram e end_offset (pos 0) is_big
            (unit_for e is_big offset first all).entries.first all is_size fit)
            ∙ ap (λ q. and_then q (λ fs. Ok (filter has_range fs))) found
            ∙ ap (λ l. Ok l)
            (filter-append has_range empty.gs (read.gs ++ [])
            ∙ ap (λ l. l ++ filter has_range (read.gs ++ [])) empty.have_none
            ∙ ap (filter has_range) (append-nil read.gs) ∙ read.have_ranges);
        agree = read.agree;
      }
