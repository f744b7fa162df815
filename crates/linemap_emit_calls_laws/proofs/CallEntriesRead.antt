-- The entries of calls are read as the table's calls, each at its depth.
use Rattle.std.proofs.Common.{◌≡◌, ℕ, suc, ◌+◌, ℤ, pos, ◌≤ℤ◌, ◌<ℤ◌, ◌+ℤ◌, ◌-ℤ◌, Bool, true, false, cond, not, ◌&&◌, ◌||◌, List, [], ◌∷◌, ◌++◌, length, filter, Result, Ok, Err, refl, sym, ap, ◌∙◌, arith, append_assoc}
use Rattle.std.proofs.lemmas.Int.{ints}
use Rattle.std.proofs.lemmas.Bool.{or_parts}
use Rattle.std.proofs.lemmas.List.Elements.{All-head, All-tail}
use Rattle.linemap_emit_units.specs.Error.{Error}
use Rattle.linemap_emit_units.specs.Encoding.{Encoding}
use Rattle.linemap_emit_units.specs.NumberParsers.{is_address_size}
use Rattle.linemap_emit_units.specs.Repetition.{Listing, prepend}
use Rattle.linemap_emit_units.specs.Results.{and_then, each}
use Rattle.linemap_emit_units.specs.EntryWalks.{Walk, depth_after}
use Rattle.linemap_emit_units.specs.EntryRows.{Row, row_choosing}
use Rattle.linemap_emit_units.specs.EntryLaws.{row_under_choice}
use Rattle.linemap_emit_units.proofs.RowLaws.{row-choice}
use Rattle.linemap_emit_units.specs.BytesAt.{bytes_at}
use Rattle.linemap_emit_units.specs.DwarfFiles.{DwarfFile}
use Rattle.linemap_emit_units.specs.UnitFacts.{UnitInFile}
use Rattle.linemap_emit_units.specs.TableParts.{Site, Calls, no_calls, more_calls}
use Rattle.linemap_emit_units.specs.Conditions.{any_call, is_bad_number}
use Rattle.linemap_emit_units.specs.Entry.{Entry}
use Rattle.linemap_emit_units.specs.Entry.TheVariants.{Call, EndOfChildren}
use Rattle.linemap_emit_units.specs.EmittedEntries.{AllFit, attributes_of, declaration_of, spelled_entry}
use Rattle.linemap_emit_units.specs.EmittedEntryRows.{walk_at, row_for, spelled_entries, place_before}
use Rattle.linemap_emit_units.specs.EmittedEntryLaws.{AllEntriesFit}
use Rattle.linemap_emit_units.proofs.EntryRowsRead.{row_again}
use Rattle.linemap_emit_units.proofs.InlinedNameLemmas.{All-left, All-right}
use Rattle.addr2line_functions.specs.InlinedCalls.{Call as FoundCall, FunctionWalk, NestedEntry, Naming, enclosing_rows, is_nested, is_inlined, is_call_in, is_call, calls_above, call_at, call_of, entries_below}
use Rattle.linemap_frames_laws.specs.CallAgreement.{CallAgrees, CallsAgree, calls_at_depth}
use Rattle.linemap_emit_calls_laws.specs.RecordedFunctions.{CallReferences, no_references, more_references, entries_of_calls, RecordsCall, RecordsCalls}
use Rattle.addr2line_functions.proofs.EntryLevels.{enclosing_rows-same, enclosing_rows-more}
use Rattle.linemap_frames_laws.proofs.AgreeingFrames.{one-append}
use Rattle.linemap_emit_calls_laws.proofs.EntryDepths.{deeper, less_deep}
use Rattle.addr2line_functions.proofs.CallEntrySteps.{entries-next}

-- ---- lists

pub each-append : {A B : Type 0} (f : A → Result B Error) (xs ys : List A) (us vs : List B) → each f xs ≡ Ok us
    → each f ys ≡ Ok vs → each f (xs ++ ys) ≡ Ok (us ++ vs)
each-append {A} {B} f [] ys us vs h k =
    let none : [] ≡ us = cc in k ∙ ap (λ (l : List B). Ok (l ++ vs)) none
each-append {A} {B} f (x ∷ xs) ys us vs h k = by_first (f x) refl h (λ zs is. each-append f xs ys zs vs is k)
  where
    by_rest : (y : B) (r : Result (List B) Error) → each f xs ≡ r → and_then r (λ zs. Ok (y ∷ zs)) ≡ Ok us
        → ((zs : List B) → each f xs ≡ Ok zs → each f (xs ++ ys) ≡ Ok (zs ++ vs))
        → and_then (each f (xs ++ ys)) (λ zs. Ok (y ∷ zs)) ≡ Ok (us ++ vs)
    by_rest y (Ok zs) is whole later =
        let same : y ∷ zs ≡ us = cc in
        ap (λ q. and_then q (λ zs. Ok (y ∷ zs))) (later zs is) ∙ ap (λ (l : List B). Ok (l ++ vs)) same
    by_rest y (Err d) is whole later = absurd cc

    by_first : (r : Result B Error) → f x ≡ r
        → and_then r (λ y. and_then (each f xs) (λ zs. Ok (y ∷ zs))) ≡ Ok us
        → ((zs : List B) → each f xs ≡ Ok zs → each f (xs ++ ys) ≡ Ok (zs ++ vs))
        → and_then r (λ y. and_then (each f (xs ++ ys)) (λ zs. Ok (y ∷ zs))) ≡ Ok (us ++ vs)
    by_first (Ok y) is whole later = by_rest y (each f xs) refl whole later
    by_first (Err d) is whole later = absurd cc

pub filter-append : {A : Type 0} (p : A → Bool) (xs ys : List A) → filter p (xs ++ ys) ≡ filter p xs ++ filter p ys
filter-append p [] ys = refl
filter-append {A} p (x ∷ xs) ys = by (p x) (filter-append p xs ys)
  where
    by : (b : Bool) → filter p (xs ++ ys) ≡ filter p xs ++ filter p ys
        → cond b (x ∷ filter p (xs ++ ys)) (filter p (xs ++ ys)) ≡ cond b (x ∷ filter p xs) (filter p xs) ++ filter p ys
    by true later = ap (λ l. x ∷ l) later
    by false later = later

-- listings one after the other, with an item before each of two
joined : {S A : Type 0} (l0 l1 l2 l3 l4 : Listing S A) (x y : A) (xs ys : List A) → l0 ≡ prepend (x ∷ []) l1
    → l1 ≡ prepend xs l2 → l2 ≡ prepend (y ∷ []) l3 → l3 ≡ prepend ys l4 → l0 ≡ prepend (x ∷ (xs ++ (y ∷ ys))) l4
joined {S} {A} l0 l1 l2 l3 l4 x y xs ys g h k m =
    g ∙ ap (λ (l : Listing S A). prepend (x ∷ []) l) (h ∙ ap (λ (l : Listing S A). prepend xs l)
    (k ∙ ap (λ (l : Listing S A). prepend (y ∷ []) l) m)
    ∙ ap (λ (zs : List A). record { items = zs; ending = l4.ending }) (sym (append_assoc xs (y ∷ ys) l4.items)))

none_or_none : {A : Type 0} (b : Bool) → cond {A = List A} b [] [] ≡ []
none_or_none true = refl
none_or_none false = refl

and_none : (b : Bool) → (b && false) ≡ false
and_none true = refl
and_none false = refl

-- ---- one entry

module _ (limit : ℕ) (e : Encoding) (is_big : Bool) (end_offset : ℕ) (is_size : is_address_size e.address_size ≡ true)
  where
    -- a walk at a depth before entries
    abbrev pub walk_before_entries : ℕ → ℕ → List Entry → Walk
    walk_before_entries d first xs =
        walk_at e end_offset (pos d) (bytes_at is_big first (spelled_entries e is_big xs))

    -- the same below a function
    abbrev pub inside : ℕ → ℕ → List Entry → List Row → FunctionWalk
    inside d first xs before = record { walk = walk_before_entries d first xs; before = before }

    -- the row of an entry before others
    abbrev pub row_here : ℕ → Entry → List Entry → Row
    row_here d x xs = row_for e (place_before e is_big end_offset (x ∷ xs)) (pos d) x

    read_entry : (chosen : ℕ → Bool) (d first : ℕ) (x : Entry) (xs : List Entry) → AllFit limit e (attributes_of x)
        → row_choosing limit chosen (walk_before_entries d first (x ∷ xs))
        ≡ Ok (
          row_under_choice chosen (row_here d x xs),
          walk_at e end_offset (depth_after (pos d) (declaration_of e x))
              (bytes_at is_big (first + length (spelled_entry e is_big x)) (spelled_entries e is_big xs)),
        )
    read_entry chosen d first x xs fit =
        row-choice limit chosen (walk_before_entries d first (x ∷ xs))
        (walk_at e end_offset (depth_after (pos d) (declaration_of e x))
        (bytes_at is_big (first + length (spelled_entry e is_big x)) (spelled_entries e is_big xs)))
        (row_here d x xs) (row_again limit e end_offset (pos d) is_big first x
        (spelled_entries e is_big xs) is_size fit)

    -- an entry below a function, with those that enclose it
    abbrev pub nested_entry : ℕ → Entry → List Entry → List Row → NestedEntry
    nested_entry d x xs before = record { row = row_here d x xs; outer = enclosing_rows (pos d) before }

    some_depth : (k : ℕ) → pos 0 <ℤ pos (k + 1)
    some_depth k = omega (arith, ints)

    -- a call with others in it
    pub call_opens : (k first : ℕ) (before : List Row) (origin range_list file line column : ℕ) (xs : List Entry)
        → AllFit limit e (attributes_of (Call true origin range_list file line column))
        → is_nested (enclosing_rows (pos (k + 1)) before) ≡ false
        → let x = Call true origin range_list file line column in
        entries_below limit (inside (k + 1) first (x ∷ xs) before)
        ≡ prepend (nested_entry (k + 1) x xs before ∷ [])
        (entries_below limit
        (inside (k + 1 + 1) (first + length (spelled_entry e is_big x)) xs (row_here (k + 1) x xs ∷ before)))
    call_opens k first before origin range_list file line column xs fit plain =
        let x = Call true origin range_list file line column in
        let outer = enclosing_rows (pos (k + 1)) before in
        let r = row_here (k + 1) x xs in
        let rest = bytes_at is_big (first + length (spelled_entry e is_big x)) (spelled_entries e is_big xs) in
        entries-next limit (inside (k + 1) first (x ∷ xs) before) r
        (walk_before_entries (k + 1 + 1) (first + length (spelled_entry e is_big x)) xs) (some_depth k)
        (read_entry (is_call_in outer) (k + 1) first x xs fit
        ∙ ap (λ b. Ok (
          record {
            offset = r.offset;
            depth = r.depth;
            tag = r.tag;
            has_children = r.has_children;
            attributes = cond (not b && true) r.attributes [];
          },
          walk_at e end_offset (pos (k + 1) +ℤ pos 1) rest,
        )) plain
        ∙ ap (λ d. Ok (r, walk_at e end_offset d rest)) (deeper (k + 1)))

    -- a call without
    pub call_stands : (k first : ℕ) (before : List Row) (origin range_list file line column : ℕ) (xs : List Entry)
        → AllFit limit e (attributes_of (Call false origin range_list file line column))
        → is_nested (enclosing_rows (pos (k + 1)) before) ≡ false
        → let x = Call false origin range_list file line column in
        entries_below limit (inside (k + 1) first (x ∷ xs) before)
        ≡ prepend (nested_entry (k + 1) x xs before ∷ [])
        (entries_below limit
        (inside (k + 1) (first + length (spelled_entry e is_big x)) xs (row_here (k + 1) x xs ∷ before)))
    call_stands k first before origin range_list file line column xs fit plain =
        let x = Call false origin range_list file line column in
        let outer = enclosing_rows (pos (k + 1)) before in
        let r = row_here (k + 1) x xs in
        let next = walk_before_entries (k + 1) (first + length (spelled_entry e is_big x)) xs in
        entries-next limit (inside (k + 1) first (x ∷ xs) before) r next (some_depth k)
        (read_entry (is_call_in outer) (k + 1) first x xs fit
        ∙ ap (λ b. Ok (
          record {
            offset = r.offset;
            depth = r.depth;
            tag = r.tag;
            has_children = r.has_children;
            attributes = cond (not b && true) r.attributes [];
          },
          next,
        )) plain)

    -- the end of children
    pub children_end : (k first : ℕ) (before : List Row) (xs : List Entry)
        → entries_below limit (inside (k + 1) first (EndOfChildren ∷ xs) before)
        ≡ prepend (nested_entry (k + 1) EndOfChildren xs before ∷ [])
        (entries_below limit
        (inside k (first + length (spelled_entry e is_big EndOfChildren)) xs
        (row_here (k + 1) EndOfChildren xs ∷ before)))
    children_end k first before xs =
        let outer = enclosing_rows (pos (k + 1)) before in
        let r = row_here (k + 1) EndOfChildren xs in
        let rest =
        bytes_at is_big (first + length (spelled_entry e is_big EndOfChildren)) (spelled_entries e is_big xs) in
        entries-next limit (inside (k + 1) first (EndOfChildren ∷ xs) before) r
        (walk_before_entries k (first + length (spelled_entry e is_big EndOfChildren)) xs) (some_depth k)
        (read_entry (is_call_in outer) (k + 1) first EndOfChildren xs tt
        ∙ ap (λ l. Ok (
          record { offset = r.offset; depth = r.depth; tag = r.tag; has_children = r.has_children; attributes = l },
          walk_at e end_offset (pos (k + 1) -ℤ pos 1) rest,
        )) (none_or_none (is_call_in outer 0))
        ∙ ap (λ d. Ok (r, walk_at e end_offset d rest)) (less_deep k))

    -- ---- calls, each with those in it

    -- how calls of a depth are read
    pub record CallsRead (u : UnitInFile) (naming : Naming) (number : ℕ → ℕ) (k : ℕ) (cs : Calls)
        (i : FunctionWalk) (rest : List Entry) : Type 0 where
      pub items : List NestedEntry
      pub next_first : ℕ
      pub before : List Row
      pub below : entries_below limit i ≡ prepend items (entries_below limit (inside (k + 1) next_first rest before))
      pub keeps : (d : ℤ) → d ≤ℤ pos (k + 1) → enclosing_rows d before ≡ enclosing_rows d i.before
      pub flat : List FoundCall
      pub each_is : each (call_of u naming) (filter is_call items) ≡ Ok flat
      pub agree : CallsAgree number k cs flat

    -- what is read of the entry of one call
    abbrev pub ReadsCalls : DwarfFile → UnitInFile → Naming → (ℕ → ℕ) → List Entry → Type 0
    ReadsCalls s u naming number all =
        (site : Site) (origin range_list file : ℕ) → RecordsCall e s number all site origin range_list file
        → (is_bad_number site.line || is_bad_number site.column) ≡ false
        → (children : Bool) (k : ℕ) (xs : List Entry)
        → (c : FoundCall)
        × (call_at u naming k (row_here (k + 1) (Call children origin range_list file site.line site.column) xs) ≡ Ok c)
        × CallAgrees number (record { depth = k; site = site }) c

    module _ (s : DwarfFile) (u : UnitInFile) (naming : Naming) (number : ℕ → ℕ) (all : List Entry)
        (reads : ReadsCalls s u naming number all) where
      abbrev has_bad_number : Site → Bool
      has_bad_number c = is_bad_number c.line || is_bad_number c.column

      -- a call of the function itself
      one_call : (k : ℕ) (x : Entry) (xs : List Entry) (before : List Row) (items : List NestedEntry)
          (c : FoundCall) (flat : List FoundCall) → is_inlined (row_here (k + 1) x xs).tag ≡ true
          → is_nested (enclosing_rows (pos (k + 1)) before) ≡ false
          → calls_above (enclosing_rows (pos (k + 1)) before) ≡ k
          → call_at u naming k (row_here (k + 1) x xs) ≡ Ok c → each (call_of u naming) (filter is_call items) ≡ Ok flat
          → each (call_of u naming) (filter is_call (nested_entry (k + 1) x xs before ∷ items)) ≡ Ok (c ∷ flat)
      one_call k x xs before items c flat inlined plain above is others =
          let here = nested_entry (k + 1) x xs before in
          ap (λ b. each (call_of u naming) (cond (not b && is_inlined here.row.tag)
          (here ∷ filter is_call items) (filter is_call items))) plain
          ∙ ap (λ b. each (call_of u naming) (cond b (here ∷ filter is_call items) (filter is_call items))) inlined
          ∙ ap (λ n. and_then (call_at u naming n here.row) (λ y. and_then (each (call_of u naming)
          (filter is_call items))
          (λ ys. Ok (y ∷ ys)))) above
          ∙ ap (λ q. and_then q (λ y. and_then (each (call_of u naming) (filter is_call items))
          (λ ys. Ok (y ∷ ys)))) is
          ∙ ap (λ q. and_then q (λ ys. Ok (c ∷ ys))) others

      -- the end of children is none
      pub no_call : (k : ℕ) (xs : List Entry) (before : List Row) (items : List NestedEntry)
          → filter is_call (nested_entry (k + 1) EndOfChildren xs before ∷ items) ≡ filter is_call items
      no_call k xs before items =
          ap (λ b. cond b (nested_entry (k + 1) EndOfChildren xs before ∷ filter is_call items) (filter is_call items))
          (and_none (not (is_nested (enclosing_rows (pos (k + 1)) before))))

      pub calls_read : (cs : Calls) (refs : CallReferences) (k first : ℕ) (before : List Row) (rest : List Entry)
          → RecordsCalls e s number all cs refs → AllEntriesFit limit e (entries_of_calls cs refs)
          → any_call has_bad_number cs ≡ false
          → is_nested (enclosing_rows (pos (k + 1)) before) ≡ false
          → calls_above (enclosing_rows (pos (k + 1)) before) ≡ k
          → CallsRead u naming number k cs (inside (k + 1) first (entries_of_calls cs refs ++ rest) before) rest
      unfolding entries_of_calls RecordsCalls
      calls_read no_calls refs k first before rest recorded fit low plain above = record {
        items = [];
        next_first = first;
        before = before;
        below = refl;
        keeps = λ d h. refl;
        flat = [];
        each_is = refl;
        agree = tt;
      }
      calls_read (more_calls site no_calls others) no_references k first before rest recorded fit low plain above =
          absurd recorded
      calls_read (more_calls site (more_calls site' inner others') others) no_references k first before rest recorded
          fit
          low plain above = absurd recorded
      calls_read (more_calls site no_calls others) (more_references origin range_list file within after) k first before
          rest recorded fit low plain above =
          let x = Call false origin range_list file site.line site.column in
          let xs = entries_of_calls others after ++ rest in
          let r = row_here (k + 1) x xs in
          let tests = or_parts (has_bad_number site || any_call has_bad_number no_calls)
          (any_call has_bad_number others) low in
          let own = or_parts (has_bad_number site) (any_call has_bad_number no_calls) tests.0 in
          let here = reads site origin range_list file recorded.0 own.0 false k xs in
          let level : pos (k + 1) ≤ℤ pos (k + 1) = omega (arith, ints) in
          let same = enclosing_rows-same (pos (k + 1)) r before level in
          let later =
          calls_read others after k (first + length (spelled_entry e is_big x)) (r ∷ before) rest recorded.2
          (All-tail (λ y. AllFit limit e (attributes_of y)) x (entries_of_calls others after) fit) tests.1
          (ap is_nested same ∙ plain) (ap calls_above same ∙ above) in
          record {
            items = nested_entry (k + 1) x xs before ∷ later.items;
            next_first = later.next_first;
            before = later.before;
            below = call_stands k first before origin range_list file site.line site.column xs
                (All-head (λ y. AllFit limit e (attributes_of y)) x (entries_of_calls others after) fit) plain
                ∙ ap (λ (l : Listing FunctionWalk NestedEntry). prepend (nested_entry (k + 1) x xs before ∷ []) l)
                later.below;
            keeps = λ d h. later.keeps d h ∙ enclosing_rows-same d r before h;
            flat = here.0 ∷ later.flat;
            each_is = one_call k x xs before later.items here.0 later.flat refl plain above here.1 later.each_is;
            agree = (here.2, later.agree);
          }
      calls_read (more_calls site (more_calls site' inner' others') others)
          (more_references origin range_list file within after) k first before rest recorded fit low plain above =
          let inner = more_calls site' inner' others' in
          let x = Call true origin range_list file site.line site.column in
          let own_entries = entries_of_calls inner within in
          let last = entries_of_calls others after in
          let xs = own_entries ++ (EndOfChildren ∷ (last ++ rest)) in
          let r = row_here (k + 1) x xs in
          let regroup : (own_entries ++ (EndOfChildren ∷ last)) ++ rest ≡ xs =
          append_assoc own_entries (EndOfChildren ∷ last) rest in
          let fits : Entry → Type 0 = λ y. AllFit limit e (attributes_of y) in
          let tail_fit = All-tail fits x (own_entries ++ (EndOfChildren ∷ last)) fit in
          let tests = or_parts (has_bad_number site || any_call has_bad_number inner)
          (any_call has_bad_number others) low in
          let own = or_parts (has_bad_number site) (any_call has_bad_number inner) tests.0 in
          let here = reads site origin range_list file recorded.0 own.0 true k xs in
          let level : pos (k + 1) ≤ℤ pos (k + 1) = omega (arith, ints) in
          let further : pos (k + 1) <ℤ pos (k + 1 + 1) = omega (arith, ints) in
          let opened : enclosing_rows (pos (k + 1 + 1)) (r ∷ before) ≡ r ∷ enclosing_rows (pos (k + 1)) before =
          enclosing_rows-more (pos (k + 1 + 1)) r before further in
          let one_more : calls_above (r ∷ enclosing_rows (pos (k + 1)) before) ≡ k + 1 =
          let next : suc k ≡ k + 1 = omega arith in ap suc above ∙ next in
          let middle =
          calls_read inner within (k + 1) (first + length (spelled_entry e is_big x)) (r ∷ before)
          (EndOfChildren ∷ (last ++ rest)) recorded.1 (All-left fits own_entries (EndOfChildren ∷ last) tail_fit) own.1
          (ap is_nested opened ∙ plain) (ap calls_above opened ∙ one_more) in
          let null = row_here (k + 1 + 1) EndOfChildren (last ++ rest) in
          let kept : (d : ℤ) → d ≤ℤ pos (k + 1) → enclosing_rows d (null ∷ middle.before) ≡ enclosing_rows d before =
          λ d h.
          let lower : d ≤ℤ pos (k + 1 + 1) = omega (arith, ints, h) in
          enclosing_rows-same d null middle.before lower ∙ middle.keeps d lower ∙ enclosing_rows-same d r before h in
          let later =
          calls_read others after k (middle.next_first + length (spelled_entry e is_big EndOfChildren))
          (null ∷ middle.before) rest recorded.2
          (All-tail fits EndOfChildren last (All-right fits own_entries (EndOfChildren ∷ last) tail_fit)) tests.1
          (ap is_nested (kept (pos (k + 1)) level) ∙ plain)
          (ap calls_above (kept (pos (k + 1)) level) ∙ above) in
          let end = nested_entry (k + 1 + 1) EndOfChildren (last ++ rest) middle.before in
          record {
            items = nested_entry (k + 1) x xs before ∷ (middle.items ++ (end ∷ later.items));
            next_first = later.next_first;
            before = later.before;
            below =
                ap (λ (l : List Entry). entries_below limit (inside (k + 1) first (x ∷ l) before)) regroup
                ∙ joined (entries_below limit (inside (k + 1) first (x ∷ xs) before))
                (entries_below limit
                (inside (k + 1 + 1) (first + length (spelled_entry e is_big x)) xs (r ∷ before)))
                (entries_below limit
                (inside (k + 1 + 1) middle.next_first (EndOfChildren ∷ (last ++ rest)) middle.before))
                (entries_below limit
                (inside (k + 1) (middle.next_first + length (spelled_entry e is_big EndOfChildren)) (last ++ rest)
                (null ∷ middle.before)))
                (entries_below limit (inside (k + 1) later.next_first rest later.before))
                (nested_entry (k + 1) x xs before) end middle.items later.items
                (call_opens k first before origin range_list file site.line site.column xs
                (All-head fits x (own_entries ++ (EndOfChildren ∷ last)) fit) plain)
                middle.below (children_end (k + 1) middle.next_first middle.before (last ++ rest)) later.below;
            keeps = λ d h. later.keeps d h ∙ kept d h;
            flat = here.0 ∷ (middle.flat ++ later.flat);
            each_is = one_call k x xs before (middle.items ++ (end ∷ later.items)) here.0
                (middle.flat ++ later.flat) refl
                plain above here.1
                (ap (each (call_of u naming)) (filter-append is_call middle.items (end ∷ later.items)
                ∙ ap (λ l. filter is_call middle.items ++ l)
                (no_call (k + 1) (last ++ rest) middle.before later.items))
                ∙ each-append (call_of u naming) (filter is_call middle.items) (filter is_call later.items) middle.flat
                later.flat middle.each_is later.each_is);
            agree = (
              here.2,
              one-append (CallAgrees number) (calls_at_depth (k + 1) inner) (calls_at_depth k others)
                  middle.flat later.flat middle.agree later.agree,
            );
          }
