-- Each row of a unit is, but for its depth, what is found at its offset.
use Rattle.std.proofs.Common.{◌≡◌, ℕ, ℤ, zero, suc, ◌-◌, ◌≤◌, ◌<◌, Bool, true, false, cond, List, [], length, Option, Some, None, Result, Ok, Err, pos, refl, sym, ◌∙◌, ap, subst, arith, length-drop}
use Rattle.std.specs.Prelude.{◌^◌, ◌&&◌, nat_lt, All}
use Rattle.std.proofs.lemmas.Bool.{le-leb, lt-ltb}
use Rattle.std.proofs.lemmas.List.Elements.{All-nil, All-cons}
use Rattle.gimli_core_base.specs.declared.error.Error.{Error}
use Rattle.gimli_core_base.specs.declared.error.Error.TheVariants.{BadUnsignedLeb128}
use Rattle.gimli_core_base.specs.View.{View, after, bytes_left}
use Rattle.gimli_core_base.specs.Repetition.{next_item, item_or_end, items_within, listing_in}
use Rattle.gimli_core_base.proofs.StepParts.{state_is, read}
use Rattle.gimli_core_base.specs.declared.common.Encoding.{Encoding}
use Rattle.gimli_core_base.specs.declared.leb128.Fault.{Fault}
use Rattle.gimli_core_base.specs.declared.leb128.Fault.TheVariants.{Bad}
use Rattle.gimli_core_base.specs.Leb128.{bounded_string, unsigned_number, unsigned_of, unsigned_at}
use Rattle.gimli_core_base.specs.NumberParsers.{number_and_rest, unsigned}
use Rattle.gimli_core_base.proofs.NumberReadSizes.{FitsIn, judged_fits_in}
use Rattle.gimli_units_forms.specs.Declarations.{Declaration}
use Rattle.gimli_units_forms.specs.AttributeValues.{RawAttribute}
use Rattle.gimli_units_forms.specs.Places.{IsAfter}
use Rattle.gimli_units_forms.proofs.PlaceLemmas.{IsAfter-self, IsAfter-IsAfter, IsAfter-fewer}
use Rattle.gimli_units_forms.proofs.FormSizes.{attributes-after}
use Rattle.gimli_units_headers.specs.UnitHeaders.{DebugUnit, IsWellFormed, length_including_self, header_size}
use Rattle.gimli_units_headers.specs.UnitOffsets.{is_in_bounds, if_in_bounds, bytes_from}
use Rattle.gimli_units_entries.specs.EntryWalks.{Walk, declaration_of_code, next_offset}
use Rattle.gimli_units_entries.specs.EntryRows.{Row, row_of, row, row_or_end, rows, not_null, not_null_in, row_of_walk, entry_at}
use Rattle.gimli_units_entries.specs.UnitEntries.{walk_before, walk_of}
use Rattle.gimli_units_entries.specs.EntryLaws.{any_tag, at_depth_0, IsFoundAgain}
use Rattle.gimli_units_entries.proofs.RowParts.{HasRow, walk_after_code, contents_in, row-parts, row-from, row-takes}
use Rattle.gimli_units_entries.proofs.RowLaws.{row-all, row-item, row-place}

-- ---- what a row leaves comes after its bytes

-- a number, and the length of its string
abbrev number_result : ℕ → ℕ → Result (ℕ × ℕ) Fault
number_result n k = Ok (n, k)

unsigned_fits : (bound : ℕ) (bytes : List ℕ) (r : Result (List ℕ) Fault) → ((s : List ℕ) → r ≡ Ok s → FitsIn s bytes)
    → (n k : ℕ) → unsigned_of bound r ≡ Ok (n, k) → k ≤ length bytes
unsigned_fits bound bytes (Err fault) string_fits n k e = absurd cc
unsigned_fits bound bytes (Ok s) string_fits n k e = by_test (nat_lt (unsigned_number s) bound) e
  where
    by_test : (b : Bool) → cond b (number_result (unsigned_number s) (length s)) (Err Bad) ≡ number_result n k
        → k ≤ length bytes
    by_test true h =
        let pair : (unsigned_number s, length s) ≡ (n, k) = cc in
        let same : length s ≡ k = ap (λ (p : ℕ × ℕ). p.1) pair in
        let fits = (string_fits s refl).fits in
        omega arith
    by_test false h = absurd cc

unsigned-after : (n : ℕ) (v w : View) → unsigned v ≡ Ok (n, w) → IsAfter v w
unfolding unsigned
unsigned-after n v w e = by_number (unsigned_at 10 (2 ^ 64) v.bytes) refl e
  where
    by_number : (r : Result (ℕ × ℕ) Fault) → unsigned_at 10 (2 ^ 64) v.bytes ≡ r
        → number_and_rest BadUnsignedLeb128 v r ≡ read n w → IsAfter v w
    by_number (Err fault) q h = absurd cc
    by_number (Ok p) q h = record {
      count = p.1;
      within = unsigned_fits (2 ^ 64) v.bytes (bounded_string 10 v.bytes) (judged_fits_in 10 v.bytes) p.0 p.1 q;
      rest = state_is p.0 n (after p.1 v) w h;
    }

contents-after : (limit : ℕ) (e : Encoding) (d : Option Declaration) (v w : View) (found : List RawAttribute)
    → contents_in limit any_tag e d v ≡ Ok (found, w) → IsAfter v w
contents-after limit e None v w found h =
    subst (λ (u : View). IsAfter v u) (state_is [] found v w h) (IsAfter-self v)
contents-after limit e (Some d) v w found h = attributes-after limit e d.attributes v w found h

row-after : (limit : ℕ) (w t : Walk) (r : Row) → HasRow limit any_tag w r t → IsAfter w.rest t.rest
row-after limit w t r h =
    let rest : h.rest ≡ t.rest = ap (λ (x : Walk). x.rest) h.leads in
    let all = IsAfter-IsAfter w.rest h.after_its_code h.rest
    (unsigned-after h.has_head.code w.rest h.after_its_code h.has_head.reads_code)
    (contents-after limit w.encoding h.declaration h.after_its_code h.rest h.found h.has_contents) in
    subst (λ (v : View). IsAfter w.rest v) rest all

-- ---- walks in a unit

abbrev unit_walk : DebugUnit → List Declaration → ℤ → View → Walk
unit_walk u table depth v =
    record { encoding = u.encoding; table = table; end_offset = length_including_self u; depth = depth; rest = v }

-- a walk over the entries of a unit, with its declarations
record InUnit (u : DebugUnit) (table : List Declaration) (w : Walk) : Type 0 where
  pub is : unit_walk u table w.depth w.rest ≡ w
  pub from : IsAfter u.entries w.rest

InUnit-next : (limit : ℕ) (u : DebugUnit) (table : List Declaration) (w t : Walk) (r : Row) → InUnit u table w
    → HasRow limit any_tag w r t → InUnit u table t
InUnit-next limit u table w t r i h = record {
  is =
      ap (λ (x : Walk). unit_walk u table x.depth x.rest) (sym h.leads)
      ∙ ap (λ (x : Walk). walk_after_code x h.declaration h.rest) i.is ∙ h.leads;
  from = IsAfter-IsAfter u.entries w.rest t.rest i.from (row-after limit w t r h);
}

row_of-depth : (offset : ℕ) (depth : ℤ) (d : Option Declaration) (found : List RawAttribute)
    → row_of offset (pos 0) d found ≡ at_depth_0 (row_of offset depth d found)
row_of-depth offset depth None found = refl
row_of-depth offset depth (Some d) found = refl

-- the same row where a walk begins at it
row-again : (limit : ℕ) (u : DebugUnit) (table : List Declaration) (w t : Walk) (r : Row) → InUnit u table w
    → HasRow limit any_tag w r t → (s : Walk) × (row limit (walk_before u table w.rest) ≡ Ok (at_depth_0 r, s))
row-again limit u table w t r i h =
    let start = walk_before u table w.rest in
    let s = walk_after_code start h.declaration h.rest in
    let offset : next_offset start ≡ next_offset w = ap next_offset i.is in (
      s,
      sym (row-all limit start) ∙ row-from limit any_tag start s (at_depth_0 r) (record {
        declaration = h.declaration;
        after_its_code = h.after_its_code;
        rest = h.rest;
        found = h.found;
        has_head =
            record {
              code = h.has_head.code;
              reads_code = h.has_head.reads_code;
              declares = ap (λ (x : Walk). declaration_of_code h.has_head.code
                  x.table) i.is ∙ h.has_head.declares;
            };
        has_contents =
            ap (λ (x : Walk). contents_in limit any_tag x.encoding h.declaration h.after_its_code) i.is
            ∙ h.has_contents;
        is_row =
            row_of-depth (next_offset start) w.depth h.declaration h.found
            ∙ ap (λ (o : ℕ). at_depth_0 (row_of o w.depth h.declaration h.found)) offset ∙ ap at_depth_0 h.is_row;
        leads = refl;
      }),
    )

-- ---- the entry at a row's offset

abbrev view_result : View → Result View Error
view_result v = Ok v

-- the bytes from there on are the walk's
bytes_from-walk : (most : ℕ) (u : DebugUnit) (v : View) (offset : ℕ) → IsWellFormed most u → IsAfter u.entries v
    → 0 < bytes_left v → offset ≡ length_including_self u - bytes_left v → bytes_from u offset ≡ Ok v
bytes_from-walk most u v offset h b some e =
    let fewer = IsAfter-fewer u.entries v b in
    let whole = h.is_whole in
    let there = b.within in
    let left : bytes_left (after b.count u.entries) ≡ bytes_left v = ap bytes_left b.rest in
    let dropped = length-drop b.count u.entries.bytes in
    let above : header_size u ≤ offset = omega arith in
    let below : offset < length_including_self u = omega arith in
    let passed : offset - header_size u ≡ b.count = omega arith in
    let inside : is_in_bounds u offset
    ≡ true = ap (λ (x : Bool). x && nat_lt offset (length_including_self u)) (le-leb (header_size u) offset above)
    ∙ lt-ltb offset (length_including_self u) below in
    ap (λ (x : Bool). if_in_bounds x (after (offset - header_size u) u.entries)) inside
    ∙ ap (λ (n : ℕ). view_result (after n u.entries)) passed ∙ ap view_result b.rest

row-lookup : (limit most : ℕ) (u : DebugUnit) (table : List Declaration) (w t : Walk) (r : Row) → IsWellFormed most u
    → InUnit u table w → HasRow limit any_tag w r t → entry_at limit u table r.offset ≡ not_null r.offset (at_depth_0 r)
unfolding entry_at
row-lookup limit most u table w t r read_well i h =
    let less = row-takes limit any_tag w t r h in
    let place = (row-place limit any_tag w t r h).0 in
    let offset : r.offset ≡ length_including_self u - bytes_left w.rest = place ∙ sym (ap next_offset i.is) in
    let again = row-again limit u table w t r i h in
    ap (λ (x : Result View Error). row_of_walk limit r.offset (walk_of u table x))
    (bytes_from-walk most u w.rest r.offset read_well i.from (omega arith) offset)
    ∙ ap (not_null_in r.offset) again.1

-- ---- all rows

all-lookups : (limit most : ℕ) (u : DebugUnit) (table : List Declaration) → IsWellFormed most u → (n : ℕ) (w : Walk)
    → InUnit u table w → All (IsFoundAgain limit u table) (items_within n (row_or_end limit any_tag) w).items
unfolding items_within
all-lookups limit most u table h zero w i = All-nil (IsFoundAgain limit u table)
all-lookups limit most u table h (suc n) w i =
    by_step (row_or_end limit any_tag w) refl (all-lookups limit most u table h n)
  where
    optional : (o : Option Row) (t : Walk) → row_or_end limit any_tag w ≡ Ok (o, t)
        → (InUnit u table t → All (IsFoundAgain limit u table) (items_within n (row_or_end limit any_tag) t).items)
        → All (IsFoundAgain limit u table) (item_or_end o t (items_within n (row_or_end limit any_tag))).items
    optional None t e again = All-nil (IsFoundAgain limit u table)
    optional (Some r) t e again =
        let parts = row-parts limit any_tag w t r (row-item limit any_tag w t r e) in
        All-cons (IsFoundAgain limit u table) r (items_within n (row_or_end limit any_tag) t).items
        (row-lookup limit most u table w t r h i parts) (again (InUnit-next limit u table w t r i parts))

    by_step : (x : Result (Option Row × Walk) Error) → row_or_end limit any_tag w ≡ x
        → ((t : Walk) → InUnit u table t
        → All (IsFoundAgain limit u table) (items_within n (row_or_end limit any_tag) t).items)
        → All (IsFoundAgain limit u table) (next_item x (items_within n (row_or_end limit any_tag))).items
    by_step (Err d) e again = All-nil (IsFoundAgain limit u table)
    by_step (Ok p) e again = optional p.0 p.1 e (again p.1)

pub rows-lookups : (limit most : ℕ) (u : DebugUnit) (table : List Declaration) → IsWellFormed most u
    → All (IsFoundAgain limit u table) (rows limit any_tag (walk_before u table u.entries)).items
unfolding rows listing_in
rows-lookups limit most u table h =
    all-lookups limit most u table h (suc (bytes_left u.entries)) (walk_before u table u.entries)
    (record { is = refl; from = IsAfter-self u.entries })
