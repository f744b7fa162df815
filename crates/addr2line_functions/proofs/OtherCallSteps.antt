-- Entries below a function that are skipped: they are no calls, and the nesting stays.
use Rattle.std.proofs.Common.{◌≡◌, ℕ, ◌≤◌, ℤ, pos, ◌≤ℤ◌, ◌<ℤ◌, int_lt, Bool, true, false, cond, ◌||◌, ◌==◌, List, [], ◌∷◌, length, Option, Some, None, refl, sym, ap, subst, ◌∙◌, arith}
use Rattle.std.proofs.lemmas.Int.{ints}
use Rattle.std.proofs.lemmas.Bool.Decides.{nat_tests}
use Rattle.gimli_units_entries.specs.View.{bytes_left}
use Rattle.gimli_units_entries.specs.TheConstants.{DW_TAG_inlined_subroutine, DW_TAG_subprogram}
use Rattle.gimli_units_entries.specs.EntryWalks.{Walk}
use Rattle.gimli_units_entries.specs.EntryRows.{Row, row_choosing}
use Rattle.gimli_units_entries.specs.OtherEntries.{is_tag_of, after_other, skip_others}
use Rattle.gimli_units_entries.proofs.OtherEntryLemmas.{skip_others-keeps}
use Rattle.addr2line_names.specs.UnitFacts.{UnitInFile}
use Rattle.addr2line_ranges.specs.Functions.{is_subprogram}
use Rattle.addr2line_ranges.specs.InlinedCalls.{Naming, enclosing_rows, is_inlined}
use Rattle.addr2line_ranges.proofs.EntryLevels.{leads, lt_from, lt_is, not_lt_is, enclosing_rows-same}
use Rattle.addr2line_functions.specs.CallNesting.{Nesting, no_nesting, leave, shallower, inside_of, nesting_tags, nearest, skip_inside_of, skip_inside, is_call_where, call_depth, call_if, calls_from}
use Rattle.addr2line_functions.proofs.OtherEntrySteps.{other_row, others_within}
use Rattle.addr2line_functions.proofs.NestingLemmas.{Matches, nesting_of, opens, leave-twice, is_in_all}
use Rattle.addr2line_functions.proofs.CallEntrySteps.{calls_then-none, HasEntry, calls-more}

-- no entry before is at the level of the function, or above
abbrev pub AreBelow : List Row → Type 0
AreBelow before = (d : ℤ) → d ≤ℤ pos 1 → enclosing_rows d before ≡ []

pub below_first : AreBelow []
below_first d le = refl

pub below_more : (r : Row) (before : List Row) → pos 0 <ℤ r.depth → AreBelow before → AreBelow (r ∷ before)
below_more r before some h d le = enclosing_rows-same d r before (omega (arith, ints, some, le)) ∙ h d le

-- nothing of a nesting is at the level of the function, or above
leave_one : (w : Walk) (before : List Row) (o : Nesting) → AreBelow before → Matches before w.depth o
    → leave (pos 1) (leave w.depth o) ≡ no_nesting
leave_one w before o below same = by (int_lt (pos 0) w.depth) refl
  where
    by : (b : Bool) → int_lt (pos 0) w.depth ≡ b → leave (pos 1) (leave w.depth o) ≡ no_nesting
    by true e =
        let lt = lt_is (pos 0) w.depth e in
        let le : pos 1 ≤ℤ w.depth = omega (arith, ints, lt) in
        leave-twice (pos 1) w.depth o le ∙ same (pos 1) le ∙ ap opens (below (pos 1) (omega (arith, ints)))
    by false e =
        let low = not_lt_is (pos 0) w.depth e in
        ap (leave (pos 1))
        (same w.depth (omega (arith, ints)) ∙ ap opens (below w.depth (omega (arith, ints, low))))

abbrev none_of : List ℤ
none_of = []

abbrev no_depth : Option ℤ
no_depth = None

low_call : (x : ℤ) (xs : List ℤ) (b : Bool) → int_lt x (pos 1) ≡ b → cond b (x ∷ xs) (shallower (pos 1) xs) ≡ none_of
    → pos 0 ≤ℤ x
low_call x xs true e h = absurd cc
low_call x xs false e h = let le = not_lt_is x (pos 1) e in omega (arith, ints, le)

low_nested : (x : ℤ) (b : Bool) → int_lt x (pos 1) ≡ b → cond b (Some x) no_depth ≡ no_depth → pos 0 ≤ℤ x
low_nested x true e h = absurd cc
low_nested x false e h = let le = not_lt_is x (pos 1) e in omega (arith, ints, le)

nearest_below : (calls : List ℤ) → shallower (pos 1) calls ≡ none_of → pos 0 ≤ℤ nearest calls
nearest_below [] h = omega (arith, ints)
nearest_below (x ∷ xs) h = low_call x xs (int_lt x (pos 1)) refl h

in_nearest : (calls : List ℤ) (d : ℤ) → nearest calls <ℤ d → leave d (nesting_of calls None) ≡ nesting_of calls None
in_nearest [] d lt = refl
in_nearest (x ∷ xs) d lt = ap (λ b. nesting_of (cond b (x ∷ xs) (shallower d xs)) None) (lt_from x d lt)

-- ---- the tags of what is skipped

both_other : (b c : Bool) → (b || (c || false)) ≡ false → (b ≡ false) × (c ≡ false)
both_other true c h = absurd cc
both_other false true h = absurd cc
both_other false false h = (refl, refl)

abbrev opens_none : ℕ → Bool
opens_none = is_tag_of nesting_tags

not_inlined : (n : ℕ) → opens_none n ≡ false → is_inlined n ≡ false
not_inlined n h =
    let other : (DW_TAG_inlined_subroutine.0 == n) ≡ false =
    (both_other (DW_TAG_inlined_subroutine.0 == n) (DW_TAG_subprogram.0 == n) h).0 in
    grind (arith, nat_tests)

not_subprogram : (n : ℕ) → opens_none n ≡ false → is_subprogram n ≡ false
not_subprogram n h =
    let other : (DW_TAG_subprogram.0 == n) ≡ false =
    (both_other (DW_TAG_inlined_subroutine.0 == n) (DW_TAG_subprogram.0 == n) h).1 in
    grind (arith, nat_tests)

-- entries of tags that aren't looked for leave the nesting as it is
record LeavesNesting (choice : ℕ → Bool) (bound : ℤ) (o : Nesting) : Type 0 where
  null : choice 0 ≡ false
  no_call : (n : ℕ) → choice n ≡ false → is_call_where o n ≡ false
  opens_nothing : (n : ℕ) (d : ℤ) → choice n ≡ false → inside_of n d o ≡ o
  below : pos 0 ≤ℤ bound
  deep : (d : ℤ) → bound <ℤ d → leave d o ≡ o

leaves_calls : (calls : List ℤ) → pos 0 ≤ℤ nearest calls
    → LeavesNesting opens_none (nearest calls) (nesting_of calls None)
leaves_calls calls below = record {
  null = refl;
  no_call = λ n h. not_inlined n h;
  opens_nothing = λ n d h.
      ap (λ b. cond b (nesting_of calls (Some d))
      (cond (is_inlined n) (nesting_of (d ∷ calls) None) (nesting_of calls None))) (not_subprogram n h)
      ∙ ap (λ b. cond b (nesting_of (d ∷ calls) None) (nesting_of calls None)) (not_inlined n h);
  below = below;
  deep = in_nearest calls;
}

leaves_nested : (calls : List ℤ) (n : ℤ) → pos 0 ≤ℤ n
    → ((d : ℤ) → n <ℤ d → leave d (nesting_of calls (Some n)) ≡ nesting_of calls (Some n))
    → LeavesNesting (is_tag_of []) n (nesting_of calls (Some n))
leaves_nested calls n below deep = record {
  null = refl;
  no_call = λ k h. refl;
  opens_nothing = λ k d h. refl;
  below = below;
  deep = deep;
}

-- ---- what is skipped

module _ (limit : ℕ) (u : UnitInFile) (naming : Naming) where
  -- entries were skipped, and the calls to come are the same
  pub record SameCalls (before : List Row) (w : Walk) (o : Nesting) (x : Walk) : Type 0 where
    pub rows : List Row
    pub matches : Matches rows x.depth o
    pub below : AreBelow rows
    pub same : calls_from limit u naming (record { walk = x; before = rows })
        ≡ calls_from limit u naming (record { walk = w; before = before })

  other-call : (choice : ℕ → Bool) (bound : ℤ) (o : Nesting) → LeavesNesting choice bound o
      → (before : List Row) (w x t : Walk) → int_lt bound x.depth ≡ true → after_other choice x ≡ Some t
      → SameCalls before w o x → SameCalls before w o t
  other-call choice bound o leaves before w x t above next s =
      let lt = lt_is bound x.depth above in
      let low = leaves.below in
      let some : pos 0 <ℤ x.depth = omega (arith, ints, lt, low) in
      let stays = leaves.deep x.depth lt in
      let r = other_row limit (is_call_where o) choice leaves.null leaves.no_call x t next in
      let h : HasEntry limit u naming x t o o None = record {
        row = r.row;
        read = ap (λ (k : Nesting). row_choosing limit (is_call_where k) x) stays ∙ r.read;
        called = ap (λ (k : Nesting). call_if u naming r.row (call_depth k r.row.tag)) stays
            ∙ ap (λ (b : Bool). call_if u naming r.row (cond b (Some (length o.calls)) None))
            (leaves.no_call r.row.tag r.is_other);
        leads_to = ap (inside_of r.row.tag r.row.depth) stays
            ∙ leaves.opens_nothing r.row.tag r.row.depth r.is_other;
      } in
      let more = calls-more limit u naming [] s.rows x t o o None some s.matches h in
      let at = (leads limit (is_call_where o) x t r.row r.read).at in
      record {
        rows = r.row ∷ s.rows;
        matches = more.0;
        below = below_more r.row s.rows (omega (arith, ints, some, at)) s.below;
        same =
            sym (calls_then-none (calls_from limit u naming (record { walk = t; before = r.row ∷ s.rows })))
            ∙ more.1 ∙ calls_then-none (calls_from limit u naming (record { walk = x; before = s.rows }))
            ∙ s.same;
      }

  calls-kept : (choice : ℕ → Bool) (bound : ℤ) (o : Nesting) → LeavesNesting choice bound o
      → (before : List Row) (w : Walk) → SameCalls before w o w
      → SameCalls before w o (skip_others choice bound w)
  calls-kept choice bound o leaves before w s =
      skip_others-keeps (SameCalls before w o) choice bound (other-call choice bound o leaves before w) w s

  by_nesting : (before : List Row) (w : Walk) (calls : List ℤ) (nested : Option ℤ)
      → leave (pos 1) (nesting_of calls nested) ≡ no_nesting
      → ((n d : ℤ) → nested ≡ Some n → n <ℤ d → leave d (nesting_of calls nested) ≡ nesting_of calls nested)
      → SameCalls before w (nesting_of calls nested) w
      → SameCalls before w (nesting_of calls nested) (skip_inside_of calls nested w)
  by_nesting before w calls None one deep s =
      calls-kept opens_none (nearest calls) (nesting_of calls None)
      (leaves_calls calls (nearest_below calls (ap (λ (o : Nesting). o.calls) one))) before w s
  by_nesting before w calls (Some n) one deep s =
      calls-kept (is_tag_of []) n (nesting_of calls (Some n))
      (leaves_nested calls n (low_nested n (int_lt n (pos 1)) refl (ap (λ (o : Nesting). o.nested) one))
      (λ d lt. deep n d refl lt)) before w s

  -- after all that is skipped in what an entry is in
  pub calls-found : (before : List Row) (w t : Walk) (o now : Nesting) → AreBelow before → Matches before w.depth o
      → now ≡ leave w.depth o → t ≡ skip_inside now w → SameCalls before w now t
  calls-found before w t o now below same is skips =
      let here = leave w.depth o in
      let P : Walk → Type 0 = SameCalls before w now in
      let N : Nesting → Type 0 = λ x. SameCalls before w x (skip_inside x w) in
      let D : Nesting → Type 0 = λ x. (n d : ℤ) → x.nested ≡ Some n → n <ℤ d → leave d x ≡ x in
      let at : here ≡ opens (enclosing_rows w.depth before) = same w.depth (omega (arith, ints)) in
      subst P (sym skips) (subst N (sym is)
      (by_nesting before w here.calls here.nested (leave_one w before o below same)
      (subst D (sym at) (is_in_all w.depth before).nested)
      (record {
        rows = before;
        matches = λ d le. leave-twice d w.depth o le ∙ same d le;
        below = below;
        same = refl;
      })))

-- no more bytes are left than before
inside_of_within : (calls : List ℤ) (nested : Option ℤ) (w : Walk)
    → bytes_left (skip_inside_of calls nested w).rest ≤ bytes_left w.rest
inside_of_within calls None w = others_within (is_tag_of nesting_tags) (nearest calls) w
inside_of_within calls (Some n) w = others_within (is_tag_of []) n w

pub inside_within : (o : Nesting) (w : Walk) → bytes_left (skip_inside o w).rest ≤ bytes_left w.rest
inside_within o w = inside_of_within o.calls o.nested w
