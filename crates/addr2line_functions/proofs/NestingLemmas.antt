-- The nesting of an entry is that of the entries that it is in.
use Rattle.std.proofs.Common.{◌≡◌, ℕ, suc, ℤ, ◌≤ℤ◌, ◌<ℤ◌, int_lt, Bool, true, false, cond, not, ◌||◌, List, [], ◌∷◌, length, filter, Option, Some, None, is_none, refl, sym, ap, subst, ◌∙◌, arith}
use Rattle.std.proofs.lemmas.Int.{ints}
use Rattle.gimli_units_entries.specs.EntryWalks.{Walk}
use Rattle.gimli_units_entries.specs.EntryRows.{Row}
use Rattle.addr2line_ranges.specs.Functions.{is_subprogram}
use Rattle.addr2line_ranges.specs.InlinedCalls.{enclosing_rows, is_nested, is_inlined, calls_above}
use Rattle.addr2line_ranges.proofs.EntryLevels.{Leads, lt_from, not_lt_from, lt_is, not_lt_is, enclosing_rows-same, enclosing_rows-more}
use Rattle.addr2line_functions.specs.CallNesting.{Nesting, no_nesting, shallower, if_shallower, leave, inside_of}

-- ---- leaving twice

twice_by : (d e x : ℤ) (xs : List ℤ) (b : Bool) → int_lt x e ≡ b → d ≤ℤ e
    → shallower d (shallower e xs) ≡ shallower d xs
    → shallower d (cond b (x ∷ xs) (shallower e xs)) ≡ shallower d (x ∷ xs)
twice_by d e x xs true is le again = refl
twice_by d e x xs false is le again =
    let deep = not_lt_is x e is in
    again ∙ sym (ap (λ b. cond b (x ∷ xs) (shallower d xs)) (not_lt_from x d (omega (arith, ints))))

shallower-twice : (d e : ℤ) (xs : List ℤ) → d ≤ℤ e → shallower d (shallower e xs) ≡ shallower d xs
shallower-twice d e [] le = refl
shallower-twice d e (x ∷ xs) le = twice_by d e x xs (int_lt x e) refl le (shallower-twice d e xs le)

stays_by : (d e x : ℤ) (xs : List ℤ) (b : Bool) → int_lt x e ≡ b → e ≤ℤ d
    → shallower d (shallower e xs) ≡ shallower e xs
    → shallower d (cond b (x ∷ xs) (shallower e xs)) ≡ cond b (x ∷ xs) (shallower e xs)
stays_by d e x xs true is le again =
    let lt = lt_is x e is in
    ap (λ b. cond b (x ∷ xs) (shallower d xs)) (lt_from x d (omega (arith, ints)))
stays_by d e x xs false is le again = again

shallower-stays : (d e : ℤ) (xs : List ℤ) → e ≤ℤ d → shallower d (shallower e xs) ≡ shallower e xs
shallower-stays d e [] le = refl
shallower-stays d e (x ∷ xs) le = stays_by d e x xs (int_lt x e) refl le (shallower-stays d e xs le)

if_twice_by : (d e x : ℤ) (b : Bool) → int_lt x e ≡ b → d ≤ℤ e
    → if_shallower d (cond b (Some x) None) ≡ if_shallower d (Some x)
if_twice_by d e x true is le = refl
if_twice_by d e x false is le =
    let deep = not_lt_is x e is in
    sym (ap (λ b. cond b (Some x) None) (not_lt_from x d (omega (arith, ints))))

if_twice : (d e : ℤ) (o : Option ℤ) → d ≤ℤ e → if_shallower d (if_shallower e o) ≡ if_shallower d o
if_twice d e None le = refl
if_twice d e (Some x) le = if_twice_by d e x (int_lt x e) refl le

if_stays_by : (d e x : ℤ) (b : Bool) → int_lt x e ≡ b → e ≤ℤ d
    → if_shallower d (cond b (Some x) None) ≡ cond b (Some x) None
if_stays_by d e x true is le =
    let lt = lt_is x e is in
    ap (λ b. cond b (Some x) None) (lt_from x d (omega (arith, ints)))
if_stays_by d e x false is le = refl

if_stays : (d e : ℤ) (o : Option ℤ) → e ≤ℤ d → if_shallower d (if_shallower e o) ≡ if_shallower e o
if_stays d e None le = refl
if_stays d e (Some x) le = if_stays_by d e x (int_lt x e) refl le

-- a nesting of its parts
abbrev pub nesting_of : List ℤ → Option ℤ → Nesting
nesting_of calls nested = record { calls = calls; nested = nested }

nesting_of-same : (xs ys : List ℤ) (o p : Option ℤ) → xs ≡ ys → o ≡ p → nesting_of xs o ≡ nesting_of ys p
nesting_of-same xs ys o p h k = ap (λ l. nesting_of l o) h ∙ ap (nesting_of ys) k

pub leave-twice : (d e : ℤ) (o : Nesting) → d ≤ℤ e → leave d (leave e o) ≡ leave d o
leave-twice d e o le = nesting_of-same _ _ _ _ (shallower-twice d e o.calls le) (if_twice d e o.nested le)

leave-stays : (d e : ℤ) (o : Nesting) → e ≤ℤ d → leave d (leave e o) ≡ leave e o
leave-stays d e o le = nesting_of-same _ _ _ _ (shallower-stays d e o.calls le) (if_stays d e o.nested le)

-- ---- an entry entered, and left again

call_left : (d e : ℤ) (xs : List ℤ) (b : Bool) → d ≤ℤ e
    → leave d (cond b (nesting_of (e ∷ xs) None) (nesting_of xs None)) ≡ leave d (nesting_of xs None)
call_left d e xs true le = ap (λ c. nesting_of (cond c (e ∷ xs) (shallower d xs)) None) (not_lt_from e d le)
call_left d e xs false le = refl

entry_left : (d e : ℤ) (xs : List ℤ) (b c : Bool) → d ≤ℤ e
    → leave d (cond b (nesting_of xs (Some e)) (cond c (nesting_of (e ∷ xs) None) (nesting_of xs None)))
    ≡ leave d (nesting_of xs None)
entry_left d e xs true c le = ap (λ x. nesting_of (shallower d xs) (cond x (Some e) None)) (not_lt_from e d le)
entry_left d e xs false c le = call_left d e xs c le

inside_left : (d e : ℤ) (tag : ℕ) (xs : List ℤ) (nested : Option ℤ) → d ≤ℤ e
    → leave d (inside_of tag e (nesting_of xs nested)) ≡ leave d (nesting_of xs nested)
inside_left d e tag xs (Some x) le = refl
inside_left d e tag xs None le = entry_left d e xs (is_subprogram tag) (is_inlined tag) le

call_stays : (d e : ℤ) (xs : List ℤ) (b : Bool) → e <ℤ d → shallower d xs ≡ xs
    → leave d (cond b (nesting_of (e ∷ xs) None) (nesting_of xs None))
    ≡ cond b (nesting_of (e ∷ xs) None) (nesting_of xs None)
call_stays d e xs true lt h = ap (λ c. nesting_of (cond c (e ∷ xs) (shallower d xs)) None) (lt_from e d lt)
call_stays d e xs false lt h = ap (λ l. nesting_of l None) h

entry_stays : (d e : ℤ) (xs : List ℤ) (b c : Bool) → e <ℤ d → shallower d xs ≡ xs
    → leave d (cond b (nesting_of xs (Some e)) (cond c (nesting_of (e ∷ xs) None) (nesting_of xs None)))
    ≡ cond b (nesting_of xs (Some e)) (cond c (nesting_of (e ∷ xs) None) (nesting_of xs None))
entry_stays d e xs true c lt h = nesting_of-same _ _ _ _ h (ap (λ x. cond x (Some e) None) (lt_from e d lt))
entry_stays d e xs false c lt h = call_stays d e xs c lt h

inside_stays : (d e : ℤ) (tag : ℕ) (xs : List ℤ) (nested : Option ℤ) → e <ℤ d
    → leave d (nesting_of xs nested) ≡ nesting_of xs nested
    → leave d (inside_of tag e (nesting_of xs nested)) ≡ inside_of tag e (nesting_of xs nested)
inside_stays d e tag xs (Some x) lt h = h
inside_stays d e tag xs None lt h =
    entry_stays d e xs (is_subprogram tag) (is_inlined tag) lt (ap (λ (o : Nesting). o.calls) h)

-- ---- the nesting in entries

-- in those that an entry is in
abbrev pub opens : List Row → Nesting
opens [] = no_nesting
opens (r ∷ outer) = inside_of r.tag r.depth (opens outer)

-- the nesting after these entries, up to some depth of the next one
abbrev pub Matches : List Row → ℤ → Nesting → Type 0
Matches before most o = (d : ℤ) → d ≤ℤ most → leave d o ≡ opens (enclosing_rows d before)

pub matches_after : (w t : Walk) (r : Row) (before : List Row) (o : Nesting) → Leads w r t → Matches before w.depth o
    → Matches (r ∷ before) t.depth (inside_of r.tag r.depth (leave w.depth o))
matches_after w t r before o h same d high = by (int_lt w.depth d) refl
  where
    at : r.depth ≡ w.depth
    at = h.at

    by : (b : Bool) → int_lt w.depth d ≡ b
        → leave d (inside_of r.tag r.depth (leave w.depth o)) ≡ opens (enclosing_rows d (r ∷ before))
    by false e =
        let le = not_lt_is w.depth d e in
        let here = at in
        let low : d ≤ℤ r.depth = omega (arith, ints) in
        let c = leave w.depth o in
        inside_left d r.depth r.tag c.calls c.nested low
        ∙ leave-twice d w.depth o le
        ∙ same d le
        ∙ ap opens (sym (enclosing_rows-same d r before low))
    by true e =
        let lt = lt_is w.depth d e in
        let here = at in
        let deep : r.depth <ℤ d = omega (arith, ints) in
        let c = leave w.depth o in
        inside_stays d r.depth r.tag c.calls c.nested deep (leave-stays d w.depth o (omega (arith, ints)))
        ∙ ap (inside_of r.tag r.depth) (same w.depth (omega (arith, ints)))
        ∙ ap (λ x. opens (r ∷ enclosing_rows x before)) (sym at)
        ∙ ap opens (sym (enclosing_rows-more d r before deep))

pub matches_first : (most : ℤ) (o : Nesting) → o ≡ no_nesting → Matches [] most o
matches_first most o is d le = ap (leave d) is

-- ---- entries so deep that they are in all of it

-- what entries of these depths are in
pub record IsInAll (o : Nesting) (depth : ℤ) : Type 0 where
  pub there : (d : ℤ) → depth ≤ℤ d → leave d o ≡ o
  pub nested : (n d : ℤ) → o.nested ≡ Some n → n <ℤ d → leave d o ≡ o

nested_is : (xs : List ℤ) (e n : ℤ) (b c : Bool)
    → (cond b (nesting_of xs (Some e)) (cond c (nesting_of (e ∷ xs) None) (nesting_of xs None))).nested ≡ Some n
    → e ≡ n
nested_is xs e n true c h = cc
nested_is xs e n false true h = absurd cc
nested_is xs e n false false h = absurd cc

in_nested : (tag : ℕ) (e : ℤ) (calls : List ℤ) (nested : Option ℤ) → IsInAll (nesting_of calls nested) e
    → (n d : ℤ) → (inside_of tag e (nesting_of calls nested)).nested ≡ Some n → n <ℤ d
    → leave d (inside_of tag e (nesting_of calls nested)) ≡ inside_of tag e (nesting_of calls nested)
in_nested tag e calls (Some m) s n d is lt = s.nested n d is lt
in_nested tag e calls None s n d is lt =
    let same = nested_is calls e n (is_subprogram tag) (is_inlined tag) is in
    let deep : e <ℤ d = omega (arith, ints, same, lt) in
    inside_stays d e tag calls None deep (s.there d (omega (arith, ints, deep)))

in_inside : (depth e : ℤ) (tag : ℕ) (o : Nesting) → e <ℤ depth → IsInAll o e → IsInAll (inside_of tag e o) depth
in_inside depth e tag o lt s = record {
  there = λ d le.
      let deep : e <ℤ d = omega (arith, ints, lt, le) in
      inside_stays d e tag o.calls o.nested deep (s.there d (omega (arith, ints, deep)));
  nested = in_nested tag e o.calls o.nested s;
}

pub is_in_all : (depth : ℤ) (before : List Row) → IsInAll (opens (enclosing_rows depth before)) depth
is_in_all depth [] = record { there = λ d le. refl; nested = λ n d is lt. absurd cc }
is_in_all depth (r ∷ before) =
    by (int_lt r.depth depth) refl (is_in_all depth before) (is_in_all r.depth before)
  where
    P : List Row → Type 0
    P l = IsInAll (opens l) depth

    by : (b : Bool) → int_lt r.depth depth ≡ b → P (enclosing_rows depth before)
        → IsInAll (opens (enclosing_rows r.depth before)) r.depth → P (enclosing_rows depth (r ∷ before))
    by false e here outer = subst P (sym (enclosing_rows-same depth r before (not_lt_is r.depth depth e))) here
    by true e here outer =
        let lt = lt_is r.depth depth e in
        subst P (sym (enclosing_rows-more depth r before lt))
        (in_inside depth r.depth r.tag (opens (enclosing_rows r.depth before)) lt outer)

-- ---- what it shows

abbrev none_in : Nesting → Bool
none_in o = is_none o.nested

none_call : (xs : List ℤ) (e : ℤ) (b : Bool) → none_in (cond b (nesting_of (e ∷ xs) None) (nesting_of xs None)) ≡ true
none_call xs e true = refl
none_call xs e false = refl

none_entry : (xs : List ℤ) (e : ℤ) (b c : Bool)
    → none_in (cond b (nesting_of xs (Some e)) (cond c (nesting_of (e ∷ xs) None) (nesting_of xs None)))
    ≡ not (b || false)
none_entry xs e true c = refl
none_entry xs e false c = none_call xs e c

not_or : (b : Bool) → false ≡ not (b || true)
not_or true = refl
not_or false = refl

none_inside : (tag : ℕ) (e : ℤ) (xs : List ℤ) (nested : Option ℤ) (b : Bool) → is_none nested ≡ not b
    → none_in (inside_of tag e (nesting_of xs nested)) ≡ not (is_subprogram tag || b)
none_inside tag e xs None true h = absurd cc
none_inside tag e xs None false h = none_entry xs e (is_subprogram tag) (is_inlined tag)
none_inside tag e xs (Some x) true h = not_or (is_subprogram tag)
none_inside tag e xs (Some x) false h = absurd cc

-- it has a nested function where one of the entries is one
pub none_nested : (outer : List Row) → none_in (opens outer) ≡ not (is_nested outer)
none_nested [] = refl
none_nested (r ∷ outer) =
    none_inside r.tag r.depth (opens outer).calls (opens outer).nested (is_nested outer) (none_nested outer)

parts_of_or : (b c : Bool) → (b || c) ≡ false → (b ≡ false) × (c ≡ false)
parts_of_or true c h = absurd cc
parts_of_or false c h = (refl, h)

count_call : (xs : List ℤ) (e : ℤ) (r : Row) (rs : List Row) (b : Bool) → length xs ≡ length rs
    → length (cond b (nesting_of (e ∷ xs) None) (nesting_of xs None)).calls ≡ length (cond b (r ∷ rs) rs)
count_call xs e r rs true h = ap suc h
count_call xs e r rs false h = h

count_inside : (r : Row) (e : ℤ) (xs : List ℤ) (nested : Option ℤ) (rs : List Row) → is_none nested ≡ true
    → is_subprogram r.tag ≡ false → length xs ≡ length rs
    → length (inside_of r.tag e (nesting_of xs nested)).calls ≡ length (cond (is_inlined r.tag) (r ∷ rs) rs)
count_inside r e xs (Some x) rs none other h = absurd cc
count_inside r e xs None rs none other h =
    ap (λ b. length
    (cond b (nesting_of xs (Some e))
    (cond (is_inlined r.tag) (nesting_of (e ∷ xs) None) (nesting_of xs None))).calls) other
    ∙ count_call xs e r rs (is_inlined r.tag) h

-- it has as many calls as there are among the entries
pub count_calls : (outer : List Row) → is_nested outer ≡ false → length (opens outer).calls ≡ calls_above outer
count_calls [] h = refl
count_calls (r ∷ outer) h =
    let parts = parts_of_or (is_subprogram r.tag) (is_nested outer) h in
    count_inside r r.depth (opens outer).calls (opens outer).nested (filter (λ (x : Row). is_inlined x.tag) outer)
    (none_nested outer ∙ ap not parts.1) parts.0 (count_calls outer parts.1)
