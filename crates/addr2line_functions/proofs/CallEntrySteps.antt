-- The calls of a function by one entry more, and at the end.
use Rattle.std.proofs.Common.{◌≡◌, ℕ, ◌<◌, ◌≤◌, ℤ, pos, ◌≤ℤ◌, ◌<ℤ◌, int_lt, Bool, true, false, cond, not, ◌&&◌, List, [], ◌∷◌, ◌++◌, length, filter, Option, Some, None, option_to_list, Result, Ok, Err, refl, sym, ap, subst, ◌∙◌, arith, append_assoc, append-nil, w64, FitsSigned, to_z, of_z}
use Rattle.std.proofs.lemmas.Int.{ints, to_z-of_z}
use Rattle.gimli_units_entries.specs.Error.{Error}
use Rattle.gimli_units_entries.specs.View.{bytes_left}
use Rattle.gimli_units_entries.specs.Calls.{ReturnsAsOrNoMemory}
use Rattle.gimli_units_entries.specs.Repetition.{Listing, prepend, no_items, fault_of, next_item, listing_in}
use Rattle.gimli_units_entries.proofs.Listings.{Shrinks, listing_next}
use Rattle.gimli_units_entries.proofs.StepSizes.{SomeBelow}
use Rattle.gimli_units_entries.proofs.StepParts.{value_is, state_is}
use Rattle.gimli_units_entries.specs.EntryWalks.{Walk}
use Rattle.gimli_units_entries.specs.EntryRows.{Row, row_choosing}
use Rattle.gimli_units_entries.proofs.RowParts.{row-parts, row-takes}
use Rattle.gimli_units_entries.specs.Results.{and_then, unless, each}
use Rattle.addr2line_names.specs.UnitFacts.{UnitInFile}
use Rattle.addr2line_ranges.specs.InlinedCalls.{FunctionWalk, NestedEntry, Naming, Call, enclosing_rows, is_inlined, is_nested, is_call_in, is_call, calls_above, entry_of_row, entry_below, entries_below, entries_of, call_at, call_of, calls_among}
use Rattle.addr2line_ranges.proofs.EntryLevels.{leads, lt_from, not_lt_from, lt_is, not_lt_is}
use Rattle.addr2line_functions.specs.CallNesting.{Nesting, CallWalk, leave, inside_of, enter, is_call_where, call_depth, call_if, call_and_walk, next_call_in, next_call, calls_from}
use Rattle.addr2line_functions.proofs.NestingLemmas.{Matches, matches_after, opens, none_nested, count_calls}

-- a result that is a value, and one that is an error
abbrev ok_of : {A : Type 0} → A → Result A Error
ok_of x = Ok x

abbrev refusal : {A : Type 0} → Error → Result A Error
refusal e = Err e

-- ---- the entries below a function

abbrev size : FunctionWalk → ℕ
size i = bytes_left i.walk.rest

shrinks_row : (limit : ℕ) (i : FunctionWalk) (n : ℕ) (x : Result (Row × Walk) Error)
    → row_choosing limit (is_call_in (enclosing_rows i.walk.depth i.before)) i.walk ≡ x → size i ≤ n
    → SomeBelow size n (entry_of_row i x)
shrinks_row limit i n (Ok r) is le = record {
  left = λ b j e.
      let takes =
      row-takes limit (is_call_in (enclosing_rows i.walk.depth i.before)) i.walk r.1 r.0
      (row-parts limit (is_call_in (enclosing_rows i.walk.depth i.before)) i.walk r.1 r.0 is) in
      let there : FunctionWalk = record { walk = r.1; before = r.0 ∷ i.before } in
      let same : there ≡ j = state_is _ _ _ _ e in
      let P : FunctionWalk → Type 0 = λ k. size k < n in
      subst P same (omega arith);
}
shrinks_row limit i n (Err d) is le = record { left = λ b j e. absurd cc }

shrinks_by : (limit : ℕ) (i : FunctionWalk) (n : ℕ) (b : Bool) → size i ≤ n
    → SomeBelow size n
    (cond b (entry_of_row i (row_choosing limit (is_call_in (enclosing_rows i.walk.depth i.before)) i.walk))
    (Ok (None, i)))
shrinks_by limit i n true le =
    shrinks_row limit i n (row_choosing limit (is_call_in (enclosing_rows i.walk.depth i.before)) i.walk) refl le
shrinks_by limit i n false le =
    record { left = λ b j e. let no : none ≡ Some b = value_is none (Some b) i j e in absurd cc }
  where
    none : Option NestedEntry
    none = None

shrinks : (limit : ℕ) → Shrinks size (entry_below limit)
shrinks limit = record { smaller = λ i n le. shrinks_by limit i n (int_lt (pos 0) i.walk.depth) le }

-- the walk after an entry, and the entry with those that it is in
abbrev pub walk_after : FunctionWalk → Row → Walk → FunctionWalk
walk_after i r w = record { walk = w; before = r ∷ i.before }

abbrev pub below_of : FunctionWalk → Row → NestedEntry
below_of i r = record { row = r; outer = enclosing_rows i.walk.depth i.before }

below_there : (limit : ℕ) (i : FunctionWalk) → pos 0 <ℤ i.walk.depth
    → entry_below limit i
    ≡ entry_of_row i (row_choosing limit (is_call_in (enclosing_rows i.walk.depth i.before)) i.walk)
below_there limit i some =
    ap (λ b. cond b (entry_of_row i (row_choosing limit (is_call_in (enclosing_rows i.walk.depth i.before)) i.walk))
    (Ok (None, i))) (lt_from (pos 0) i.walk.depth some)

pub entries-next : (limit : ℕ) (i : FunctionWalk) (r : Row) (w : Walk) → pos 0 <ℤ i.walk.depth
    → row_choosing limit (is_call_in (enclosing_rows i.walk.depth i.before)) i.walk ≡ Ok (r, w)
    → entries_below limit i ≡ prepend (below_of i r ∷ []) (entries_below limit (walk_after i r w))
unfolding entries_below
entries-next limit i r w some h =
    listing_next (shrinks limit) i
    ∙ ap (λ x. next_item x (listing_in size (entry_below limit))) (below_there limit i some ∙ ap (entry_of_row i) h)

entries-fault : (limit : ℕ) (i : FunctionWalk) (e : Error) → pos 0 <ℤ i.walk.depth
    → row_choosing limit (is_call_in (enclosing_rows i.walk.depth i.before)) i.walk ≡ Err e
    → entries_below limit i ≡ no_items (Err e)
unfolding entries_below
entries-fault limit i e some h =
    listing_next (shrinks limit) i
    ∙ ap (λ x. next_item x (listing_in size (entry_below limit))) (below_there limit i some ∙ ap (entry_of_row i) h)

pub entries-end : (limit : ℕ) (i : FunctionWalk) → i.walk.depth ≤ℤ pos 0 → entries_below limit i ≡ no_items (Ok i)
unfolding entries_below
entries-end limit i low =
    listing_next (shrinks limit) i
    ∙ ap (λ b. next_item
    (cond b (entry_of_row i (row_choosing limit (is_call_in (enclosing_rows i.walk.depth i.before)) i.walk))
    (Ok (None, i))) (listing_in size (entry_below limit))) (not_lt_from (pos 0) i.walk.depth low)

-- ---- calls after others

abbrev pub calls_then : List Call → Result (List Call) Error → Result (List Call) Error
calls_then found r = and_then r (λ cs. Ok (found ++ cs))

pub calls_then-none : (r : Result (List Call) Error) → calls_then [] r ≡ r
calls_then-none (Ok cs) = refl
calls_then-none (Err e) = refl

calls_then-both : (xs ys : List Call) (r : Result (List Call) Error)
    → calls_then xs (calls_then ys r) ≡ calls_then (xs ++ ys) r
calls_then-both xs ys (Ok cs) = ap ok_of (sym (append_assoc xs ys cs))
calls_then-both xs ys (Err e) = refl

-- the call of an entry, and then those of further entries
abbrev after_entry : Result (Option Call) Error → Result (List Call) Error → Result (List Call) Error
after_entry o rest = and_then o (λ c. calls_then (option_to_list c) rest)

-- all, unless a fault ends them
abbrev unless_fault : Option Error → Result (List Call) Error → Result (List Call) Error
unless_fault fault r = and_then r (λ cs. unless fault (Ok cs))

unless-first : (fault : Option Error) (c : Call) (cs : List Call)
    → unless fault (ok_of (c ∷ cs)) ≡ calls_then (c ∷ []) (unless fault (ok_of cs))
unless-first None c cs = refl
unless-first (Some e) c cs = refl

call-first : (fault : Option Error) (c : Call) (rest : Result (List Call) Error)
    → unless_fault fault (and_then rest (λ cs. Ok (c ∷ cs))) ≡ calls_then (c ∷ []) (unless_fault fault rest)
call-first fault c (Ok cs) = unless-first fault c cs
call-first fault c (Err e) = refl

read-first : (fault : Option Error) (r : Result Call Error) (rest : Result (List Call) Error)
    → unless_fault fault (and_then r (λ c. and_then rest (λ cs. Ok (c ∷ cs))))
    ≡ after_entry (and_then r (λ c. Ok (Some c))) (unless_fault fault rest)
read-first fault (Ok c) rest = call-first fault c rest
read-first fault (Err e) rest = refl

module _ (limit : ℕ) (u : UnitInFile) (naming : Naming) where
  -- the call of an entry, if it is one
  abbrev call_in : NestedEntry → Result (Option Call) Error
  call_in b = cond (is_call b) (and_then (call_of u naming b) (λ c. Ok (Some c))) (Ok None)

  by_test : (fault : Option Error) (b : NestedEntry) (bs : List NestedEntry) (t : Bool)
      → unless_fault fault (each (call_of u naming) (cond t (b ∷ bs) bs))
      ≡ after_entry (cond t (and_then (call_of u naming b) (λ c. Ok (Some c))) (Ok None))
      (unless_fault fault (each (call_of u naming) bs))
  by_test fault b bs true = read-first fault (call_of u naming b) (each (call_of u naming) bs)
  by_test fault b bs false = sym (calls_then-none (unless_fault fault (each (call_of u naming) bs)))

  among-first : (b : NestedEntry) (l : Listing FunctionWalk NestedEntry)
      → calls_among u naming (prepend (b ∷ []) l) ≡ after_entry (call_in b) (calls_among u naming l)
  among-first b l = by_test (fault_of l) b (filter is_call l.items) (is_call b)

  -- ---- the nesting shows which entries are calls, and how deep they are

  depth_by : (r : Row) (outer : List Row) (n : ℕ) (b c : Bool) → is_nested outer ≡ b
      → (is_nested outer ≡ false → n ≡ calls_above outer)
      → call_if u naming r (cond (not b && c) (Some n) None)
      ≡ cond (not b && c) (and_then (call_at u naming (calls_above outer) r) (λ x. Ok (Some x))) (Ok None)
  depth_by r outer n true c is count = refl
  depth_by r outer n false true is count =
      ap (λ k. and_then (call_at u naming k r) (λ x. Ok (Some x))) (count is)
  depth_by r outer n false false is count = refl

  -- the call of an entry by the nesting
  call_by_nesting : (r : Row) (outer : List Row) (o : Nesting) → o ≡ opens outer
      → call_if u naming r (call_depth o r.tag) ≡ call_in (record { row = r; outer = outer })
  call_by_nesting r outer o is =
      ap (λ x. call_if u naming r (call_depth x r.tag)) is
      ∙ ap (λ b. call_if u naming r (cond (b && is_inlined r.tag) (Some (length (opens outer).calls)) None))
      (none_nested outer)
      ∙ depth_by r outer (length (opens outer).calls) (is_nested outer) (is_inlined r.tag) refl (count_calls outer)

  row_by_nesting : (w : Walk) (outer : List Row) (o : Nesting) → o ≡ opens outer
      → row_choosing limit (is_call_where o) w ≡ row_choosing limit (is_call_in outer) w
  row_by_nesting w outer o is =
      ap (λ x. row_choosing limit (is_call_where x) w) is
      ∙ ap (λ b. row_choosing limit (λ tag. b && is_inlined tag) w) (none_nested outer)

  -- ---- one entry

  and_parts : {A B : Type 0} (r : Result A Error) (f : A → Result B Error) (y : B) → and_then r f ≡ Ok y
      → (x : A) × (r ≡ Ok x) × (f x ≡ Ok y)
  and_parts (Ok x) f y h = (x, refl, h)
  and_parts (Err e) f y h = absurd cc

  -- the row of an entry, after which a walk goes on, and its call, if it is one
  pub record HasEntry (w t : Walk) (o p : Nesting) (c : Option Call) : Type 0 where
    pub row : Row
    pub read : row_choosing limit (is_call_where (leave w.depth o)) w ≡ Ok (row, t)
    pub called : call_if u naming row (call_depth (leave w.depth o) row.tag) ≡ Ok c
    pub leads_to : inside_of row.tag row.depth (leave w.depth o) ≡ p

  pub entry_parts : (w t : Walk) (o p : Nesting) (c : Option Call)
      → next_call limit u naming (record { walk = w; nesting = o }) ≡ Ok (c, record { walk = t; nesting = p })
      → HasEntry w t o p c
  entry_parts w t o p c h =
      let d = leave w.depth o in
      let b = and_parts (row_choosing limit (is_call_where d) w) (λ x. call_and_walk u naming d x.0 x.1)
      (c, record { walk = t; nesting = p }) h in
      let r = b.0.0 in
      let q = and_parts (call_if u naming r (call_depth d r.tag))
      (λ x. Ok (x, record { walk = b.0.1; nesting = inside_of r.tag r.depth d }))
      (c, record { walk = t; nesting = p }) b.2 in
      let there : CallWalk = record { walk = b.0.1; nesting = inside_of r.tag r.depth d } in
      let to : there ≡ record { walk = t; nesting = p } = state_is q.0 c there (record { walk = t; nesting = p }) q.2 in
      let same : q.0 ≡ c = value_is q.0 c there (record { walk = t; nesting = p }) q.2 in
      record {
        row = r;
        read = b.1 ∙ ap (λ (x : CallWalk). answer r x.walk) to;
        called = q.1 ∙ ap ok_of same;
        leads_to = ap (λ (x : CallWalk). x.nesting) to;
      }
    where
      answer : Row → Walk → Result (Row × Walk) Error
      answer r x = Ok (r, x)

  -- after an entry, the calls so far with those to come are the same, and the nesting matches
  pub calls-more : (xs : List Call) (before : List Row) (w t : Walk) (o p : Nesting) (c : Option Call)
      → pos 0 <ℤ w.depth → Matches before w.depth o → (h : HasEntry w t o p c)
      → Matches (h.row ∷ before) t.depth p
      × (calls_then (xs ++ option_to_list c)
      (calls_from limit u naming (record { walk = t; before = h.row ∷ before }))
      ≡ calls_then xs (calls_from limit u naming (record { walk = w; before = before })))
  calls-more xs before w t o p c some same h =
      let outer = enclosing_rows w.depth before in
      let here : leave w.depth o ≡ opens outer = same w.depth (omega (arith, ints)) in
      let i : FunctionWalk = record { walk = w; before = before } in
      let read : row_choosing limit (is_call_in outer) w ≡ Ok (h.row, t) =
      sym (row_by_nesting w outer (leave w.depth o) here) ∙ h.read in
      let P : Nesting → Type 0 = Matches (h.row ∷ before) t.depth in
      let rest = calls_from limit u naming (record { walk = t; before = h.row ∷ before }) in (
        subst P h.leads_to (matches_after w t h.row before o (leads limit (is_call_in outer) w t h.row read) same),
        sym (calls_then-both xs (option_to_list c) rest)
            ∙ ap (calls_then xs) (sym (ap (calls_among u naming) (entries-next limit i h.row t some read)
            ∙ among-first (below_of i h.row) (entries_below limit (walk_after i h.row t))
            ∙ ap (λ r. after_entry r rest) (sym (call_by_nesting h.row outer (leave w.depth o) here) ∙ h.called))),
      )

  -- each entry takes bytes
  pub call-takes : (w t : Walk) (o p : Nesting) (c : Option Call) → HasEntry w t o p c
      → bytes_left t.rest < bytes_left w.rest
  call-takes w t o p c h =
      row-takes limit (is_call_where (leave w.depth o)) w t h.row
      (row-parts limit (is_call_where (leave w.depth o)) w t h.row h.read)

  error_by : (i : FunctionWalk) (o : Nesting) (e : Error) (x : Result (Row × Walk) Error) → pos 0 <ℤ i.walk.depth
      → o ≡ opens (enclosing_rows i.walk.depth i.before)
      → row_choosing limit (is_call_in (enclosing_rows i.walk.depth i.before)) i.walk ≡ x
      → and_then x (λ y. call_and_walk u naming o y.0 y.1) ≡ Err e → calls_from limit u naming i ≡ Err e
  error_by i o e (Err d) some here is h =
      let same : d ≡ e =
      cc in ap (calls_among u naming) (entries-fault limit i d some is) ∙ ap (λ x. refusal x) same
  error_by i o e (Ok r) some here is h =
      let c : call_in (below_of i r.0) ≡ Err e =
      sym (call_by_nesting r.0 (enclosing_rows i.walk.depth i.before) o here)
      ∙ err_of (call_if u naming r.0 (call_depth o r.0.tag)) h in
      ap (calls_among u naming) (entries-next limit i r.0 r.1 some is)
      ∙ among-first (below_of i r.0) (entries_below limit (walk_after i r.0 r.1))
      ∙ ap (λ x. after_entry x (calls_from limit u naming (walk_after i r.0 r.1))) c
    where
      there : Option Call → Result (Option Call × CallWalk) Error
      there c = Ok (c, record { walk = r.1; nesting = inside_of r.0.tag r.0.depth o })

      err_of : (x : Result (Option Call) Error) → and_then x there ≡ Err e → x ≡ Err e
      err_of (Ok c) k = absurd cc
      err_of (Err d) k = let same : d ≡ e = cc in ap (λ x. refusal x) same

  -- an entry that can't be read is the error of all
  pub calls-refused : (xs : List Call) (before : List Row) (w : Walk) (o : Nesting) (e : Error) → pos 0 <ℤ w.depth
      → Matches before w.depth o
      → next_call limit u naming (record { walk = w; nesting = o }) ≡ Err e
      → calls_then xs (calls_from limit u naming (record { walk = w; before = before })) ≡ Err e
  calls-refused xs before w o e some same h =
      let i : FunctionWalk = record { walk = w; before = before } in
      let here : leave w.depth o ≡ opens (enclosing_rows w.depth before) = same w.depth (omega (arith, ints)) in
      ap (calls_then xs)
      (error_by i (leave w.depth o) e
      (row_choosing limit (is_call_in (enclosing_rows w.depth before)) w) some here refl
      (ap (λ x. and_then x (λ y. call_and_walk u naming (leave w.depth o) y.0 y.1))
      (sym (row_by_nesting w (enclosing_rows w.depth before) (leave w.depth o) here)) ∙ h))

  -- at the function's own level there are no more
  pub calls-end : (xs : List Call) (before : List Row) (w : Walk) → w.depth ≤ℤ pos 0
      → calls_then xs (calls_from limit u naming (record { walk = w; before = before })) ≡ Ok xs
  calls-end xs before w low =
      ap (λ l. calls_then xs (calls_among u naming l))
      (entries-end limit (record { walk = w; before = before }) low) ∙ ap ok_of (append-nil xs)

  -- before the first entry
  pub calls-start : (xs : List Call) (w : Walk) → xs ≡ []
      → calls_then xs (calls_from limit u naming (record { walk = w; before = [] }))
      ≡ calls_among u naming (entries_of limit w)
  calls-start xs w none =
      ap (λ l. calls_then l (calls_from limit u naming (record { walk = w; before = [] }))) none
      ∙ calls_then-none (calls_from limit u naming (record { walk = w; before = [] }))

  -- ---- the calls that read an entry

  pub call_of_entry : (w : Walk) (o now : Nesting) (depth : ℤ) (chosen : ℕ → Bool) (x : Result (Row × Walk) Error)
      → depth ≡ w.depth → now ≡ leave depth o → chosen ≡ is_call_where now
      → row_choosing limit chosen w ≡ x
      → next_call limit u naming (record { walk = w; nesting = o })
      ≡ and_then x (λ r. call_and_walk u naming now r.0 r.1)
  call_of_entry w o now depth chosen x at is by read =
      ap (next_call_in limit u naming w) (ap (λ d. leave d o) (sym at) ∙ sym is)
      ∙ ap (λ r. and_then r (λ y. call_and_walk u naming now y.0 y.1))
      (ap (λ p. row_choosing limit p w) (sym by) ∙ read)

  pub entry_of_call : (r : Row) (t : Walk) (now next : Nesting) (depth : Option ℕ)
      → enter r.tag r.depth now ≡ Ok (depth, next)
      → call_and_walk u naming now r t
      ≡ and_then (call_if u naming r depth) (λ c. Ok (c, record { walk = t; nesting = next }))
  entry_of_call r t now next depth h =
      let counts : call_depth now r.tag ≡ depth =
      value_is (call_depth now r.tag) depth (inside_of r.tag r.depth now) next h in
      let leads_to : inside_of r.tag r.depth now ≡ next =
      state_is (call_depth now r.tag) depth (inside_of r.tag r.depth now) next h in
      ap (λ o. then_with (inside_of r.tag r.depth now) o) counts ∙ ap (λ n. then_with n depth) leads_to
    where
      there : Nesting → Option Call → Result (Option Call × CallWalk) Error
      there n c = Ok (c, record { walk = t; nesting = n })

      then_with : Nesting → Option ℕ → Result (Option Call × CallWalk) Error
      then_with n o = and_then (call_if u naming r o) (there n)

-- a result, with a value beside it
pub returns_with :
    {A B C : Type 0} (see : A → B) (k : C) (r : Result A Error) (read : Result B Error) (all : Result (B × C) Error)
    → all ≡ and_then read (λ y. Ok (y, k))
    → ReturnsAsOrNoMemory see r read → ReturnsAsOrNoMemory (λ x. (see x, k)) r all
returns_with see k (Ok x) read all is h = is ∙ ap (λ y. and_then y (λ z. Ok (z, k))) h
returns_with see k (Err e) read all is h = λ m. is ∙ ap (λ y. and_then y (λ z. Ok (z, k))) (h m)

-- a depth is below that of the function, or isn't
pub some_depth : (z d : ℤ) → FitsSigned w64 z → z ≡ d → int_lt (pos 0) (to_z w64 (of_z w64 z)) ≡ true → pos 0 <ℤ d
some_depth z d fits is h = lt_is (pos 0) d (ap (int_lt (pos 0)) (sym (to_z-of_z w64 z fits ∙ is)) ∙ h)

pub no_depth : (z d : ℤ) → FitsSigned w64 z → z ≡ d → int_lt (pos 0) (to_z w64 (of_z w64 z)) ≡ false → d ≤ℤ pos 0
no_depth z d fits is h = not_lt_is (pos 0) d (ap (int_lt (pos 0)) (sym (to_z-of_z w64 z fits ∙ is)) ∙ h)
