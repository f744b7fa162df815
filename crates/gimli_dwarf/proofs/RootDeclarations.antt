-- The root of a unit needs one of the unit's declarations alone.
use Rattle.std.proofs.Common.{◌≡◌, ℕ, ℤ, pos, Bool, true, false, cond, eqb, List, [], ◌∷◌, Option, Some, None, Result, Ok, Err, refl, sym, ap, subst, ◌∙◌}
use Rattle.std.specs.Option.{option_to_list}
use Rattle.std.specs.Prelude.{IfSome}
use Rattle.gimli_dwarf_spec.specs.CheckedTables.{HasAt}
use Rattle.gimli_dwarf_spec.specs.Error.{Error}
use Rattle.gimli_dwarf_spec.specs.Error.TheVariants.{MissingUnitDie}
use Rattle.gimli_dwarf_spec.specs.TableParsing.{table_at}
use Rattle.gimli_dwarf_spec.specs.View.{View, bytes_left}
use Rattle.gimli_dwarf_spec.specs.Parsers.{Step, ◌>>=◌, give, here, lift, proceed, value_of}
use Rattle.gimli_dwarf_spec.specs.NumberParsers.{unsigned}
use Rattle.gimli_dwarf_spec.specs.Results.{and_then}
use Rattle.gimli_dwarf_spec.specs.Declarations.{Declaration, declaration_at}
use Rattle.gimli_dwarf_spec.specs.AttributeReading as forms
use Rattle.gimli_dwarf_spec.specs.AttributeValues.{RawAttribute}
use Rattle.gimli_dwarf_spec.specs.UnitHeaders.{DebugUnit}
use Rattle.gimli_dwarf_spec.specs.EntryWalks.{Walk, next_offset, read_in_walk, walk_with_rest, declaration_or_fault, declaration_of_code, depth_after, change_depth, entry_head, values}
use Rattle.gimli_dwarf_spec.specs.EntryRows.{Row, row_of, all_contents, row}
use Rattle.gimli_dwarf_spec.specs.UnitEntries.{walk_before}
use Rattle.gimli_dwarf_spec.specs.UnitFacts.{root, unless_null}
use Rattle.gimli_dwarf.specs.BareUnits.{number_or_0, root_code, root_declarations}

-- the declaration that a code finds is found again where it is alone
found_again : (code : ℕ) (table : List Declaration)
    → declaration_at code (option_to_list (declaration_at code table)) ≡ declaration_at code table
found_again code [] = refl
found_again code (d ∷ ds) = by_test (eqb d.code code) refl (found_again code ds)
  where
    by_test : (b : Bool) → eqb d.code code ≡ b
        → declaration_at code (option_to_list (declaration_at code ds)) ≡ declaration_at code ds
        → declaration_at code (option_to_list (cond b (Some d) (declaration_at code ds)))
        ≡ cond b (Some d) (declaration_at code ds)
    by_test true is rest = rw is refl
    by_test false is rest = rest

-- the same walk with other declarations
abbrev with_table : List Declaration → Walk → Walk
with_table table w = record {
  encoding = w.encoding;
  table = table;
  end_offset = w.end_offset;
  depth = w.depth;
  rest = w.rest;
}

-- the walk after a code that stands for a declaration
abbrev walk_past : Declaration → List Declaration → Walk → Walk
walk_past d table w = record {
  encoding = w.encoding;
  table = table;
  end_offset = w.end_offset;
  depth = depth_after w.depth (Some d);
  rest = w.rest;
}

module _ (limit offset : ℕ) (depth : ℤ) where
  -- the row of an entry after its code
  abbrev rest_of_row : Option Declaration → Step Walk Row
  rest_of_row d = all_contents limit d >>= λ attributes. give (row_of offset depth d attributes)

  -- the row of an entry whose code stands for this
  abbrev row_of_code : Result (Option Declaration) Error → Walk → Result Row Error
  row_of_code o w = value_of (proceed (proceed (lift o w) (λ d. change_depth d)) rest_of_row)

  -- the row of an entry whose attributes are these
  abbrev row_with : Declaration → List Declaration → Walk → Result (List RawAttribute × View) Error
      → Result Row Error
  row_with d table w r =
      value_of
      (proceed (read_in_walk (walk_past d table w) r) (λ attributes. give (row_of offset depth (Some d) attributes)))

  same_attributes : (d : Declaration) (w : Walk) (table : List Declaration)
      (r : Result (List RawAttribute × View) Error) → row_with d w.table w r ≡ row_with d table w r
  same_attributes d w table (Ok r) = refl
  same_attributes d w table (Err e) = refl

  -- the row needs no other declaration
  same_row : (o : Result (Option Declaration) Error) (w : Walk) (table : List Declaration)
      → row_of_code o w ≡ row_of_code o (with_table table w)
  unfolding values
  same_row (Err e) w table = refl
  same_row (Ok None) w table = refl
  same_row (Ok (Some d)) w table =
      same_attributes d w table (forms.attributes limit w.encoding d.attributes w.rest)

-- the declaration that a code stands for, and the walk after it
abbrev head_after : ℕ → Step Walk (Option Declaration)
head_after code = here >>= λ w. lift (declaration_of_code code w.table) >>= λ d. change_depth d

module _ (limit : ℕ) (u : DebugUnit) where
  -- the offset of the first entry
  abbrev first : ℕ
  first = next_offset (walk_before u [] u.entries)

  -- the first row, where this was read of its code
  abbrev row_from : List Declaration → Result (ℕ × View) Error → Result Row Error
  row_from table r =
      value_of
      (proceed (proceed (read_in_walk (walk_before u table u.entries) r) head_after) (rest_of_row limit first (pos 0)))

  same_from : (table : List Declaration) (r : Result (ℕ × View) Error)
      → row_from (option_to_list (declaration_at (number_or_0 (value_of r)) table)) r ≡ row_from table r
  same_from table (Err e) = refl
  same_from table (Ok r) =
      let alone : List Declaration = option_to_list (declaration_at r.0 table) in
      let w : Walk = walk_with_rest r.1 (walk_before u alone u.entries) in
      ap (λ (o : Option Declaration).
      row_of_code limit first (pos 0) (cond (eqb r.0 0) (Ok None) (declaration_or_fault r.0 o)) w)
      (found_again r.0 table)
      ∙ same_row limit first (pos 0) (declaration_of_code r.0 table) w table

  root_row : (table : List Declaration)
      → value_of (row limit (walk_before u (root_declarations u table) u.entries))
      ≡ value_of (row limit (walk_before u table u.entries))
  unfolding row entry_head
  root_row table = same_from table (unsigned u.entries)

  pub root-of_declarations : (table : List Declaration)
      → root limit u (root_declarations u table) ≡ root limit u table
  root-of_declarations table =
      ap (λ (r : Result Row Error). cond (eqb (bytes_left u.entries) 0) (Err MissingUnitDie) (and_then r unless_null))
      (root_row table)

-- ---- a declaration that is found alone

-- what is read of the root's declarations, where its declaration was found
root_alone : (u : DebugUnit) (table : Result (List Declaration) Error) (d : Declaration) (code : ℕ)
    → code ≡ root_code u → and_then table (λ ds. Ok (declaration_at code ds)) ≡ Ok (Some d)
    → and_then table (λ ds. Ok (root_declarations u ds)) ≡ Ok (d ∷ [])
root_alone u (Ok ds) d code same found =
    let has : declaration_at code ds ≡ Some d = cc in
    ap (λ (o : Option Declaration). Ok (option_to_list o)) (ap (λ (c : ℕ). declaration_at c ds) (sym same) ∙ has)
root_alone u (Err e) d code same found = absurd cc

-- the table that is made of it
pub root_kept : (u : DebugUnit) (section : View) (offset code : ℕ) (o : Option Declaration) (d : Declaration)
    (ds : List Declaration) → offset ≡ u.abbrev_offset → code ≡ root_code u → o ≡ Some d
    → IfSome o (HasAt section offset code) → ds ≡ d ∷ []
    → and_then (table_at u.abbrev_offset section) (λ table. Ok (root_declarations u table)) ≡ Ok ds
root_kept u section offset code o d ds at same is has made =
    let found : HasAt section u.abbrev_offset code d =
    subst (λ (n : ℕ). HasAt section n code d) at
    (subst (λ (p : Option Declaration). IfSome p (HasAt section offset code)) is has) in
    root_alone u (table_at u.abbrev_offset section) d code same found
    ∙ ap (λ (xs : List Declaration). Ok xs) (sym made)
