-- The root of a unit, from the walk over its entries.
use Rattle.std.proofs.Common.{◌≡◌, ℕ, Bool, true, false, not, ◌==◌, List, Result, Ok, Err, refl, sym, ap, ◌∙◌, if◌then◌else◌}
use Rattle.gimli_dwarf_spec.specs.Error.{Error}
use Rattle.gimli_dwarf_spec.specs.Error.TheVariants.{MissingUnitDie}
use Rattle.gimli_dwarf_spec.specs.View.{bytes_left}
use Rattle.gimli_dwarf_spec.specs.Parsers.{Step, proceed, give, value_of}
use Rattle.gimli_dwarf_spec.specs.Declarations.{Declaration}
use Rattle.gimli_dwarf_spec.specs.UnitHeaders.{DebugUnit}
use Rattle.gimli_dwarf_spec.specs.EntryWalks.{Walk}
use Rattle.gimli_dwarf_spec.specs.EntryRows.{Row, row, present_row}
use Rattle.gimli_dwarf_spec.specs.UnitEntries.{walk_before, walk_of}
use Rattle.gimli_dwarf_spec.specs.Results.{and_then}
use Rattle.gimli_dwarf_spec.specs.UnitFacts.{root, unless_null}

-- a walk over a unit's entries that has bytes left reads the root
root_read : (limit : ℕ) (u : DebugUnit) (table : List Declaration) (w : Walk) (b : Bool)
    → walk_of u table (Ok u.entries) ≡ Ok w → b ≡ (bytes_left w.rest == 0)
    → b ≡ false → root limit u table ≡ and_then (value_of (row limit w)) unless_null
root_read limit u table w b opened empty some =
    let same : walk_before u table u.entries ≡ w = cc in
    let left : (bytes_left u.entries == 0) ≡ false =
    ap (λ (x : Walk). bytes_left x.rest == 0) same ∙ sym empty ∙ some in
    ap (λ t. if t then Err MissingUnitDie
    else and_then (value_of (row limit (walk_before u table u.entries))) unless_null) left
    ∙ ap (λ x. and_then (value_of (row limit x)) unless_null) same

-- the answer to whether a row is there, and the row
abbrev presence_of : Row → Step Walk (Bool × Row)
presence_of r = give (not (r.tag == 0), r)

refusal_of_row : (o : Result (Row × Walk) Error) (e : Error) → proceed o presence_of ≡ Err e
    → and_then (value_of o) unless_null ≡ Err e
refusal_of_row (Ok r) e h = cc
refusal_of_row (Err d) e h = let same : d ≡ e = cc in ap Err same

true_of_not : (b : Bool) → not b ≡ false → b ≡ true
true_of_not true h = refl
true_of_not false h = cc

false_of_not : (b : Bool) → not b ≡ true → b ≡ false
false_of_not true h = cc
false_of_not false h = refl

null_row_is_missing : (o : Result (Row × Walk) Error) (b : Bool) (r : Row) (w : Walk)
    → proceed o presence_of ≡ Ok ((b, r), w) → b ≡ false
    → and_then (value_of o) unless_null ≡ Err MissingUnitDie
null_row_is_missing (Ok q) b r w h k =
    let left : (Bool × Row) × Walk = ((not (q.0.tag == 0), q.0), q.1) in
    let right : (Bool × Row) × Walk = ((b, r), w) in
    let whole : left ≡ right = cc in
    let null : (q.0.tag == 0) ≡ true = true_of_not (q.0.tag == 0) (ap (λ (p : (Bool × Row) × Walk). p.0.0) whole ∙ k) in
    ap (λ t. if t then Err MissingUnitDie else Ok q.0) null
null_row_is_missing (Err d) b r w h k = cc

present_row_is_root : (o : Result (Row × Walk) Error) (b : Bool) (r : Row) (w : Walk)
    → proceed o presence_of ≡ Ok ((b, r), w) → b ≡ true
    → and_then (value_of o) unless_null ≡ Ok r
present_row_is_root (Ok q) b r w h k =
    let left : (Bool × Row) × Walk = ((not (q.0.tag == 0), q.0), q.1) in
    let right : (Bool × Row) × Walk = ((b, r), w) in
    let whole : left ≡ right = cc in
    let null : (q.0.tag == 0) ≡ false =
    false_of_not (q.0.tag == 0) (ap (λ (p : (Bool × Row) × Walk). p.0.0) whole ∙ k) in
    ap (λ t. if t then Err MissingUnitDie else Ok q.0) null ∙ ap (λ (p : (Bool × Row) × Walk). Ok p.0.1) whole
present_row_is_root (Err d) b r w h k = cc

module _ (limit : ℕ) (u : DebugUnit) (table : List Declaration) (w : Walk) (b : Bool)
    (opened : walk_of u table (Ok u.entries) ≡ Ok w) (empty : b ≡ (bytes_left w.rest == 0)) (some : b ≡ false) where
  pub root-refused : (e : Error) → present_row limit w ≡ Err e → root limit u table ≡ Err e
  root-refused e h = root_read limit u table w b opened empty some ∙ refusal_of_row (row limit w) e h

  pub root-absent : (p : Bool) (r : Row) (next : Walk) → present_row limit w ≡ Ok ((p, r), next) → p ≡ false
      → root limit u table ≡ Err MissingUnitDie
  root-absent p r next h k =
      root_read limit u table w b opened empty some ∙ null_row_is_missing (row limit w) p r next h k

  pub root-found : (p : Bool) (r : Row) (next : Walk) → present_row limit w ≡ Ok ((p, r), next) → p ≡ true
      → root limit u table ≡ Ok r
  root-found p r next h k =
      root_read limit u table w b opened empty some ∙ present_row_is_root (row limit w) p r next h k
