-- The entries of a unit as rows: the offset and depth of each, what its declaration says, and its
-- attributes.
use Rattle.std.specs.Prelude.{ℕ, ℤ, ◌==◌, Bool, false, not, List, [], Option, Some, None, Result, Ok, Err, if◌then◌else◌}
use Rattle.gimli_core_base.specs.declared.error.Error.{Error}
use Rattle.gimli_core_base.specs.declared.error.Error.TheVariants.{NoEntryAtGivenOffset}
use Rattle.gimli_core_base.specs.View.{bytes_left}
use Rattle.gimli_core_base.specs.Parsers.{Step, ◌>>=◌, give, here, branch, proceed}
use Rattle.gimli_core_base.specs.Repetition.{Listing, listing_in}
use Rattle.gimli_units_forms.specs.Declarations.{Declaration}
use Rattle.gimli_units_forms.specs.AttributeValues.{RawAttribute}
use Rattle.gimli_units_headers.specs.UnitHeaders.{DebugUnit}
use Rattle.gimli_units_entries.specs.EntryWalks.{Walk, next_offset, entry_head, values, skip_values}
use Rattle.gimli_units_entries.specs.UnitEntries.{walk_from}

-- An entry: its offset from the start of the unit, its depth below the walk's first entry, its tag,
-- which is 0 for a null entry alone, whether it has children, and its attributes, if they were
-- read.
pub record Row : Type 0 where
  pub offset : ℕ
  pub depth : ℤ
  pub tag : ℕ
  pub has_children : Bool
  pub attributes : List RawAttribute

-- the row at an offset and a depth, with a declaration and attributes
abbrev pub row_of : ℕ → ℤ → Option Declaration → List RawAttribute → Row
row_of offset depth None attributes = record {
  offset = offset;
  depth = depth;
  tag = 0;
  has_children = false;
  attributes = attributes;
}
row_of offset depth (Some d) attributes = record {
  offset = offset;
  depth = depth;
  tag = d.tag;
  has_children = d.has_children;
  attributes = attributes;
}

-- the null entry at an offset and a depth
abbrev pub null_at : ℕ → ℤ → Row
null_at offset depth = row_of offset depth None []

-- no attributes, where those of a declaration are skipped
abbrev pub skip_attributes_of : Declaration → Step Walk (List RawAttribute)
skip_attributes_of d = skip_values d.attributes >>= λ _. give []

-- the attributes of an entry: read where its tag is chosen, else skipped; a null entry has none
abbrev pub contents : ℕ → (ℕ → Bool) → Option Declaration
    → Step Walk (List RawAttribute)
contents limit choice None = give []
contents limit choice (Some d) =
    branch (choice d.tag) (values limit d.attributes) (skip_attributes_of d)

-- the next row, where the attributes of the chosen tags are read
unfoldable pub row_choosing : ℕ → (ℕ → Bool) → Step Walk Row
row_choosing limit choice = do
  place ← here
  d ← entry_head
  attributes ← contents limit choice d
  give (row_of (next_offset place) place.depth d attributes)

-- the attributes of an entry, read
abbrev pub all_contents : ℕ → Option Declaration → Step Walk (List RawAttribute)
all_contents limit None = give []
all_contents limit (Some d) = values limit d.attributes

-- the next row with its attributes
unfoldable pub row : ℕ → Step Walk Row
row limit = do
  place ← here
  d ← entry_head
  attributes ← all_contents limit d
  give (row_of (next_offset place) place.depth d attributes)

-- the next row, and whether it isn't a null entry
abbrev pub present_row : ℕ → Step Walk (Bool × Row)
present_row limit = row limit >>= λ r. give (not (r.tag == 0), r)

-- the next row, none at the unit's end
unfoldable pub row_or_end : ℕ → (ℕ → Bool) → Step Walk (Option Row)
row_or_end limit choice w =
    if bytes_left w.rest == 0 then Ok (None, w)
    else proceed (row_choosing limit choice w) (λ r. give (Some r))

-- All rows of a walk from here on, and what ends them: the unit's end, or the fault of a row that
-- can't be read.
unfoldable pub rows : ℕ → (ℕ → Bool) → Walk → Listing Walk Row
rows limit choice w = listing_in (λ (x : Walk). bytes_left x.rest) (row_or_end limit choice) w

-- an entry that is asked for isn't null
abbrev pub not_null : ℕ → Row → Result Row Error
not_null offset r = if r.tag == 0 then Err (NoEntryAtGivenOffset offset) else Ok r

-- the row of a read, or its refusal
abbrev pub not_null_in : ℕ → Result (Row × Walk) Error → Result Row Error
not_null_in offset (Ok r) = not_null offset r.0
not_null_in offset (Err e) = Err e

-- the row of a walk, or its refusal
abbrev pub row_of_walk : ℕ → ℕ → Result Walk Error → Result Row Error
row_of_walk limit offset (Err e) = Err e
row_of_walk limit offset (Ok w) = not_null_in offset (row limit w)

-- the entry at an offset of a unit, which must be among its entries
unfoldable pub entry_at : ℕ → DebugUnit → List Declaration → ℕ → Result Row Error
entry_at limit u table offset = row_of_walk limit offset (walk_from u table (Some offset))
