-- Entries of a unit (DWARF 5, 7.5.2 and 7.5.3): each is a code, and the attributes that the code's
-- declaration describes. They are a tree laid out flat: a null entry follows the last child of an
-- entry that has children.
use Rattle.std.specs.Prelude.{ℕ, ℤ, pos, ◌+ℤ◌, ◌-ℤ◌, ◌≤ℤ◌, ◌<ℤ◌, ◌-◌, ◌≤◌, ◌^◌, ◌==◌, List, Option, Some, None, Result, Ok, Err, if◌then◌else◌}
use Rattle.gimli_core_base.specs.declared.error.Error.{Error}
use Rattle.gimli_core_base.specs.declared.error.Error.TheVariants.{InvalidAbbreviationCode}
use Rattle.gimli_core_base.specs.View.{View, after, bytes_left}
use Rattle.gimli_core_base.specs.Parsers.{Step, Parser, ◌>>=◌, here, lift}
use Rattle.gimli_core_base.specs.declared.common.Encoding.{Encoding}
use Rattle.gimli_core_base.specs.NumberParsers.{unsigned}
use Rattle.gimli_units_forms.specs.Declarations.{Attribute, Declaration, declaration_at}
use Rattle.gimli_units_forms.specs.AttributeReading as forms
use Rattle.gimli_units_forms.specs.AttributeSkipping as form_skips
use Rattle.gimli_units_forms.specs.AttributeValues.{RawAttribute}

-- The state of a walk over the entries of a unit: the unit's sizes and declarations, the offset of
-- its end, the depth of the next entry below the first, and the bytes from the next entry, or from
-- an attribute of one, on.
pub record Walk : Type 0 where
  pub encoding : Encoding
  pub table : List Declaration
  pub end_offset : ℕ
  pub depth : ℤ
  pub rest : View

-- the offset of the next byte, from the start of the unit
abbrev pub next_offset : Walk → ℕ
next_offset w = w.end_offset - bytes_left w.rest

-- the same walk before other bytes
abbrev pub walk_with_rest : View → Walk → Walk
walk_with_rest v w = record {
  encoding = w.encoding;
  table = w.table;
  end_offset = w.end_offset;
  depth = w.depth;
  rest = v;
}

-- what a read of the bytes left makes of the walk
abbrev pub read_in_walk : {A : Type 0} → Walk → Result (A × View) Error
    → Result (A × Walk) Error
read_in_walk w (Ok r) = Ok (r.0, walk_with_rest r.1 w)
read_in_walk w (Err e) = Err e

-- a parser of the bytes left, as a step of the walk
abbrev pub parse_rest : {A : Type 0} → Parser A → Step Walk A
parse_rest p w = read_in_walk w (p w.rest)

-- a declaration that the unit's table must have
abbrev pub declaration_or_fault : ℕ → Option Declaration → Result (Option Declaration) Error
declaration_or_fault code None = Err (InvalidAbbreviationCode code)
declaration_or_fault code (Some d) = Ok (Some d)

-- the declaration of a code; 0 is the code of a null entry
abbrev pub declaration_of_code : ℕ → List Declaration → Result (Option Declaration) Error
declaration_of_code code table =
    if code == 0 then Ok None else declaration_or_fault code (declaration_at code table)

-- the depth after the code of an entry: a null closes a level, an entry with children opens one
abbrev pub depth_after : ℤ → Option Declaration → ℤ
depth_after depth None = depth -ℤ pos 1
depth_after depth (Some d) = if d.has_children then depth +ℤ pos 1 else depth

-- the walk at that depth
abbrev pub change_depth : Option Declaration → Step Walk (Option Declaration)
change_depth d w =
    Ok (
      d,
      record {
        encoding = w.encoding;
        table = w.table;
        end_offset = w.end_offset;
        depth = depth_after w.depth d;
        rest = w.rest;
      },
    )

-- the walk after bytes that begin with the code of an entry, which stands for this declaration
abbrev pub walk_after : ℕ → Option Declaration → Walk → Walk
walk_after count d w = record {
  encoding = w.encoding;
  table = w.table;
  end_offset = w.end_offset;
  depth = depth_after w.depth d;
  rest = after count w.rest;
}

-- the code of an entry, as the declaration that it stands for; none for a null entry
unfoldable pub entry_head : Step Walk (Option Declaration)
entry_head = do
  code ← parse_rest unsigned
  w ← here
  d ← lift (declaration_of_code code w.table)
  change_depth d

-- the attribute that a declaration describes, read
unfoldable pub value : ℕ → Attribute → Step Walk RawAttribute
value limit s w = parse_rest (forms.attribute limit w.encoding s) w

-- several, one after the other
unfoldable pub values : ℕ → List Attribute → Step Walk (List RawAttribute)
values limit ss w = parse_rest (forms.attributes limit w.encoding ss) w

-- several, skipped by their widths
unfoldable pub skip_values : List Attribute → Step Walk (Unit {0})
skip_values ss w = parse_rest (form_skips.skip_values w.encoding ss) w

-- What holds of every walk: it is before the unit's end, and its depth stays within 64 bits, since
-- each byte changes it by one at most.
pub record IsWithin (w : Walk) : Type 0 where
  pub is_before : bytes_left w.rest ≤ w.end_offset
  pub not_low : pos (bytes_left w.rest) ≤ℤ (w.depth +ℤ pos (2 ^ 63))
  pub not_high : (w.depth +ℤ pos (bytes_left w.rest)) <ℤ pos (2 ^ 63)
