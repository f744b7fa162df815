-- What calls write for C, field by field: a value's own fields, and those of what is written.
use Rattle.std.specs.Prelude.{ℕ, Bool, true, false, List, [], Option, Some, None}
use Rattle.addr2line_context.specs.Lines.{Location, Stretch}
use Rattle.addr2line_c.specs.ShownFrames.{ShownFrame}
use Rattle.addr2line_c.specs.declared.c_types.A2lLocation.{A2lLocation}
use Rattle.addr2line_c.specs.declared.c_types.A2lFrame.{A2lFrame}
use Rattle.addr2line_c.specs.declared.c_types.A2lRange.{A2lRange}

-- ---- a value that may not be known: whether it is, and the value, or 0 or nothing in its place

abbrev pub has : {A : Type 0} → Option A → ℕ
has None = 0
has (Some x) = 1

abbrev pub or_zero : Option ℕ → ℕ
or_zero None = 0
or_zero (Some n) = n

abbrev pub or_empty : Option (List ℕ) → List ℕ
or_empty None = []
or_empty (Some bytes) = bytes

abbrev pub byte_of : Bool → ℕ
byte_of true = 1
byte_of false = 0

abbrev pub byte_or_zero : Option Bool → ℕ
byte_or_zero None = 0
byte_or_zero (Some test) = byte_of test

-- ---- places

-- the fields of a location in C
pub record LocationOut : Type 0 where
  pub file : List ℕ
  pub discriminator : ℕ
  pub line : ℕ
  pub column : ℕ
  pub statement : ℕ
  pub has_file : ℕ
  pub has_line : ℕ
  pub has_column : ℕ
  pub has_statement : ℕ
  pub has_discriminator : ℕ

-- those of a location that is known
abbrev pub location_out : Location → LocationOut
location_out l =
    record {
      file = or_empty l.file;
      discriminator = or_zero l.discriminator;
      line = or_zero l.line;
      column = or_zero l.column;
      statement = byte_or_zero l.statement;
      has_file = has l.file;
      has_line = has l.line;
      has_column = has l.column;
      has_statement = has l.statement;
      has_discriminator = has l.discriminator;
    }

-- where there is none
abbrev pub no_location_out : LocationOut
no_location_out =
    record {
      file = [];
      discriminator = 0;
      line = 0;
      column = 0;
      statement = 0;
      has_file = 0;
      has_line = 0;
      has_column = 0;
      has_statement = 0;
      has_discriminator = 0;
    }

abbrev pub location_out_if_any : Option Location → LocationOut
location_out_if_any None = no_location_out
location_out_if_any (Some l) = location_out l

-- those that a location in C has
abbrev pub location_written : A2lLocation → LocationOut
location_written l =
    record {
      file = l.file.now;
      discriminator = l.discriminator;
      line = l.line;
      column = l.column;
      statement = l.statement;
      has_file = l.has_file;
      has_line = l.has_line;
      has_column = l.has_column;
      has_statement = l.has_statement;
      has_discriminator = l.has_discriminator;
    }

-- ---- frames

-- the fields of a frame in C
pub record FrameOut : Type 0 where
  pub function : List ℕ
  pub location : LocationOut
  pub entry_offset : ℕ
  pub language : ℕ
  pub has_function : ℕ
  pub has_location : ℕ
  pub has_entry_offset : ℕ
  pub has_language : ℕ

-- those of a frame
abbrev pub frame_out : ShownFrame → FrameOut
frame_out f =
    record {
      function = or_empty f.name;
      location = location_out_if_any f.location;
      entry_offset = or_zero f.offset;
      language = or_zero f.language;
      has_function = has f.name;
      has_location = has f.location;
      has_entry_offset = has f.offset;
      has_language = has f.language;
    }

-- those that a frame in C has
abbrev pub frame_written : A2lFrame → FrameOut
frame_written f =
    record {
      function = f.function.now;
      location = location_written f.location;
      entry_offset = f.entry_offset;
      language = f.language;
      has_function = f.has_function;
      has_location = f.has_location;
      has_entry_offset = f.has_entry_offset;
      has_language = f.has_language;
    }

-- ---- stretches

-- the fields of a stretch in C
pub record RangeOut : Type 0 where
  pub location : LocationOut
  pub address : ℕ
  pub length : ℕ

-- those of a stretch
abbrev pub range_out : Stretch → RangeOut
range_out s =
    record { location = location_out s.location; address = s.address; length = s.length }

-- those that a stretch in C has
abbrev pub range_written : A2lRange → RangeOut
range_written r =
    record { location = location_written r.location; address = r.address; length = r.length }
