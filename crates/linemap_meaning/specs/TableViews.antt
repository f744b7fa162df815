-- What contracts see of each struct of a table.
use Rattle.std.specs.Prelude.{List, [], ◌∷◌, map, string_bytes}
use Rattle.linemap_meaning.specs.TableParts.{RangePart, FilePart, RowPart, SequencePart, Site, Calls, no_calls, more_calls, CallPart, FunctionPart, UnitPart}
use Rattle.linemap_meaning.specs.declared.table.TableRange.{TableRange}
use Rattle.linemap_meaning.specs.declared.table.TableFile.{TableFile}
use Rattle.linemap_meaning.specs.declared.table.TableRow.{TableRow}
use Rattle.linemap_meaning.specs.declared.table.TableSequence.{TableSequence}
use Rattle.linemap_meaning.specs.declared.table.TableFunction.{TableFunction}
use Rattle.linemap_meaning.specs.declared.table.TableUnit.{TableUnit}
use Rattle.linemap_meaning.specs.declared.table.TableCall.{TableCall}
use Rattle.linemap_meaning.specs.declared.table.TableCall.TheOpen.{TableCall-F}
use Rattle.linemap_meaning.specs.declared.table.TableCall.TheFolds.{fold-TableCall}

abbrev pub range_part : TableRange → RangePart
range_part r = record { begin = r.begin; end = r.end }

abbrev pub file_part : TableFile → FilePart
file_part f = record { directory = string_bytes f.directory; name = string_bytes f.name }

abbrev pub row_part : TableRow → RowPart
row_part r =
    record {
      address = r.address;
      file = r.file;
      line = r.line;
      column = r.column;
      statement = r.statement;
      discriminator = r.discriminator;
    }

abbrev pub sequence_part : TableSequence → SequencePart
sequence_part s = record { rows = map row_part s.rows.items; end = s.end }

-- a list of calls as one value
abbrev pub calls_of : List CallPart → Calls
calls_of [] = no_calls
calls_of (c ∷ cs) = more_calls c.site c.inner (calls_of cs)

-- the site of a call, one level of its struct
abbrev pub site_step : TableCall-F CallPart → Site
site_step c =
    record {
      name = string_bytes c.name;
      ranges = map range_part c.ranges.items;
      file = c.file;
      line = c.line;
      column = c.column;
    }

-- a call, one level of its struct, where the calls in it are parts already
abbrev pub call_step : TableCall-F CallPart → CallPart
call_step c = record { site = site_step c; inner = calls_of c.calls.items }

abbrev pub call_part : TableCall → CallPart
call_part = fold-TableCall CallPart call_step

abbrev pub calls_part : List TableCall → Calls
calls_part cs = calls_of (map call_part cs)

abbrev pub function_part : TableFunction → FunctionPart
function_part f =
    record {
      name = string_bytes f.name;
      ranges = map range_part f.ranges.items;
      calls = calls_part f.calls.items;
    }

abbrev pub unit_part : TableUnit → UnitPart
unit_part u = record {
  directory = string_bytes u.directory;
  name = string_bytes u.name;
  ranges = map range_part u.ranges.items;
  files = map file_part u.files.items;
  functions = map function_part u.functions.items;
  sequences = map sequence_part u.sequences.items;
}
