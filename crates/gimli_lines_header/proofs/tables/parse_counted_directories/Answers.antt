use Rattle.std.proofs.Common.{arith}
use Rattle.gimli_units_headers.proofs.RefusedCalls.{returns_refused}
use Rattle.gimli_units_forms.specs.AttributeValues.{raw_value_of}
use Rattle.gimli_lines_header.specs.TableEntries.{directory_entry}
use Rattle.gimli_units_headers.proofs.Times.{count_fault, count_end}
use Rattle.gimli_lines_header.proofs.TableLoops.{count_view}
use Rattle.gimli_lines_header.proofs.tables.parse_counted_directories.Goals as goal

pub loop-directory-preserved : goal.loop-directory-preserved
loop-directory-preserved g c =
    count_view (directory_entry g.R.Offset.ReaderOffset.limit c.args.encoding c.args.formats.now)
    (raw_value_of g.R.Reader.view g.R.Offset.ReaderOffset.count) c.args.count c.loop-directory._directory
    c.loop-directory.found.items _ c.in_ok-parse_directory.field-0 _ _ _ (omega arith)
    c.in_ok-parse_directory.ensures c.in_ok-push.ensures.items c.loop-directory.invariant

pub returns-in_err-parse_directory : goal.returns-in_err-parse_directory
returns-in_err-parse_directory g c =
    returns_refused _ c.from_residual-in_err-parse_directory.result _ _ c.from_residual-in_err-parse_directory.ensures.1
    (λ ne. count_fault (directory_entry g.R.Offset.ReaderOffset.limit c.args.encoding c.args.formats.now) c.args.count
    c.loop-directory._directory _ _ _ _ (omega arith) (c.in_err-parse_directory.ensures ne)
    c.loop-directory.invariant)

pub returns : goal.returns
returns g c = count_end (directory_entry g.R.Offset.ReaderOffset.limit c.args.encoding c.args.formats.now) c.args.count
    c.loop-directory._directory _ _ _ (omega arith) c.loop-directory.invariant
