use Rattle.std.proofs.Common.{arith}
use Rattle.gimli_units_headers.proofs.RefusedCalls.{returns_refused}
use Rattle.gimli_lines_header.specs.TableEntries.{file_entry}
use Rattle.gimli_units_headers.proofs.Times.{count_push, count_fault, count_end}
use Rattle.gimli_lines_header.proofs.TableLoops.{count_start}
use Rattle.gimli_lines_header.proofs.tables.parse_counted_files.Goals as goal

pub loop-file-init : goal.loop-file-init
loop-file-init g c = count_start (file_entry g.R.Offset.ReaderOffset.limit c.args.encoding c.args.formats.now)
    c.args.count c.in_ok-found.found.items (g.R.Reader.view c.args.input.now) c.in_ok-found.ensures.items

pub loop-file-preserved : goal.loop-file-preserved
loop-file-preserved g c =
    count_push (file_entry g.R.Offset.ReaderOffset.limit c.args.encoding c.args.formats.now) c.args.count
    c.loop-file._file c.loop-file.found.items _ c.in_ok-parse_file.field-0 _ _ _ (omega arith)
    c.in_ok-parse_file.ensures c.in_ok-push.ensures.items c.loop-file.invariant

pub returns-in_err-parse_file : goal.returns-in_err-parse_file
returns-in_err-parse_file g c =
    returns_refused _ c.from_residual-in_err-parse_file.result _ _ c.from_residual-in_err-parse_file.ensures.1
    (λ ne. count_fault (file_entry g.R.Offset.ReaderOffset.limit c.args.encoding c.args.formats.now) c.args.count
    c.loop-file._file c.loop-file.found.items _ _ _ (omega arith) (c.in_err-parse_file.ensures ne)
    c.loop-file.invariant)

pub returns : goal.returns
returns g c = count_end (file_entry g.R.Offset.ReaderOffset.limit c.args.encoding c.args.formats.now) c.args.count
    c.loop-file._file c.loop-file.found.items _ _ (omega arith) c.loop-file.invariant
