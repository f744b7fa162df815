use Rattle.std.proofs.Common.{arith}
use Rattle.gimli_units_headers.proofs.RefusedCalls.{returns_refused}
use Rattle.gimli_lines_header.specs.TableEntries.{entry_format}
use Rattle.gimli_units_headers.proofs.Times.{count_push, count_fault, count_end}
use Rattle.gimli_lines_header.proofs.formats.parse_counted.Goals as goal

pub loop-field-preserved : goal.loop-field-preserved
loop-field-preserved g c =
    count_push entry_format c.args.count c.loop-field._field c.loop-field.formats.items _ c.in_ok-parse_format.field-0 _
    _ _ (omega arith) c.in_ok-parse_format.ensures c.in_ok-push.ensures.items c.loop-field.invariant

pub returns-in_err-parse_format : goal.returns-in_err-parse_format
returns-in_err-parse_format g c =
    returns_refused _ c.from_residual.result _ _ c.from_residual.ensures.1
    (λ _. count_fault entry_format c.args.count c.loop-field._field c.loop-field.formats.items _ _ _ (omega arith)
    c.in_err-parse_format.ensures c.loop-field.invariant)

pub returns : goal.returns
returns g c = count_end entry_format c.args.count c.loop-field._field c.loop-field.formats.items _ _ (omega arith)
    c.loop-field.invariant
