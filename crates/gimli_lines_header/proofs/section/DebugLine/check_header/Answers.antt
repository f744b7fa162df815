use Rattle.std.proofs.Common.{rules}
use Rattle.gimli_lines_header.proofs.CheckSteps.{returns_fault}
use Rattle.gimli_lines_header.proofs.HeaderChecks.{header_checked, skip_refused, length_refused, part_refused}
use Rattle.gimli_lines_header.proofs.section.DebugLine.check_header.Goals as goal

pub returns : goal.returns
returns g c = λ directory name.
    header_checked g.R.Offset.ReaderOffset.limit (g.R.Offset.ReaderOffset.count c.args.offset.0) c.into_u64.result
    c.args.address_size directory name _ c.args.self.now c.borrowed-place.result _ _ _ _ c.into_u64-2.result _
    (search rules) c.into_u64.ensures.value c.into_u64-2.ensures.value c.in_ok-skip_bytes.ensures
    c.in_ok-unit_length.ensures c.in_ok-program.ensures _ c.check_after_length.ensures

pub returns-in_err-skip_bytes : goal.returns-in_err-skip_bytes
returns-in_err-skip_bytes g c = λ directory name.
    returns_fault _ c.from_residual.result _ _ c.from_residual.ensures.1
    (skip_refused g.R.Offset.ReaderOffset.limit (g.R.Offset.ReaderOffset.count c.args.offset.0) c.into_u64.result _
    c.args.self.now c.borrowed-place.result _ (search rules) c.into_u64.ensures.value c.in_err-skip_bytes.ensures)

pub returns-in_err-unit_length : goal.returns-in_err-unit_length
returns-in_err-unit_length g c = λ directory name.
    returns_fault _ c.from_residual-in_err-unit_length.result _ _ c.from_residual-in_err-unit_length.ensures.1
    (length_refused g.R.Offset.ReaderOffset.limit (g.R.Offset.ReaderOffset.count c.args.offset.0) c.into_u64.result _
    c.args.self.now c.borrowed-place.result _ _ (search rules) c.into_u64.ensures.value c.in_ok-skip_bytes.ensures
    c.in_err-unit_length.ensures)

pub returns-in_err-program : goal.returns-in_err-program
returns-in_err-program g c = λ directory name.
    returns_fault _ c.from_residual-in_err-program.result _ _ c.from_residual-in_err-program.ensures.1
    (part_refused g.R.Offset.ReaderOffset.limit (g.R.Offset.ReaderOffset.count c.args.offset.0) c.into_u64.result _ _
    c.args.self.now c.borrowed-place.result _ _ c.into_u64-2.result _ _ (search rules) c.into_u64.ensures.value
    c.into_u64-2.ensures.value c.in_ok-skip_bytes.ensures c.in_ok-unit_length.ensures c.in_err-program.ensures)
