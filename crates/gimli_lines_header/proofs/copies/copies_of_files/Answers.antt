use Rattle.gimli_units_headers.proofs.RefusedCalls.{returns_refused}
use Rattle.gimli_lines_header.proofs.HeaderCopies.{copy_of_item}
use Rattle.gimli_lines_header.proofs.copies.copies_of_files.Goals as goal

pub returns-in_err-copy : goal.returns-in_err-copy
returns-in_err-copy g c = returns_refused _ c.from_residual.result _ _ c.from_residual.ensures.1
    (λ ne. let never = c.in_err-copy.ensures ne in absurd cc)

pub loop-file-preserved : goal.loop-file-preserved
loop-file-preserved g c =
    copy_of_item c.args.files.now c.loop-file.copies.items c.push.new.self.items c.loop-file.file-index
    c.file-item.result c.in_ok-copy.field-0 c.loop-file-test.true
    c.loop-file.invariant c.file-item.is c.in_ok-copy.ensures c.in_ok-push.ensures.items
