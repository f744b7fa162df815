use Rattle.gimli_lines_rows.proofs.RefusedCalls.{returns_refused}
use Rattle.addr2line_root.proofs.LinesOfPrograms.{refusal_of_texts}
use Rattle.addr2line_root.proofs.files.texts_of_files.Goals as goal

pub returns-in_err-push_texts : goal.returns-in_err-push_texts
returns-in_err-push_texts g c =
    returns_refused _ c.from_residual-in_err-push_texts.result _ _ c.from_residual-in_err-push_texts.ensures.1
    (λ ne. refusal_of_texts c.args.unit.now
    c.args.header.now _ c.files_from_1.result.now _ c.in_ok-text_of_file_0.ensures c.files_from_1.ensures
    (c.in_err-push_texts.ensures ne))
