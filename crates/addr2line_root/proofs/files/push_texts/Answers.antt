use Rattle.std.proofs.Common.{map}
use Rattle.std.specs.String.{string_bytes}
use Rattle.addr2line_index.specs.FileTexts.{text_of_file}
use Rattle.addr2line_root.proofs.FileTextLemmas.{texts_more, texts_fault, texts_all}
use Rattle.addr2line_root.proofs.files.push_texts.Goals as goal

pub loop-file-preserved : goal.loop-file-preserved
loop-file-preserved g c =
    texts_more (text_of_file c.args.unit.now
    c.args.header.now) string_bytes c.args.files.now c.loop-file.file-index c.file-item.result
    c.in_ok-text_of_file.field-0
    c.loop-file.texts.items _ _ c.loop-file-test.true c.file-item.is c.in_ok-text_of_file.ensures
    c.in_ok-push.ensures.items c.loop-file.invariant

pub returns-in_err-text_of_file : goal.returns-in_err-text_of_file
returns-in_err-text_of_file g c =
    texts_fault (text_of_file c.args.unit.now
    c.args.header.now) c.from_residual.result c.args.files.now c.loop-file.file-index c.file-item.result
    (map string_bytes c.loop-file.texts.items) _ _ _ c.from_residual.ensures.1 c.loop-file-test.true c.file-item.is
    c.in_err-text_of_file.ensures c.loop-file.invariant

pub returns : goal.returns
returns g c =
    texts_all (text_of_file c.args.unit.now
    c.args.header.now)
    (tt {0}) c.args.files.now c.loop-file.file-index _ _ c.loop-file-test.false c.loop-file.invariant
