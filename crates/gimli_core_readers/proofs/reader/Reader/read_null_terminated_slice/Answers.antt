-- A text is what comes before its zero byte.
use Rattle.gimli_core_readers.proofs.ViewCuts.{text_is}
use Rattle.gimli_core_readers.proofs.reader.Reader.read_null_terminated_slice.Goals as goal

pub returns-clause-value : goal.returns-clause-value
returns-clause-value g c =
    let view = g.Self.Reader.view in
    let count = g.Self.Offset.ReaderOffset.count in
    text_is (count c.in_ok-len.len) (view c.args.self.now) (view c.in_ok-text.text) (view c.split.new.self)
    (view c.advance.new.self) c.in_ok-len.ensures c.in_ok-text.ensures.value c.advance.ensures
