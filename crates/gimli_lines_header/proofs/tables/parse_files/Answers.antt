use Rattle.gimli_lines_header.proofs.ParserChains.{older_files}
use Rattle.gimli_lines_header.proofs.tables.parse_files.Goals as goal

pub returns-clause-value : goal.returns-clause-value
returns-clause-value g c = older_files g.R.Offset.ReaderOffset.limit c.args.encoding c.new.result.items _ _ _
    c.if-encoding-gt4.false c.in_ok-found.ensures c.new.ensures.items
