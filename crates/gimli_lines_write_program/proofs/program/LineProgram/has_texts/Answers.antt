use Rattle.gimli_lines_write_program.proofs.KnownTables.{tables_decide}
use Rattle.gimli_lines_write_program.proofs.program.LineProgram.has_texts.Goals as goal

pub returns : goal.returns
returns c =
    rw c.knows_texts.ensures
    (tables_decide c.args.strings.now c.args.line_strings.now c.args.self.now.tables c.args.self.now.details)
