use Rattle.gimli_lines_write_program.proofs.WritablePrograms.{writable_decides}
use Rattle.gimli_lines_write_program.proofs.program.LineProgram.can_write.Goals as goal

pub returns : goal.returns
returns c = rw c.is_writable.ensures (writable_decides c.args.strings.now c.args.line_strings.now c.args.self.now)
