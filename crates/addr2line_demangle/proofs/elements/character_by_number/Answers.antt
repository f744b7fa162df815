use Rattle.std.proofs.Common.{rules}
use Rattle.addr2line_demangle.proofs.DigitTexts.{no_character_by_number}
use Rattle.addr2line_demangle.proofs.elements.character_by_number.Goals as goal

pub returns-in-Err : goal.returns-in-Err
returns-in-Err c = no_character_by_number c.args.digits.now (search rules) c.in-Err.ensures.value
