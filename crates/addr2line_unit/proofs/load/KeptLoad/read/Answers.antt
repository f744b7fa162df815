use Rattle.std.proofs.Common.{ap, Ok, Option, Result}
use Rattle.addr2line_functions.specs.Error.{Error}
use Rattle.addr2line_functions.specs.FirstAnswers.{SplitLoad}
use Rattle.addr2line_unit.proofs.KeptParses.{no_load}
use Rattle.addr2line_unit.proofs.load.KeptLoad.read.Goals as goal

abbrev read_load : Result (Option SplitLoad) Error → Result (Result (Option SplitLoad) Error) Error
read_load load = Ok load

pub returns-in_default : goal.returns-in_default
returns-in_default g c = ap read_load (no_load c.args.unit.now.counted.unit c.in_default.ensures.1)
