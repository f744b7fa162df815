use Rattle.linemap_emit_calls_laws.proofs.UnitFunctionsFound.{functions_found}
use Rattle.linemap_emit_calls_laws.proofs.function_laws.functions_again.Goals as goal

pub returns : goal.returns
returns c = functions_found
