use Rattle.addr2line_functions.specs.CountedFunctions.{CountedFunctions}
use Rattle.addr2line_functions.proofs.MadeValues.{returns_seen, ok_seen}
use Rattle.addr2line_functions.proofs.functions.functions_of_unit.Goals as goal

pub returns-clause-functions : goal.returns-clause-functions
returns-clause-functions g c =
    returns_seen (λ (f : CountedFunctions). f.functions) _ _ _ c.new.ensures c.in_ok-functions.ensures

pub returns-clause-counter : goal.returns-clause-counter
returns-clause-counter g c = ok_seen (λ (f : CountedFunctions). f.counter) _ _ c.new.ensures
