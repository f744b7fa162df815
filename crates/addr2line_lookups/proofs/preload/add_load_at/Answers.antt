use Rattle.std.proofs.Common.{map, Option, Ok, subst, ◌∙◌}
use Rattle.addr2line_unit.specs.Calls.{ReturnsAsOrNoMemory}
use Rattle.addr2line_unit.specs.FirstAnswers.{PendingLoad}
use Rattle.addr2line_lookups.specs.Preloads.{load_of_item, with_load_if_any}
use Rattle.addr2line_lookups.proofs.preload.add_load_at.Goals as goal

pub returns-in-Some-clause-loads : goal.returns-in-Some-clause-loads
returns-in-Some-clause-loads g c =
    subst (λ (o : Option PendingLoad). ReturnsAsOrNoMemory (λ done. map load_of_item c.add_load.new.loads.items)
    c.add_load.result (Ok (with_load_if_any (map load_of_item c.args.loads.now.items) o))) c.in-Some.ensures
    c.add_load.ensures.loads

pub returns-in-Some-clause-free : goal.returns-in-Some-clause-free
returns-in-Some-clause-free g c = λ none. let here = c.in-Some.ensures ∙ none in absurd cc
