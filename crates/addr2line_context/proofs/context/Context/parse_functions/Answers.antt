use Rattle.addr2line_lookups.specs.Histories.{functions_or_refusal}
use Rattle.addr2line_lookups.specs.UnitParses.{check_functions_of}
use Rattle.addr2line_lookups.proofs.UnitWalks.{plain_walked}
use Rattle.addr2line_context.proofs.ContextParts.{file_context_with, value_is, looks_since, lines_since}
use Rattle.addr2line_context.proofs.ContextWalks.{says_functions, walk_of_context, same_plain_walked, of_file_walked}
use Rattle.addr2line_context.proofs.KeptUnits.{holds_anew}
use Rattle.addr2line_context.proofs.context.Context.parse_functions.Goals as goal

pub invariant_of-self : goal.invariant_of-self
invariant_of-self g c =
    let i = c.self.inside in
    let file = i.sections.value.file in
    let s = i.supplement_units.items in
    let new = c.check_functions.new.self in
    let of_file = c.self.invariant.are_of_file in
    let walk = c.check_functions.ensures.walk in
    holds_anew file s i.units new c.self.invariant
    (plain_walked check_functions_of c.check_functions.result i.units new walk)
    (of_file_walked file i.units s of_file functions_or_refusal check_functions_of
    (says_functions (file_context_with file i.units s)) new c.check_functions.result walk)
    c.check_functions.ensures.calls c.none-self-inside.result c.none-self-inside-2.result
    c.none-self-inside.ensures c.none-self-inside-2.ensures

pub returns-clause-functions : goal.returns-clause-functions
returns-clause-functions g c =
    let i = c.self.inside in
    let file = i.sections.value.file in
    let s = i.supplement_units.items in
    walk_of_context file i.units s c.self.invariant.are_of_file functions_or_refusal check_functions_of
    (says_functions (file_context_with file i.units s)) c.check_functions.new.self c.check_functions.result
    c.check_functions.ensures.walk c.args.self.now.value (value_is _ _ _ _ c.self.view_is)

pub returns-clause-kept : goal.returns-clause-kept
returns-clause-kept g c = c.check_functions.ensures.kept

pub returns-clause-plain : goal.returns-clause-plain
returns-clause-plain g c =
    let i = c.self.inside in
    let file = i.sections.value.file in
    let s = i.supplement_units.items in
    same_plain_walked file i.units s c.self.invariant.are_of_file functions_or_refusal check_functions_of
    (says_functions (file_context_with file i.units s)) c.check_functions.new.self c.check_functions.result
    c.check_functions.ensures.walk c.args.self.now.value (value_is _ _ _ _ c.self.view_is)

pub returns-clause-cost : goal.returns-clause-cost
returns-clause-cost g c = looks_since _ _ _ _ c.self.view_is 0 c.check_functions.new.self c.check_functions.ensures.cost

pub returns-clause-lines : goal.returns-clause-lines
returns-clause-lines g c = lines_since _ _ _ _ c.self.view_is c.check_functions.new.self c.check_functions.ensures.lines
