use Rattle.addr2line_context.specs.Contexts.{all_lines_or_refusal}
use Rattle.addr2line_context.specs.KeptUnits.{AsksForLines}
use Rattle.linemap_replay.proofs.CopiedAnswers.{completion_copy, meaning_is_result}
use Rattle.linemap_replay.proofs.KeptReads.{by_looks, reads_no_functions}
use Rattle.linemap_replay.proofs.parses.read_lines.Goals as goal

pub returns-clause-answer : goal.returns-clause-answer
returns-clause-answer g c =
    let meaning = all_lines_or_refusal c.args.context.now.value.plain.context.units in
    completion_copy c.parse_lines.result meaning c.complete.result
    (meaning_is_result c.parse_lines.result meaning c.parse_lines.ensures.lines) c.complete.ensures

pub returns-clause-kept : goal.returns-clause-kept
returns-clause-kept g c =
    let old = c.args.context.now in
    let new = c.parse_lines.new.self in
    by_looks (AsksForLines old.value.plain.context.units) (λ n. ⊥) 0 old.units new.units
    c.parse_lines.ensures.after.cost c.parse_lines.ensures.reads
    (reads_no_functions (λ n. ⊥) old.units new.units c.parse_lines.ensures.functions)
