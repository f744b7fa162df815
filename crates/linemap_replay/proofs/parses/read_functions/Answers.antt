use Rattle.std.proofs.Common.{◌≡◌, inr, sym, ap, Result}
use Rattle.std.specs.Prelude.{⊤}
use Rattle.addr2line_context.specs.Error.{Error}
use Rattle.addr2line_context.specs.FirstAnswers.{FirstAnswers}
use Rattle.addr2line_context.specs.Histories.{functions_or_refusal, parse_all}
use Rattle.linemap_replay.proofs.CopiedAnswers.{completion_copy, if_completed, meaning_is_parse}
use Rattle.linemap_replay.proofs.KeptReads.{by_looks, reads_no_lines}
use Rattle.linemap_replay.proofs.PartAnswers.{if_err, parsed_part}
use Rattle.linemap_replay.proofs.parses.read_functions.Goals as goal

pub returns-clause-answer : goal.returns-clause-answer
returns-clause-answer g c =
    let old = c.args.context.now.value in
    let parse = functions_or_refusal c.args.context.now.value.plain in
    completion_copy c.parse_functions.result (parse_all old.plain parse old.answers).0 c.complete.result
    (λ other. ap (λ (x : Result (Unit {0}) Error × FirstAnswers). x.0)
    (meaning_is_parse old.plain parse c.parse_functions.result old.answers c.parse_functions.new.self.value.answers
    c.parse_functions.ensures.functions other)) c.complete.ensures

pub returns-clause-left : goal.returns-clause-left
returns-clause-left g c =
    let old = c.args.context.now.value in
    let parse = functions_or_refusal c.args.context.now.value.plain in
    if_completed c.parse_functions.result c.complete.result
    (c.parse_functions.new.self.value.answers ≡ (parse_all old.plain parse old.answers).1)
    (λ other. sym (ap (λ (x : Result (Unit {0}) Error × FirstAnswers). x.1)
    (meaning_is_parse old.plain parse c.parse_functions.result old.answers c.parse_functions.new.self.value.answers
    c.parse_functions.ensures.functions other))) c.complete.ensures

pub returns-clause-part : goal.returns-clause-part
returns-clause-part g c =
    let old = c.args.context.now.value in
    if_err c.complete.result _
    (parsed_part old.plain (functions_or_refusal old.plain) c.parse_functions.result old.answers
    c.parse_functions.new.self.value.answers c.parse_functions.ensures.functions)

pub returns-clause-kept : goal.returns-clause-kept
returns-clause-kept g c =
    let old = c.args.context.now.units in
    let new = c.parse_functions.new.self.units in
    by_looks (λ n. ⊥) (λ n. ⊤) 0 old new c.parse_functions.ensures.cost
    (reads_no_lines (λ n. ⊥) old new c.parse_functions.ensures.lines) (λ n h. inr tt)
