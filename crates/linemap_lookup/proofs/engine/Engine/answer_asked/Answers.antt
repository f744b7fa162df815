use Rattle.std.proofs.Common.{Global, String, ap, map, refl, string_bytes}
use Rattle.std.specs.Prelude.{Vec, option_map}
use Rattle.linemap_lookup.proofs.FrameSteps.{on_ok}
use Rattle.linemap_lookup.proofs.RunSteps.{if_err}
use Rattle.linemap_lookup.proofs.ProgramSteps.{all_answered, lines_answered, some_answered, words_asked}
use Rattle.linemap_lookup.proofs.engine.Engine.answer_asked.Goals as goal

pub returns-in-Some-default-clause-whole : goal.returns-in-Some-default-clause-whole
returns-in-Some-default-clause-whole g c =
    rw c.in-Some-default.is-0
    (on_ok c.write_addresses.result (all_answered (refl, refl, refl) c.requires) c.write_addresses.ensures.whole)

pub returns-in-None-Some-clause-whole : goal.returns-in-None-Some-clause-whole
returns-in-None-Some-clause-whole g c =
    rw c.in-None-Some.is-0
    (on_ok c.write_addresses-in-None-Some.result
    (all_answered (words_asked c.args.question.options.now _ _ _ c.in-None-Some.is-1 c.deref.ensures.value) c.requires)
    c.write_addresses-in-None-Some.ensures.whole)

pub returns-in-None-Some-clause-stop : goal.returns-in-None-Some-clause-stop
returns-in-None-Some-clause-stop g c =
    rw c.in-None-Some.is-0
    (if_err c.write_addresses-in-None-Some.result
    (λ e. some_answered (words_asked c.args.question.options.now _ _ _ c.in-None-Some.is-1 c.deref.ensures.value))
    c.write_addresses-in-None-Some.ensures.stop)

pub returns-in-None-None-clause-whole : goal.returns-in-None-None-clause-whole
returns-in-None-None-clause-whole g c =
    rw c.in-None-None.is-0
    (on_ok c.write_lines.result
    (lines_answered
    (ap (option_map (λ (v : Vec (String Global) Global). map string_bytes v.items)) c.in-None-None.is-1))
    c.write_lines.ensures.whole)
