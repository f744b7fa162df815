use Rattle.std.proofs.Common.{inl, inr, refl, subst, sym}
use Rattle.linemap_lookup.specs.AnswerBuffers.{answer_of}
use Rattle.linemap_lookup.specs.LookupRuns.{Stops, nothing}
use Rattle.linemap_lookup.proofs.FrameSteps.{on_ok}
use Rattle.linemap_lookup.proofs.RunSteps.{if_err, stops_out_of_memory}
use Rattle.linemap_lookup.proofs.engine.Engine.write.Goals as goal

pub returns-in-Ok-clause-whole : goal.returns-in-Ok-clause-whole
returns-in-Ok-clause-whole g c =
    on_ok c.write_answer.result
    (λ writes. record { answer = answer_of c.answer.new.self.answer; answers_it = c.in-Ok.ensures; writes = writes })
    c.write_answer.ensures.whole

pub returns-in-Ok-clause-stop : goal.returns-in-Ok-clause-stop
returns-in-Ok-clause-stop g c =
    if_err c.write_answer.result
    (λ e stops. record {
      partial = answer_of c.answer.new.self.answer;
      is_answer = inr (_, c.in-Ok.ensures);
      stops = stops;
    }) c.write_answer.ensures.stop

pub returns-in-Err-clause-stop : goal.returns-in-Err-clause-stop
returns-in-Err-clause-stop g c = record {
  partial = nothing;
  is_answer = inl refl;
  stops = subst (Stops nothing _ _ _) (sym c.with_flags.ensures) (stops_out_of_memory c.out_of_memory.ensures);
}
