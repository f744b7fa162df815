use Rattle.std.proofs.Common.{sym, ◌∙◌}
use Rattle.linemap_emit_laws.proofs.RecordedFrames.{frames_alike}
use Rattle.linemap_emit_laws.proofs.recorded_table_laws.answers_agree.Goals as goal

pub returns : goal.returns
returns c = λ s t us x y answers other_answers a low high. (
  x.places a ∙ sym (y.places a),
  frames_alike _ (x.frames_are answers a).list (y.frames_are other_answers a).list (x.frames_are answers a).agree
      (y.frames_are other_answers a).agree,
  x.stretches_are low high ∙ sym (y.stretches_are low high),
)
