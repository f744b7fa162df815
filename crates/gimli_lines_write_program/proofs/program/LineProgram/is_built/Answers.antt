use Rattle.std.proofs.Common.{◌<◌, subst}
use Rattle.gimli_lines_write_laws.specs.LineRules.{LineRules}
use Rattle.gimli_lines_write_laws.specs.RowPieces.{IsBuildable}
use Rattle.gimli_lines_write_program.proofs.program.LineProgram.is_built.Goals as goal

pub returns : goal.returns
returns c = rw (← c.self.view_is) (record {
  consistent = c.are_built.ensures.consistent;
  fit = c.are_built.ensures.fit;
  few = c.are_built.ensures.few;
  same_version = c.self.invariant;
  buildable = subst (λ r. IsBuildable r) c.rules-rules.ensures.value c.rules-rules.ensures.buildable;
  least = subst (λ (r : LineRules). r.line_encoding.minimum_instruction_length < 256) c.rules-rules.ensures.value
      c.byte_parameters-parameters.ensures.least;
  most = subst (λ (r : LineRules). r.line_encoding.maximum_operations_per_instruction < 256)
      c.rules-rules.ensures.value c.byte_parameters-parameters.ensures.most;
  in_order = c.entries-entries.ensures.in_order;
})
