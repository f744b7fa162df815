use Rattle.std.proofs.Common.{◌<◌, ◌^◌, length, sym, subst}
use Rattle.std.specs.Prelude.{All}
use Rattle.std.proofs.lemmas.List.{length-map}
use Rattle.gimli_lines_write_laws.specs.FileTables.{text_of}
use Rattle.gimli_lines_write_laws.specs.ProgramReadBack.{InfoFits}
use Rattle.gimli_lines_write_program.proofs.program.are_built.Goals as goal

pub returns : goal.returns
returns c = record {
  consistent = c.directories-directories.ensures.consistent;
  fit = subst (All InfoFits) c.infos-infos.ensures c.are_in_range.ensures;
  few = subst (λ ts. length ts < 2 ^ 64) c.directories-directories.ensures.value (subst (λ n. n < 2 ^ 64)
      (sym (length-map c.directories-directories.result.now text_of)) c.are_few.ensures);
}
