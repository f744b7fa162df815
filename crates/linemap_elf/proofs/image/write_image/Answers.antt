use Rattle.std.proofs.Common.{sym, subst}
use Rattle.std.proofs.lemmas.Result.{IfOk-weaker}
use Rattle.gimli_lines_write_bytes.specs.ByteOrders.{is_big_endian}
use Rattle.linemap_elf.specs.SpelledImages.{all_sections}
use Rattle.linemap_elf.specs.ImageLaws.{HoldsSections}
use Rattle.linemap_elf.proofs.ImagesRead.{holds}
use Rattle.linemap_elf.proofs.image.write_image.Goals as goal

pub returns-clause-again : goal.returns-clause-again
returns-clause-again c =
    let is_big = is_big_endian c.args.endian in
    let sections = c.args.sections.now in
    IfOk-weaker c.write_parts.result _ _
    (λ bytes e. subst (HoldsSections is_big (all_sections sections)) (sym e)
    (holds c.args.class is_big sections c.requires)) c.write_parts.ensures
