use Rattle.std.proofs.Common.{List, ℕ, ◌∙◌, ap}
use Rattle.std.proofs.lemmas.Result.{on_ok_weaker}
use Rattle.linemap_elf.specs.WrittenImages.{append}
use Rattle.linemap_elf.proofs.WrittenParts.{take_replicate}
use Rattle.linemap_elf.proofs.image.write_zeros.Goals as goal

pub returns : goal.returns
returns c =
    on_ok_weaker c.write.result
    (λ e. e ∙ ap (λ (bs : List ℕ). append bs c.args.w.now) (take_replicate c.args.count 8 c.requires)) c.write.ensures
