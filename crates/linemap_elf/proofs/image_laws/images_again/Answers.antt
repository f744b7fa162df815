use Rattle.linemap_elf.proofs.ImagesRead.{holds}
use Rattle.linemap_elf.proofs.image_laws.images_again.Goals as goal

pub returns : goal.returns
returns c = holds
