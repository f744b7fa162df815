use Rattle.std.proofs.Common.{◌≡◌, Bool, true, Result, Ok, Err, IfOk, length, sym, ap, ◌∙◌, subst}
use Rattle.addr2line_elf.specs.declared.error.LoadError.{LoadError}
use Rattle.addr2line_elf.specs.ElfImages.{Identification, identification}
use Rattle.addr2line_elf.specs.FileParts.{AreApart, AreThere, PartialFile, covers}
use Rattle.addr2line_elf.specs.LoadedParts.{head_size, HasImage, HasImageIfElf, HasLoadedParts}
use Rattle.addr2line_elf.proofs.coverage.has_loaded_parts.Goals as goal

-- the first bytes, and of an ELF file all of the image that a loader reads
loaded : (file : PartialFile) (r : Result Bool LoadError) (id : Identification) → AreThere file.bytes file.parts
    → AreApart file.parts → covers 0 (head_size (length file.bytes)) file ≡ true
    → identification file.bytes ≡ Ok id → IfOk r (λ all. all ≡ true → HasImage file)
    → IfOk r (λ all. all ≡ true → HasLoadedParts file)
loaded file (Ok all) id there apart head is has = λ yes. record {
  there = there;
  apart = apart;
  head = head;
  rest = subst (λ (i : Result Identification LoadError). HasImageIfElf i file) (sym is) (has yes);
}
loaded file (Err e) id there apart head is has = tt

pub returns-in-Ok-clause-all : goal.returns-in-Ok-clause-all
returns-in-Ok-clause-all c =
    let size : c.head_size.result ≡ head_size (length c.args.file.now.bytes) =
    c.head_size.ensures.value ∙ ap head_size c.len.ensures in
    let there : true ≡ covers 0 c.head_size.result c.args.file.now = c.if-not-covers.ensures.value in
    let head : covers 0 (head_size (length c.args.file.now.bytes)) c.args.file.now ≡ true =
    sym (there ∙ ap (λ n. covers 0 n c.args.file.now) size) in
    loaded c.args.file.now c.has_image.result _ c.covers.ensures.there c.covers.ensures.apart head c.in-Ok.ensures
    c.has_image.ensures.all
