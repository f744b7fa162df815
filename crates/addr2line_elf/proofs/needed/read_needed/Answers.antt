use Rattle.std.proofs.Common.{ℕ, List, length, ap, sym, subst, ◌∙◌}
use Rattle.std.proofs.lemmas.List.{length-replicate}
use Rattle.addr2line_elf.specs.declared.file_parts.FilePart.{FilePart}
use Rattle.addr2line_elf.specs.FileParts.{AreThere}
use Rattle.addr2line_elf.proofs.LoadedPartLemmas.{loads_alike}
use Rattle.addr2line_elf.proofs.needed.read_needed.Goals as goal

pub returns-then-branch-clause-len : goal.returns-then-branch-clause-len
returns-then-branch-clause-len g c =
    c.read_into.ensures.reads.same_length ∙ ap length c.unread-file.ensures.bytes
    ∙ length-replicate {A = ℕ} c.args.len 0

pub returns-then-branch-clause-same : goal.returns-then-branch-clause-same
returns-then-branch-clause-same g c =
    λ bytes is long.
    let reads = c.read_into.ensures.reads in
    let none = subst (λ (ps : List FilePart). AreThere bytes ps) (sym c.unread-file.ensures.parts) tt in
    loads_alike _ bytes (c.in_ok-has_loaded_parts.ensures.all c.if-branch.true)
    (long
    ∙ sym (reads.same_length ∙ ap length c.unread-file.ensures.bytes ∙ length-replicate {A = ℕ} c.args.len 0))
    (reads.there bytes is none)
