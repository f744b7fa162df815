use Rattle.std.proofs.Common.{ap, take, drop, ◌∙◌}
use Rattle.addr2line_elf.specs.FileParts.{PartialFile}
use Rattle.addr2line_elf.proofs.FilePartLemmas.{found_in}
use Rattle.addr2line_elf.proofs.file_parts.FileParts.part_of.Goals as goal

pub returns-in-Some-clause-begins : goal.returns-in-Some-clause-begins
returns-in-Some-clause-begins c =
    (found_in c.self.inside.len c.args.offset c.args.size c.self.inside.parts.items c.deref.result.now
    c.in-Some.part.now c.deref.ensures.value c.in-Some.ensures c.self.invariant).begins

pub returns-in-Some-clause-ends : goal.returns-in-Some-clause-ends
returns-in-Some-clause-ends c =
    (found_in c.self.inside.len c.args.offset c.args.size c.self.inside.parts.items c.deref.result.now
    c.in-Some.part.now c.deref.ensures.value c.in-Some.ensures c.self.invariant).ends

pub returns-in-Some-clause-bytes : goal.returns-in-Some-clause-bytes
returns-in-Some-clause-bytes c =
    let is = ap (λ (f : PartialFile). f.bytes) c.self.view_is in
    (found_in c.self.inside.len c.args.offset c.args.size c.self.inside.parts.items c.deref.result.now
    c.in-Some.part.now c.deref.ensures.value c.in-Some.ensures c.self.invariant).same
    ∙ ap (λ bytes. take c.args.size (drop c.args.offset bytes)) is
