use Rattle.std.proofs.Common.{ap, length, refl, subst}
use Rattle.addr2line_c.specs.Answers.{AreNext}
use Rattle.addr2line_c.specs.declared.open_file.OpenFile.{OpenFile}
use Rattle.addr2line_c.proofs.KeptStretches.{gives_next, not_empty}
use Rattle.addr2line_c.proofs.places.a2l_next_ranges.Goals as goal

pub returns-clause-ranges : goal.returns-clause-ranges
returns-clause-ranges c = λ opened room.
    let xs = c.in-Ok.stretches.now in
    let next = subst (λ (f : OpenFile). AreNext (length c.args.out.now) f xs)
    (ap (λ h. h.file) c.state-opened.ensures.same) c.in-Ok.ensures.stretches in
    gives_next (length c.args.out.now) (length xs) c.args.handle.now.file xs c.write_ranges.new.out next
    (not_empty c.is_empty-2.result (length xs) c.is_empty-2.ensures c.if-is_empty-2.false) refl
    c.write_ranges.ensures.written
