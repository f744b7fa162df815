use Rattle.std.proofs.Common.{◌≡◌, length, drop, ap, arith}
use Rattle.std.proofs.lemmas.List.{drop_all}
use Rattle.linemap_elf.specs.WrittenImages.{names_joined}
use Rattle.linemap_elf.proofs.WrittenParts.{names_more, length_names_section}
use Rattle.linemap_elf.proofs.sections.names_size.Goals as goal

pub overflow_add-size-in-loop-section : goal.overflow_add-size-in-loop-section
overflow_add-size-in-loop-section c =
    let whole = length_names_section c.args.sections.now in
    let more =
    names_more c.loop-section.section-index c.args.sections.now c.section-item.result c.loop-section-test.true
    c.section-item.is in
    let same = ap length c.name.ensures in
    omega arith

pub returns : goal.returns
returns c =
    let whole = length_names_section c.args.sections.now in
    let none : length (names_joined (drop c.loop-section.section-index c.args.sections.now)) ≡ 0 =
    ap (λ l. length (names_joined l))
    (drop_all c.loop-section.section-index c.args.sections.now c.loop-section-test.false) in
    omega arith
