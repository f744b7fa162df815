use Rattle.std.proofs.Common.{◌≡◌, length, drop, sym, ap, subst, arith}
use Rattle.std.proofs.lemmas.List.{drop_all}
use Rattle.addr2line_elf.specs.declared.class.Class.{Class}
use Rattle.addr2line_elf.specs.declared.headers.SectionHeader.{SectionHeader}
use Rattle.linemap_elf.specs.SpelledImages.{FitsHeader}
use Rattle.linemap_elf.specs.WrittenImages.{bytes_joined, names_joined}
use Rattle.linemap_elf.proofs.WrittenParts.{bytes_more, is_bounded, fits_section}
use Rattle.linemap_elf.proofs.headers.write_headers.Goals as goal

pub write_header-requires-clause-fits : goal.write_header-requires-clause-fits
write_header-requires-clause-fits c =
    let class = c.args.w.now.class in
    let b = is_bounded class c.args.sections.now c.requires in
    let more =
    bytes_more c.loop-section.section-index c.args.sections.now c.section-item.result c.loop-section-test.true
    c.section-item.is in
    let size = ap length c.bytes.ensures in
    subst (λ (k : Class). FitsHeader k c.header_of.result) (sym c.loop-section.invariant.same_class)
    (subst (λ (h : SectionHeader). FitsHeader class h) (sym c.header_of.ensures)
    (fits_section class 1 c.loop-section.name c.loop-section.offset (length c.bytes.result.now) (omega arith)
    (omega arith) (omega arith) (omega arith)))

pub write_header-requires-2-clause-fits : goal.write_header-requires-2-clause-fits
write_header-requires-2-clause-fits c =
    let class = c.args.w.now.class in
    let b = is_bounded class c.args.sections.now c.requires in
    let names : length (names_joined (drop c.loop-section.section-index c.args.sections.now)) ≡ 0 =
    ap (λ l. length (names_joined l))
    (drop_all c.loop-section.section-index c.args.sections.now c.loop-section-test.false) in
    let bytes : length (bytes_joined (drop c.loop-section.section-index c.args.sections.now)) ≡ 0 =
    ap (λ l. length (bytes_joined l))
    (drop_all c.loop-section.section-index c.args.sections.now c.loop-section-test.false) in
    let size = c.names_size-size.ensures in
    subst (λ (k : Class). FitsHeader k c.header_of-2.result) (sym c.loop-section.invariant.same_class)
    (subst (λ (h : SectionHeader). FitsHeader class h) (sym c.header_of-2.ensures)
    (fits_section class 3 c.loop-section.name c.loop-section.offset c.names_size-size.result (omega arith)
    (omega arith) (omega arith) (omega arith)))
