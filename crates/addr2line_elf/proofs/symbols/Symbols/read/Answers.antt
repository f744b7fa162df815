use Rattle.std.proofs.Common.{◌≡◌, filter, ap, sym, ◌∙◌, subst}
use Rattle.addr2line_elf.specs.SymbolStretches.{is_named, AreNamed, IsDivided}
use Rattle.addr2line_elf.proofs.SymbolChoice.{named_kept, read_kept}
use Rattle.addr2line_elf.proofs.symbols.Symbols.read.Goals as goal

pub invariant_of-result : goal.invariant_of-result
invariant_of-result c =
    let texts = c.args.texts.bytes in
    let entries = c.in_ok-entries.entries.items in
    let kept = c.keep_named.new.entries.items in
    let stretches = c.in_ok-stretches.stretches.items in
    let is : kept ≡ filter (is_named texts) entries =
    c.in_ok-keep_named.ensures.ok ∙ ap (λ t. filter (is_named t) entries) c.as_bytes.ensures.value in
    subst (λ v. IsDivided texts v.items stretches) (sym c.of-appearance.ensures)
    (c.in_ok-stretches.ensures.ok texts (subst (AreNamed texts) (sym is) (named_kept texts entries)))

pub returns : goal.returns
returns c =
    let texts = c.args.texts.bytes in
    let entries = c.in_ok-entries.entries.items in
    read_kept c.args.class c.args.table.now c.args.texts entries c.of-appearance.result.value.items
    c.in_ok-entries.ensures
    (ap (λ v. v.items) c.of-appearance.ensures ∙ c.in_ok-keep_named.ensures.ok
    ∙ ap (λ t. filter (is_named t) entries) c.as_bytes.ensures.value)
