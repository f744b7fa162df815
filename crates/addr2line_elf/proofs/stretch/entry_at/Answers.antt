use Rattle.std.proofs.Common.{◌≡◌, length, slice_get, Some, refl, ap, sym, ◌∙◌}
use Rattle.std.proofs.lemmas.Option.{slice_get_read, slice_get_past}
use Rattle.addr2line_elf.proofs.SymbolStretchLemmas.{entry_of, entry_after}
use Rattle.addr2line_elf.proofs.stretch.entry_at.Goals as goal

pub returns-in-Some : goal.returns-in-Some
returns-in-Some c =
    let stretches = c.args.stretches.now in
    let n = c.count_ending_before.result in
    let stretch = c.in-Some.stretch.now in
    let lookup = c.in-Some.ensures.lookup in
    let found : slice_get stretches n ≡ Some stretch =
    slice_get_read stretches (length stretches) n stretch refl lookup.3.0 lookup.1 in
    sym (entry_after c.args.address stretches
    ∙ ap (λ k. entry_of (slice_get stretches k)) (sym c.count_ending_before.ensures) ∙ ap entry_of found)

pub returns-in-None : goal.returns-in-None
returns-in-None c =
    let stretches = c.args.stretches.now in
    sym (entry_after c.args.address stretches
    ∙ ap (λ k. entry_of (slice_get stretches k)) (sym c.count_ending_before.ensures)
    ∙ ap entry_of (slice_get_past stretches c.count_ending_before.result c.in-None.ensures.lookup.3))
