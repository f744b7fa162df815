use Rattle.std.proofs.Common.{◌≡◌, length, slice_get, Some, refl, ap, sym, ◌∙◌}
use Rattle.std.proofs.lemmas.Option.{slice_get_read, slice_get_past}
use Rattle.addr2line_elf.proofs.NamePartLemmas.{begins_by, part_after}
use Rattle.addr2line_elf.proofs.names.is_in_part.Goals as goal

pub returns-in-Some : goal.returns-in-Some
returns-in-Some c =
    let parts = c.args.parts.now in
    let o = c.args.offset in
    let part = c.in-Some.part.now in
    let lookup = c.in-Some.ensures.lookup in
    let found : slice_get parts c.count_ending_by.result ≡ Some part =
    slice_get_read parts (length parts) c.count_ending_by.result part refl lookup.3.0 lookup.1 in
    sym (part_after o parts
    ∙ ap (λ k. begins_by o (slice_get parts k)) (sym c.count_ending_by.ensures) ∙ ap (begins_by o) found)

pub returns-in-None : goal.returns-in-None
returns-in-None c =
    let parts = c.args.parts.now in
    let o = c.args.offset in
    sym (part_after o parts
    ∙ ap (λ k. begins_by o (slice_get parts k)) (sym c.count_ending_by.ensures)
    ∙ ap (begins_by o) (slice_get_past parts c.count_ending_by.result c.in-None.ensures.lookup.3))
