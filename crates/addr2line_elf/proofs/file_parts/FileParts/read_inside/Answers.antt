use Rattle.std.proofs.Common.{◌≡◌, ◌≤◌, ℕ, List, length, false, ap, sym, subst, ◌∙◌, arith}
use Rattle.std.specs.List.{list_any}
use Rattle.addr2line_elf.specs.declared.file_parts.FilePart.{FilePart}
use Rattle.addr2line_elf.specs.FileParts.{end_of, file_bytes, overlaps, AreThere, HasParts, PartialFile}
use Rattle.addr2line_elf.proofs.FilePartLemmas.{has_push, length_push, are_there_push}
use Rattle.addr2line_elf.proofs.file_parts.FileParts.read_inside.Goals as goal

pub invariant_of-self-2 : goal.invariant_of-self-2
invariant_of-self-2 g c =
    let len = c.self.inside.len in
    let parts = c.self.inside.parts.items in
    let part : FilePart = record { offset = c.args.offset; bytes = c.in_ok-bytes.bytes } in
    let size = c.in_ok-bytes.ensures.size in
    let view = ap (λ (f : PartialFile). length f.bytes) c.self.view_is in
    let within : end_of part ≤ len = omega (arith, size, view, c.self.invariant.length_is, c.requires.inside) in
    let apart : list_any (overlaps c.args.offset (length c.in_ok-bytes.bytes)) parts ≡ false =
    ap (λ (n : ℕ). list_any (overlaps c.args.offset n) parts) size
    ∙ ap (list_any (overlaps c.args.offset c.args.size)) (sym c.deref.ensures.value)
    ∙ sym c.any_overlaps.ensures ∙ c.if-any_overlaps.false in
    subst (λ (ps : List FilePart). HasParts len ps (file_bytes len ps)) (sym c.in_ok-push.ensures.items)
    (has_push len parts part within apart c.self.invariant)

pub returns-clause-reads : goal.returns-clause-reads
returns-clause-reads g c =
    let len = c.self.inside.len in
    let parts = c.self.inside.parts.items in
    let part : FilePart = record { offset = c.args.offset; bytes = c.in_ok-bytes.bytes } in
    let size = c.in_ok-bytes.ensures.size in
    let view = ap (λ (f : PartialFile). length f.bytes) c.self.view_is in
    let within : end_of part ≤ len = omega (arith, size, view, c.self.invariant.length_is, c.requires.inside) in
    let same : len ≡ length c.args.self.now.bytes = omega (arith, view, c.self.invariant.length_is) in
    let items = c.in_ok-push.ensures.items in
    record {
      same_length =
          ap (λ (ps : List FilePart). length (file_bytes len ps)) items
          ∙ length_push len parts part within c.self.invariant ∙ same;
      same_file = c.read_at.ensures.same;
      there = λ bytes is all.
          subst (λ (ps : List FilePart). AreThere bytes ps) (sym items)
          (are_there_push bytes parts part
          (subst (λ (f : PartialFile). AreThere bytes f.parts) (sym c.self.view_is) all)
          (c.in_ok-bytes.ensures.bytes bytes is));
    }
