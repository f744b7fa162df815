use Rattle.std.proofs.Common.{ℕ, ◌+◌, ◌∙◌, drop, sym, ap, arith}
use Rattle.addr2line_debug_files.specs.Crc32.{remainder, coefficients}
use Rattle.addr2line_debug_files.proofs.Crc32Lemmas.{remainder-next}
use Rattle.addr2line_debug_files.proofs.checksum.crc32.Goals as goal

pub loop-byte-preserved : goal.loop-byte-preserved
loop-byte-preserved c =
    let next = remainder-next c.loop-byte.remainder c.args.bytes.now c.loop-byte.byte-index (omega arith) in
    ap (λ (r : ℕ). remainder r (coefficients (drop (c.loop-byte.byte-index + 1) c.args.bytes.now)))
    c.after_byte-remainder.ensures ∙ sym next ∙ c.loop-byte.invariant
