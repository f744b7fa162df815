use Rattle.std.proofs.Common.{◌≡◌, ℕ, ap, ◌∙◌, arith, rules}
use Rattle.addr2line_debug_files.specs.Crc32.{remainder, low_bits}
use Rattle.addr2line_debug_files.proofs.Crc32Lemmas.{remainder-byte}
use Rattle.addr2line_debug_files.proofs.checksum.after_byte.Goals as goal

pub returns : goal.returns
returns c =
    let is : c.from.result ≡ c.args.byte = search rules in
    remainder-byte c.args.before c.from.result (omega arith)
    ∙ ap (λ (b : ℕ). remainder c.args.before (low_bits 8 b)) is
