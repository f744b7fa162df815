-- The remainder so far and the bytes that are left have the remainder of all.
use Rattle.std.proofs.Common.{◌≡◌, ◌-◌, ◌^◌, drop}
use Rattle.addr2line_debug_files.specs.Crc32.{remainder, coefficients}
use Rattle.addr2line_debug_files.proofs.checksum.crc32.Given as goal

abbrev pub invariant-loop-byte : goal.invariant-loop-byte
invariant-loop-byte l =
    remainder l.remainder (coefficients (drop l.byte-index l.bytes)) ≡ remainder (2 ^ 32 - 1) (coefficients l.bytes)
