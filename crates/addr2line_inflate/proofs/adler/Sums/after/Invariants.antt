use Rattle.std.proofs.Common.{◌≡◌, ◌+◌, ◌*◌, ◌≤◌, take}
use Rattle.addr2line_inflate.specs.Sums.{first_sum, second_sum}
use Rattle.addr2line_inflate.proofs.adler.Sums.after.Given as goal

abbrev pub invariant-loop-byte : goal.invariant-loop-byte
invariant-loop-byte l = record {
  first : l.first ≡ first_sum l.fn.self.first (take l.byte-index l.part);
  second : l.second ≡ second_sum l.fn.self.first l.fn.self.second (take l.byte-index l.part);
  first_fits : l.first ≤ 65520 + 255 * l.byte-index;
  second_fits : l.second ≤ 65520 + 16777201 * l.byte-index;
}
