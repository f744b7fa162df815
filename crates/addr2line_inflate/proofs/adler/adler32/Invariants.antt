use Rattle.std.proofs.Common.{◌≡◌, ◌%◌, ◌<◌, length}
use Rattle.addr2line_inflate.specs.Sums.{first_sum, second_sum}
use Rattle.addr2line_inflate.proofs.adler.adler32.Given as goal

-- the sums so far and the bytes that are left have the sums of the text
abbrev pub invariant-loop-rest : goal.invariant-loop-rest
invariant-loop-rest l = record {
  first : first_sum l.sums.first l.rest % 65521 ≡ first_sum 1 l.text % 65521;
  second : second_sum l.sums.first l.sums.second l.rest % 65521 ≡ second_sum 1 0 l.text % 65521;
  first_fits : l.sums.first < 65521;
  second_fits : l.sums.second < 65521;
}

abbrev pub decreases-loop-rest : goal.decreases-loop-rest
decreases-loop-rest l = length l.rest
