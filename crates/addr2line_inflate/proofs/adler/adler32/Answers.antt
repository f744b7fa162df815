use Rattle.std.proofs.Common.{◌%◌, ap, ◌∙◌, arith}
use Rattle.addr2line_inflate.specs.Sums.{first_sum, second_sum}
use Rattle.addr2line_inflate.proofs.SumParts.{first_sum-part, second_sum-part}
use Rattle.addr2line_inflate.proofs.adler.adler32.Goals as goal

pub loop-rest-preserved : goal.loop-rest-preserved
loop-rest-preserved c =
    let s = c.loop-rest.sums in
    let rest = c.loop-rest.rest.now in
    let a = c.after-sums.result in
    let front = c.split_at.ensures.front in
    let back = c.split_at.ensures.back in
    let first = c.after-sums.ensures.first ∙ ap (λ l. first_sum s.first l % 65521) front in
    let second = c.after-sums.ensures.second ∙ ap (λ l. second_sum s.first s.second l % 65521) front in
    record {
      first = ap (λ l. first_sum a.first l % 65521) back ∙ first_sum-part s.first a.first 65536 rest first
          ∙ c.loop-rest.invariant.first;
      second = ap (λ l. second_sum a.first a.second l % 65521) back
          ∙ second_sum-part s.first s.second a.first a.second 65536 rest first second ∙ c.loop-rest.invariant.second;
      first_fits = omega (arith, first);
      second_fits = omega (arith, second);
    }
