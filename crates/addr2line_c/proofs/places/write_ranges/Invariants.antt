-- The stretches before `i` are written, and what was there from `i` on is as it was.
use Rattle.std.proofs.Common.{◌≡◌, ◌<◌, ◌≤◌, ℕ, length, slice_get, option_map}
use Rattle.addr2line_context.specs.OwnedPlaces.{stretch_of}
use Rattle.addr2line_c.specs.COutputs.{range_out, range_written}
use Rattle.addr2line_c.proofs.places.write_ranges.Given as goal

abbrev pub invariant-stretch : goal.invariant-stretch
invariant-stretch l =
    (length l.out ≡ length l.fn.out)
    × ((k : ℕ) → k < l.i → option_map range_written (slice_get l.out k)
    ≡ option_map (λ s. range_out (stretch_of s)) (slice_get l.fn.stretches k))
    × ((k : ℕ) → l.i ≤ k → slice_get l.out k ≡ slice_get l.fn.out k)
