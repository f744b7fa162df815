-- The frames before `i` are written, and what was there from `i` on is as it was.
use Rattle.std.proofs.Common.{◌≡◌, ◌<◌, ◌≤◌, ◌+◌, ℕ, length, slice_get, option_map}
use Rattle.addr2line_c.specs.COutputs.{frame_out, frame_written}
use Rattle.addr2line_c.specs.Copies.{frame_of}
use Rattle.addr2line_c.proofs.frames.write_frames.Given as goal

abbrev pub invariant-frame : goal.invariant-frame
invariant-frame l =
    (length l.out ≡ length l.fn.out)
    × ((k : ℕ) → k < l.i → option_map frame_written (slice_get l.out k)
    ≡ option_map (λ f. frame_out (frame_of f)) (slice_get l.fn.frames (l.fn.first + k)))
    × ((k : ℕ) → l.i ≤ k → slice_get l.out k ≡ slice_get l.fn.out k)
