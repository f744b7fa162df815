use Rattle.std.proofs.Common.{option_map, refl}
use Rattle.std.specs.String.{string_bytes}
use Rattle.addr2line_context.specs.BorrowedFrames.{frames_left}
use Rattle.linemap_lookup.proofs.FrameSteps.{at_first, at_step}
use Rattle.linemap_lookup.proofs.frames.Frames.push_outer.Goals as goal

pub frame-init : goal.frame-init
frame-init g c =
    at_first c.args.options.now (option_map (λ s. s.now) c.args.symbol) c.args.frame (frames_left c.args.self.now.left)
    (string_bytes c.args.text.now) (frames_left c.args.self.now.left) c.args.self.now.is_refused refl

pub frame-preserved-in_ok-push_outer_frame : goal.frame-preserved-in_ok-push_outer_frame
frame-preserved-in_ok-push_outer_frame g c =
    at_step _ _ _ _ _ c.frame.current c.next-current.result c.in-Some.frame _ _ _ _ _ _ _ c.frame.invariant c.in-Some.is
    c.next-current.ensures c.symbol_before.ensures c.in_ok-push_outer_frame.ensures

pub frame-preserved : goal.frame-preserved
frame-preserved g c =
    at_step _ _ _ _ _ c.frame.current c.next-current.result c.in-Some.frame _ _ _ _ _ _ _ c.frame.invariant c.in-Some.is
    c.next-current.ensures c.symbol_before.ensures c.in_ok-push_outer_frame.ensures
