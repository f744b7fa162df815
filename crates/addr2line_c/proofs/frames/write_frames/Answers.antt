use Rattle.std.proofs.Common.{◌+◌, Some, ap, sym, ◌∙◌, slice_get, option_map, arith}
use Rattle.std.proofs.lemmas.Option.{slice_get-get_or}
use Rattle.addr2line_c.specs.Copies.{frame_of}
use Rattle.addr2line_c.specs.COutputs.{frame_out, frame_written}
use Rattle.addr2line_c.proofs.WrittenSlices.{write_next}
use Rattle.addr2line_c.proofs.frames.write_frames.Goals as goal

pub frame-preserved : goal.frame-preserved
frame-preserved c =
    let frames = c.args.frames.now in
    let number = c.args.first + c.frame.i in
    let here =
    slice_get-get_or frames number c.index-frames-first.result
    (omega (arith, c.frame-test.true, c.min-count.ensures, c.requires)) ∙ ap Some (sym c.index-frames-first.is) in
    write_next frame_written (λ k. option_map (λ f. frame_out (frame_of f)) (slice_get frames (c.args.first + k)))
    c.args.out.now c.frame.out c.frame.i c.of.result c.frame.invariant
    (omega (arith, c.frame-test.true, c.min-count.ensures, c.frame.invariant.0))
    (ap Some c.of.ensures ∙ sym (ap (option_map (λ f. frame_out (frame_of f))) here))
