use Rattle.std.proofs.Common.{Some, ap, sym, ◌∙◌, slice_get, option_map, arith}
use Rattle.std.proofs.lemmas.Option.{slice_get-get_or}
use Rattle.addr2line_context.specs.OwnedPlaces.{stretch_of}
use Rattle.addr2line_c.specs.COutputs.{range_out, range_written}
use Rattle.addr2line_c.proofs.WrittenSlices.{write_next}
use Rattle.addr2line_c.proofs.places.write_ranges.Goals as goal

pub stretch-preserved : goal.stretch-preserved
stretch-preserved c =
    let stretches = c.args.stretches.now in
    let here =
    slice_get-get_or stretches c.stretch.i c.index-stretches-i.result
    (omega (arith, c.stretch-test.true)) ∙ ap Some (sym c.index-stretches-i.is) in
    write_next range_written (λ k. option_map (λ s. range_out (stretch_of s)) (slice_get stretches k))
    c.args.out.now c.stretch.out c.stretch.i c.of.result c.stretch.invariant
    (omega (arith, c.stretch-test.true, c.requires, c.stretch.invariant.0))
    (ap Some c.of.ensures ∙ sym (ap (option_map (λ s. range_out (stretch_of s))) here))
