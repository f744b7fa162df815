use Rattle.std.proofs.Common.{◌≡◌, ℤ, ap, sym, ◌∙◌, rules, subst, w64, to_z, of_z}
use Rattle.std.proofs.lemmas.Int.{to_z-of_z}
use Rattle.gimli_units_forms.proofs.PlaceLemmas.{IsAfter-IsAfter}
use Rattle.gimli_units_entries.specs.OtherEntries.{DepthFits, is_tag_of, walk_at}
use Rattle.gimli_units_entries.proofs.OtherEntryLemmas.{is_step, is_stop, same_start, skip_others-left}
use Rattle.gimli_units_entries.proofs.others.others_after.Goals as goal

pub loop-depth-preserved : goal.loop-depth-preserved
loop-depth-preserved g c =
    let s = is_step (is_tag_of c.args.tags.now) (to_z w64 (of_z w64 c.args.bound)) c.args.encoding c.args.table.now
    (to_z w64 c.loop-depth.depth-bits) c.in-Some.depth_after c.loop-depth.place c.range_from-next.result
    c.skip_other.new.place c.loop-depth-test.true c.range_from-next.ensures c.loop-depth.invariant.fits
    c.in-Some.ensures in
    let after : to_z w64 (of_z w64 c.in-Some.depth_after) ≡ c.in-Some.depth_after =
    to_z-of_z w64 c.in-Some.depth_after (search rules) in
    record {
      same = λ end_offset.
          sym (same_start (is_tag_of c.args.tags.now) _ _ _ _ c.args.encoding c.args.table.now c.skip_other.new.place
          end_offset (ap (λ (x : ℤ). to_z w64 (of_z w64 c.args.bound)) after) after)
          ∙ sym (s.same end_offset) ∙ c.loop-depth.invariant.same end_offset;
      fits = let P : ℤ → Type 0 = λ d. DepthFits d c.skip_other.new.place in subst P (sym after) s.fits;
      in_reader = IsAfter-IsAfter _ _ _ c.loop-depth.invariant.in_reader s.leads;
    }

pub returns-in_default-clause-value : goal.returns-in_default-clause-value
returns-in_default-clause-value g c = λ end_offset.
    same_start (is_tag_of c.args.tags.now) c.args.bound (to_z w64 (of_z w64 c.args.bound)) c.args.depth
    (to_z w64 (of_z w64 c.args.depth)) c.args.encoding c.args.table.now (g.R.Reader.view c.args.input.now) end_offset
    (to_z-of_z w64 c.args.bound c.ranges.bound) (to_z-of_z w64 c.args.depth c.ranges.depth)
    ∙ sym (c.loop-depth.invariant.same end_offset)
    ∙ is_stop (is_tag_of c.args.tags.now) (to_z w64 (of_z w64 c.args.bound)) c.args.encoding c.args.table.now
    (to_z w64 c.loop-depth.depth-bits) c.loop-depth.place c.range_from-next.result c.range_from-next.ensures
    c.in_default.ensures end_offset
    ∙ ap (walk_at c.args.encoding c.args.table.now end_offset (to_z w64 c.loop-depth.depth-bits))
    (sym c.bytes_before.ensures.rest)

pub loop-depth-smaller : goal.loop-depth-smaller
loop-depth-smaller g c =
    let s = is_step (is_tag_of c.args.tags.now) (to_z w64 (of_z w64 c.args.bound)) c.args.encoding c.args.table.now
    (to_z w64 c.loop-depth.depth-bits) c.in-Some.depth_after c.loop-depth.place c.range_from-next.result
    c.skip_other.new.place c.loop-depth-test.true c.range_from-next.ensures c.loop-depth.invariant.fits
    c.in-Some.ensures in
    s.fewer

pub returns-clause-value : goal.returns-clause-value
returns-clause-value g c = λ end_offset.
    same_start (is_tag_of c.args.tags.now) c.args.bound (to_z w64 (of_z w64 c.args.bound)) c.args.depth
    (to_z w64 (of_z w64 c.args.depth)) c.args.encoding c.args.table.now (g.R.Reader.view c.args.input.now) end_offset
    (to_z-of_z w64 c.args.bound c.ranges.bound) (to_z-of_z w64 c.args.depth c.ranges.depth)
    ∙ sym (c.loop-depth.invariant.same end_offset)
    ∙ skip_others-left (is_tag_of c.args.tags.now) (to_z w64 (of_z w64 c.args.bound))
    (walk_at c.args.encoding c.args.table.now end_offset (to_z w64 c.loop-depth.depth-bits) c.loop-depth.place)
    c.loop-depth-test.false
    ∙ ap (walk_at c.args.encoding c.args.table.now end_offset (to_z w64 c.loop-depth.depth-bits))
    (sym c.bytes_before-2.ensures.rest)
