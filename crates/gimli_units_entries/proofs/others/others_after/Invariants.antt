use Rattle.std.proofs.Common.{◌≡◌, ℕ}
use Rattle.gimli_core_base.specs.View.{bytes_left}
use Rattle.gimli_units_forms.specs.Places.{IsAfter}
use Rattle.gimli_units_entries.specs.OtherEntries.{DepthFits, is_tag_of, skip_others, walk_at}
use Rattle.gimli_units_entries.proofs.others.others_after.Given as goal

-- what is skipped from here on is what was to be skipped
abbrev pub invariant-loop-depth : goal.invariant-loop-depth
invariant-loop-depth g l = record {
  same : (end_offset : ℕ) → skip_others (is_tag_of l.tags) l.bound
      (walk_at l.encoding l.table end_offset l.depth l.place)
      ≡ skip_others (is_tag_of l.tags) l.bound
      (walk_at l.encoding l.table end_offset l.fn.depth (g.R.Reader.view l.input));
  fits : DepthFits l.depth l.place;
  in_reader : IsAfter (g.R.Reader.view l.input) l.place;
}

abbrev pub decreases-loop-depth : goal.decreases-loop-depth
decreases-loop-depth g l = bytes_left l.place
