-- The ranges of a unit's sequences by their starts, each with the greatest end up to it, by which a
-- walk between two addresses knows where to start and where to stop.
use Rattle.std.specs.Prelude.{ℕ, Bool, ◌==◌, ◌&&◌, ◌||◌, max, nat_lt, nat_le, List, [], ◌∷◌, map}
use Rattle.addr2line_spec.specs.Lines.{Sequence, range_of}
use Rattle.addr2line_spec.specs.Orders.{in_order}
use Rattle.addr2line_index.specs.declared.sequence_order.OrderedSequence.{OrderedSequence}

-- the range of a sequence, bounded by its own end
abbrev pub entry_of : Sequence → OrderedSequence
entry_of s = record { range = range_of s; greatest_end = s.end }

-- the first starts below the second, or with it and ends below it
abbrev pub comes_before : OrderedSequence → OrderedSequence → Bool
comes_before x y =
    nat_lt x.range.begin y.range.begin
    || (y.range.begin == x.range.begin && nat_lt x.range.end y.range.end)

-- each with the greatest end up to it, after others of which the greatest end is known
abbrev pub with_greatest_ends : ℕ → List OrderedSequence → List OrderedSequence
with_greatest_ends greatest [] = []
with_greatest_ends greatest (e ∷ es) =
    record { range = e.range; greatest_end = max greatest e.range.end }
    ∷ with_greatest_ends (max greatest e.range.end) es

-- the ranges of sequences by their starts and ends, each with the greatest end up to it
abbrev pub by_start : List Sequence → List OrderedSequence
by_start ss = with_greatest_ends 0 (in_order (λ x y. comes_before y x) (map entry_of ss))

-- up to a sequence, all end at or below an address
abbrev pub bounded_by : ℕ → OrderedSequence → Bool
bounded_by a e = nat_le e.greatest_end a
