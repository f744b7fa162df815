use Rattle.std.proofs.Common.{◌≡◌, ℕ, ◌-◌, ◌≤◌, List, length, map, Some}
use Rattle.json.specs.Json.{items, value, parse_map}
use Rattle.serde_json.specs.Data.{Data}
use Rattle.serde_json.specs.Read.{of_items, converted}
use Rattle.serde_json.specs.View.{items_of}
use Rattle.linemap_table.specs.JsonShapes.{each}
use Rattle.linemap_table.proofs.JsonReading.{items_before}
use Rattle.linemap_table.proofs.stream.read_list.Given as goal

abbrev pub invariant-items : goal.invariant-items
invariant-items g l =
    (n : ℕ) × (ds : List Data) × (length l.reader ≤ n)
    × (converted of_items (items (value (l.depth - 1)) (length l.initial.reader) l.initial.reader)
    ≡ parse_map (items_before ds) (converted of_items (items (value (l.depth - 1)) n l.reader)))
    × (each g.E.Element.shape (items_of ds) ≡ Some (map g.E.Element.part l.parts.items))
    × (length l.reader ≤ length l.initial.reader)

abbrev pub decreases-items : goal.decreases-items
decreases-items g l = length l.reader
