-- How many calls a list has.
use Rattle.std.specs.Prelude.{ℕ, ◌+◌}
use Rattle.linemap_meaning.specs.TableParts.{Calls, no_calls, more_calls}

-- those of the list, and those inlined into them at any depth
abbrev pub call_count : Calls → ℕ
call_count no_calls = 0
call_count (more_calls site inner others) = 1 + call_count inner + call_count others
