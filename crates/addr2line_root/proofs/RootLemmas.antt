-- A unit of a context from what its root says.
use Rattle.std.proofs.Common.{◌≡◌, Bool, false, Result, Ok, sym, ap, ◌∙◌, if◌then◌else◌}
use Rattle.addr2line_ranges.specs.Error.{Error}
use Rattle.addr2line_ranges.specs.EntryRows.{Row}
use Rattle.addr2line_ranges.specs.UnitFacts.{UnitInFile}
use Rattle.addr2line_ranges.specs.Lines.{Lines}
use Rattle.addr2line_ranges.specs.UnitRanges.{is_partial}
use Rattle.addr2line_ranges.specs.Contexts.{unit_of_root, partial_unit, unit_of_entry}

-- one that isn't partial
pub not_partial : (u : UnitInFile) (lines : Result Lines Error) (r : Row) (b : Bool)
    → b ≡ is_partial u.facts.header.kind r.tag → b ≡ false
    → unit_of_root u lines r.attributes ≡ unit_of_entry u lines r
not_partial u lines r b is not =
    ap (λ c. if c then Ok (partial_unit u.facts lines) else unit_of_root u lines r.attributes) (sym not ∙ is)
