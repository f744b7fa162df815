use Rattle.std.proofs.Common.{◌≡◌, ◌∙◌, ap, length, arith}
use Rattle.std.proofs.lemmas.List.{length-map}
use Rattle.addr2line_ranges.specs.Functions.{function_number, function_ranges}
use Rattle.addr2line_ranges.specs.Searches.{digit_count}
use Rattle.addr2line_functions.specs.CountedFunctions.{no_depth}
use Rattle.addr2line_functions.specs.RangesByNumber.{numbered_range, number_at}
use Rattle.addr2line_functions.proofs.RangeNumbers.{number_at-function}
use Rattle.addr2line_functions.proofs.functions.Functions.find_address.Goals as goal

pub returns-clause-number : goal.returns-clause-number
returns-clause-number g c =
    let fs = c.self.inside.functions.items in
    c.number_at.ensures.number ∙ ap (number_at 0 c.args.probe) c.self.invariant ∙ number_at-function c.args.probe fs
    ∙ ap (λ l. function_number l.functions c.args.probe) c.self.view_is

pub returns-clause-cost : goal.returns-clause-cost
returns-clause-cost g c =
    let fs = c.self.inside.functions.items in
    let many : length c.self.inside.ranges.entries ≡ length (function_ranges c.args.self.now.functions) =
    ap length c.self.invariant ∙ length-map (function_ranges fs) (numbered_range no_depth)
    ∙ ap (λ l. length (function_ranges l.functions)) c.self.view_is in
    let digits = ap digit_count many in
    (c.number_at.ensures.cost.0, omega arith)
