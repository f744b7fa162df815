-- The calls of the numbers so far, with those that are left, are the chain, the buffer has no less room
-- than at the start, and the looks so far leave enough for the rest.
use Rattle.std.proofs.Common.{◌≡◌, ◌+◌, ◌*◌, ◌≤◌, length, map, vec_capacity, Some}
use Rattle.addr2line_ranges.specs.InlinedCalls.{chain_at, chain_from}
use Rattle.addr2line_functions.specs.CountedFunctions.{call_probes, chain_probes}
use Rattle.addr2line_functions.proofs.ChainSteps.{chain_with}
use Rattle.addr2line_functions.proofs.calls.FunctionCalls.find_chain.Given as goal

abbrev pub invariant-loop-number : goal.invariant-loop-number
invariant-loop-number g l =
    let cs = l.self.function.calls in
    record {
      chain : chain_with cs l.probe l.numbers.items ≡ map Some (chain_at cs l.probe);
      room : vec_capacity l.fn.numbers ≤ vec_capacity l.numbers;
      counter : l.probes.name ≡ l.initial.probes.name;
      looks : l.probes.count + (length (chain_from cs l.probe (length l.numbers.items)) + 1) * call_probes cs
          ≤ l.initial.probes.count + chain_probes cs l.probe;
    }

abbrev pub decreases-loop-number : goal.decreases-loop-number
decreases-loop-number g l = length (chain_from l.self.function.calls l.probe (length l.numbers.items))
