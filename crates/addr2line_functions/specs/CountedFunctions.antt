-- Functions and calls as lookups search them, and how many looks at entries that takes.
use Rattle.std.specs.Prelude.{ℕ, ◌+◌, ◌*◌, List, length}
use Rattle.addr2line_ranges.specs.Pairs.{pairs_from}
use Rattle.addr2line_ranges.specs.Functions.{Function, function_ranges}
use Rattle.addr2line_ranges.specs.InlinedCalls.{Call, FunctionCalls, ranges_of_call, chain_at}
use Rattle.addr2line_ranges.specs.Searches.{digit_count}

-- functions, and the name of the counter of their ranges
pub record CountedFunctions : Type 0 where
  pub functions : List Function
  pub counter : ℕ

-- a function with its calls, and the name of the counter of the calls' ranges
pub record CountedCalls : Type 0 where
  pub function : FunctionCalls
  pub counter : ℕ

-- every function and every call has a depth at which its ranges are searched; a function's is 0
abbrev pub no_depth : Function → ℕ
no_depth f = 0

abbrev pub depth_of_call : Call → ℕ
depth_of_call c = c.depth

-- one search among a number of ranges
abbrev pub search_probes : ℕ → ℕ
search_probes n = digit_count n + 1

-- that of the function of an address
abbrev pub function_probes : List Function → ℕ
function_probes fs = search_probes (length (function_ranges fs))

-- that of the call of one depth
abbrev pub call_probes : List Call → ℕ
call_probes cs = search_probes (length (pairs_from ranges_of_call 0 cs))

-- one search for each call that holds an address, and one more
abbrev pub chain_probes : List Call → ℕ → ℕ
chain_probes cs a = (length (chain_at cs a) + 1) * call_probes cs
