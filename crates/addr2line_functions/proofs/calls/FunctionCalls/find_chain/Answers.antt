use Rattle.std.proofs.Common.{◌≡◌, ◌+◌, ◌*◌, length, vec_len, Some, None, Ok, refl, sym, ap, ◌∙◌, arith}
use Rattle.addr2line_ranges.specs.InlinedCalls.{ranges_of_call, chain_from}
use Rattle.addr2line_functions.specs.CountedFunctions.{CountedCalls, depth_of_call, search_probes, call_probes}
use Rattle.addr2line_functions.specs.RangesByNumber.{numbered_ranges, number_at}
use Rattle.addr2line_functions.proofs.ChainSteps.{found_at, chain_with, chain_more, chain_whole, left_more, chain_length}
use Rattle.addr2line_functions.proofs.ChainProbes.{probes_of_search, looks-next}
use Rattle.addr2line_functions.proofs.calls.FunctionCalls.find_chain.Goals as goal

pub loop-number-init : goal.loop-number-init
loop-number-init g c =
    let cs = c.args.self.now.function.calls in
    let a = c.args.probe in
    let all = ap (λ ns. (length (chain_from cs a (length ns)) + 1) * call_probes cs) c.clear.ensures.items in
    let room = c.clear.ensures.capacity in
    record {
      chain = ap (chain_with cs a) c.clear.ensures.items;
      room = omega (arith, room);
      counter = refl;
      looks = omega (arith, all);
    }

pub loop-number-preserved : goal.loop-number-preserved
loop-number-preserved g c =
    let cs = c.args.self.now.function.calls in
    let a = c.args.probe in
    let ns = c.loop-number.numbers.items in
    let n = c.in-Some.number in
    let entries : c.self.inside.ranges.entries ≡ numbered_ranges depth_of_call ranges_of_call cs =
    c.self.invariant
    ∙ ap (λ (f : CountedCalls). numbered_ranges depth_of_call ranges_of_call f.function.calls) c.self.view_is in
    let found : found_at cs a (length ns) ≡ Some n =
    sym (ap (number_at (length ns) a) entries)
    ∙ ap (λ d. number_at d a c.self.inside.ranges.entries) (sym (c.len.ensures ∙ c.loop-number.numbers.ok.0))
    ∙ sym c.in-Some.ensures.number in
    let pushed = c.in_ok-push.ensures.items in
    let i = c.loop-number.invariant in
    let grows = c.in_ok-push.ensures.capacity in
    let room = i.room in
    record {
      chain = ap (chain_with cs a) pushed ∙ chain_more cs a ns n found ∙ i.chain;
      room = omega (arith, grows, room);
      counter = c.in-Some.ensures.cost.0 ∙ i.counter;
      looks =
          looks-next c.loop-number.probes.count c.number_at.new.probes.count _ (call_probes cs)
          (search_probes (length c.self.inside.ranges.entries)) _ _
          (left_more cs a ns n found ∙ ap (λ l. length (chain_from cs a (length l)) + 1) (sym pushed))
          (probes_of_search cs c.self.inside.ranges.entries entries) c.in-Some.ensures.cost.1 i.looks;
    }

pub loop-number-smaller : goal.loop-number-smaller
loop-number-smaller g c =
    let cs = c.args.self.now.function.calls in
    let a = c.args.probe in
    let ns = c.loop-number.numbers.items in
    let n = c.in-Some.number in
    let entries : c.self.inside.ranges.entries ≡ numbered_ranges depth_of_call ranges_of_call cs =
    c.self.invariant
    ∙ ap (λ (f : CountedCalls). numbered_ranges depth_of_call ranges_of_call f.function.calls) c.self.view_is in
    let found : found_at cs a (length ns) ≡ Some n =
    sym (ap (number_at (length ns) a) entries)
    ∙ ap (λ d. number_at d a c.self.inside.ranges.entries) (sym (c.len.ensures ∙ c.loop-number.numbers.ok.0))
    ∙ sym c.in-Some.ensures.number in
    let less =
    left_more cs a ns n found ∙ ap (λ l. length (chain_from cs a (length l)) + 1) (sym c.in_ok-push.ensures.items) in
    omega (arith, less)

pub returns-clause-chain : goal.returns-clause-chain
returns-clause-chain g c =
    let cs = c.args.self.now.function.calls in
    let a = c.args.probe in
    let ns = c.loop-number.numbers.items in
    let entries : c.self.inside.ranges.entries ≡ numbered_ranges depth_of_call ranges_of_call cs =
    c.self.invariant
    ∙ ap (λ (f : CountedCalls). numbered_ranges depth_of_call ranges_of_call f.function.calls) c.self.view_is in
    let none : found_at cs a (length ns) ≡ None =
    sym (ap (number_at (length ns) a) entries)
    ∙ ap (λ d. number_at d a c.self.inside.ranges.entries) (sym (c.len.ensures ∙ c.loop-number.numbers.ok.0))
    ∙ sym c.in_default.ensures.number in
    ap Ok (sym (chain_whole cs a ns none ∙ c.loop-number.invariant.chain))

pub returns-in_err-push-clause-free : goal.returns-in_err-push-clause-free
returns-in_err-push-clause-free g c = λ enough.
    let cs = c.args.self.now.function.calls in
    let a = c.args.probe in
    let ns = c.loop-number.numbers.items in
    let n = c.in-Some.number in
    let entries : c.self.inside.ranges.entries ≡ numbered_ranges depth_of_call ranges_of_call cs =
    c.self.invariant
    ∙ ap (λ (f : CountedCalls). numbered_ranges depth_of_call ranges_of_call f.function.calls) c.self.view_is in
    let found : found_at cs a (length ns) ≡ Some n =
    sym (ap (number_at (length ns) a) entries)
    ∙ ap (λ d. number_at d a c.self.inside.ranges.entries) (sym (c.len.ensures ∙ c.loop-number.numbers.ok.0))
    ∙ sym c.in-Some.ensures.number in
    let more = left_more cs a ns n found in
    let count = chain_length cs a ns c.loop-number.invariant.chain in
    let len : vec_len c.loop-number.numbers ≡ length ns = c.loop-number.numbers.ok.0 in
    let full = c.in_err-push.ensures.full in
    let room = c.loop-number.invariant.room in
    absurd (omega (arith, more, count, len, full, room, enough))
