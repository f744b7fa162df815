-- What is to come begins with what the next pair stands for.
use Rattle.std.proofs.Common.{rules, Ok, Err, Some, None, refl, sym, ◌∙◌}
use Rattle.gimli_units_headers.proofs.ArangeSetLemmas.{pair_next, pair_smaller, no_pair, first_is_refusal}
use Rattle.gimli_units_headers.specs.ArangeSets.{pairs_to_come}
use Rattle.gimli_units_headers.proofs.PairSkipLemmas.{pair_step, skips_none, skips_one, consumes_refusal, no_pairs, skips_all, takes_none, takes_one, takes_no_more}
use Rattle.gimli_units_headers.proofs.arange_entry.ArangeEntryIter.next.Goals as goal

pub returns-in_err-entry-clause-order : goal.returns-in_err-entry-clause-order
returns-in_err-entry-clause-order g c =
    first_is_refusal _ _ _ _ c.from_residual-in_err-entry.ensures.1
    (sym c.loop-raw.invariant.same_ranges
    ∙ pair_next c.loop-raw.self c.next_raw.new.self c.in-Some.raw (Err c.in_err-entry.field-0.0)
    c.in_ok-raw.ensures.address c.in_ok-raw.ensures.size (search rules) (search rules))

pub returns-in-Some-2-clause-order : goal.returns-in-Some-2-clause-order
returns-in-Some-2-clause-order g c =
    sym c.loop-raw.invariant.same_ranges
    ∙ pair_next c.loop-raw.self c.next_raw.new.self c.in-Some.raw (Ok (Some c.in-Some-2.entry))
    c.in_ok-raw.ensures.address c.in_ok-raw.ensures.size (search rules) (search rules)

pub loop-raw-smaller : goal.loop-raw-smaller
loop-raw-smaller g c =
    pair_smaller c.loop-raw.self.address_size c.loop-raw.self.rest c.in-Some.raw c.next_raw.new.self.rest
    c.in_ok-raw.ensures.address (search rules)

pub loop-raw-preserved : goal.loop-raw-preserved
loop-raw-preserved g c = record {
  same_ranges =
      sym
      (pair_next c.loop-raw.self c.next_raw.new.self c.in-Some.raw (Ok None) c.in_ok-raw.ensures.address
      c.in_ok-raw.ensures.size (search rules) (search rules)) ∙ c.loop-raw.invariant.same_ranges;
  same_size = c.in_ok-raw.ensures.size ∙ c.loop-raw.invariant.same_size;
  skips =
      let step = pair_step c.args.self.now c.loop-raw.self c.next_raw.new.self c.in-Some.raw (Ok None)
      c.loop-raw.invariant.skips c.loop-raw.invariant.same_size c.in_ok-raw.ensures.address c.in_ok-raw.ensures.size
      (search rules) (search rules) in
      skips_one _ _ c.in-Some.raw _ step.so_far step.stands_for;
  takes =
      takes_one c.args.self.now c.loop-raw.self c.next_raw.new.self c.in-Some.raw c.loop-raw.invariant.takes
      c.loop-raw.invariant.same_size c.in_ok-raw.ensures.address c.in_ok-raw.ensures.size (search rules);
}

pub loop-raw-init : goal.loop-raw-init
loop-raw-init g c =
    record {
      same_ranges = refl;
      same_size = refl;
      skips = skips_none c.args.self.now.address_size
          (pairs_to_come c.args.self.now);
      takes = takes_none c.args.self.now;
    }

pub returns-in_err-entry-clause-pairs : goal.returns-in_err-entry-clause-pairs
returns-in_err-entry-clause-pairs g c =
    let step = pair_step c.args.self.now c.loop-raw.self c.next_raw.new.self c.in-Some.raw
    (Err c.in_err-entry.field-0.0) c.loop-raw.invariant.skips c.loop-raw.invariant.same_size
    c.in_ok-raw.ensures.address c.in_ok-raw.ensures.size (search rules) (search rules) in
    consumes_refusal _ _ _ c.in-Some.raw _ _ step.so_far c.from_residual-in_err-entry.ensures.1 step.stands_for

pub returns-in-Some-2-clause-pairs : goal.returns-in-Some-2-clause-pairs
returns-in-Some-2-clause-pairs g c =
    let step = pair_step c.args.self.now c.loop-raw.self c.next_raw.new.self c.in-Some.raw (Ok (Some c.in-Some-2.entry))
    c.loop-raw.invariant.skips c.loop-raw.invariant.same_size c.in_ok-raw.ensures.address c.in_ok-raw.ensures.size
    (search rules) (search rules) in
    (c.in-Some.raw, step.so_far, step.stands_for)

pub returns-clause-pairs : goal.returns-clause-pairs
returns-clause-pairs g c =
    let ends = no_pairs c.loop-raw.self c.next_raw.new.self c.in_ok-raw.ensures.address c.in_ok-raw.ensures.size
    (search rules) in
    (skips_all _ _ _ c.loop-raw.invariant.skips ends.0, ends.1)

pub returns-clause-order : goal.returns-clause-order
returns-clause-order g c =
    let ends = no_pair c.loop-raw.self c.next_raw.new.self c.in_ok-raw.ensures.address c.in_ok-raw.ensures.size
    (search rules) in
    (sym c.loop-raw.invariant.same_ranges ∙ ends.0, ends.1)

pub returns-in_err-entry-clause-rest : goal.returns-in_err-entry-clause-rest
returns-in_err-entry-clause-rest g c =
    takes_one c.args.self.now c.loop-raw.self c.next_raw.new.self c.in-Some.raw c.loop-raw.invariant.takes
    c.loop-raw.invariant.same_size c.in_ok-raw.ensures.address c.in_ok-raw.ensures.size (search rules)

pub returns-in-Some-2-clause-rest : goal.returns-in-Some-2-clause-rest
returns-in-Some-2-clause-rest g c =
    takes_one c.args.self.now c.loop-raw.self c.next_raw.new.self c.in-Some.raw c.loop-raw.invariant.takes
    c.loop-raw.invariant.same_size c.in_ok-raw.ensures.address c.in_ok-raw.ensures.size (search rules)

pub returns-clause-rest : goal.returns-clause-rest
returns-clause-rest g c =
    takes_no_more c.args.self.now c.loop-raw.self c.next_raw.new.self c.loop-raw.invariant.takes
    c.in_ok-raw.ensures.address c.in_ok-raw.ensures.size (search rules)
