use Rattle.std.proofs.Common.{◌≡◌, map, sym, subst}
use Rattle.addr2line_unit.specs.FirstAnswers.{Lookup}
use Rattle.addr2line_unit.specs.ResolvedUnits.{value_of_unit}
use Rattle.addr2line_lookups.specs.KeptCalls.{known_among}
use Rattle.addr2line_lookups.specs.UnitLookups.{Settles}
use Rattle.addr2line_lookups.proofs.SettledUnits.{waits_here, decided_here, asked_decided}
use Rattle.addr2line_lookups.proofs.AskedFunctions.{waits_undecided}
use Rattle.addr2line_lookups.proofs.AddressSearches.{searches_none}
use Rattle.addr2line_lookups.proofs.lookups.settle_at.Goals as goal

pub find_frames_at-frames-requires-clause-decided : goal.find_frames_at-frames-requires-clause-decided
find_frames_at-frames-requires-clause-decided g c =
    decided_here c.args.units.now.items c.deref.result.now c.args.number c.deref.ensures.value c.if-waits_at.ensures

pub returns-then-waits_at : goal.returns-then-waits_at
returns-then-waits_at g c =
    let search = g.S.AddressSearch in
    let us = c.args.units.now.items in
    let known = known_among us c.args.supplement_units.now in
    record {
      change = searches_none known (λ n. n ≡ c.args.number) _ us c.requires;
      found =
          waits_here us c.deref.result.now c.args.number c.deref.ensures.value (search.ask known c.args.probe)
          search.nothing c.if-waits_at.ensures;
      kept = λ answered none.
          absurd (waits_undecided us c.deref.result.now c.args.number c.deref.ensures.value c.if-waits_at.ensures none);
    }

pub returns : goal.returns
returns g c =
    let search = g.S.AddressSearch in
    let us = c.args.units.now.items in
    let vs = map value_of_unit us in
    let known = known_among us c.args.supplement_units.now in
    let new = c.find_frames_at-frames.new.units.items in
    let frames = c.find_frames_at-frames.ensures in
    let decided = decided_here us c.deref.result.now c.args.number c.deref.ensures.value c.if-waits_at.ensures in
    let settles : Lookup search.Answer → Type 0 =
    λ m. Settles (search.Finds vs new) search.Refuses search.nothing m c.settle.result in
    record {
      change = frames.change;
      found =
          subst settles (sym (asked_decided (search.ask known c.args.probe) search.nothing vs c.args.number decided))
          (c.settle.ensures.settled known c.args.probe vs new frames.found frames.kept);
      kept = λ answered none. frames.kept (λ refused. answered (c.settle.ensures.memory refused));
    }
