use Rattle.addr2line_lookups.proofs.AddressSearches.{search_begins, search_calls, search_goes_on, search_ends, search_done}
use Rattle.addr2line_lookups.proofs.lookups.settle.Goals as goal

pub loop-unit-init : goal.loop-unit-init
loop-unit-init g c =
    let search = g.S.AddressSearch in
    search_begins search.is_something search.nothing search.ask search.Finds search.Refuses g.met.S.AddressSearch.ends
    c.args.supplement_units.now c.args.probe c.args.ranges.now c.args.units.now.items c.args.from.now c.requires.calls
    c.requires.passed c.requires.kept

pub settle_at-settled-requires : goal.settle_at-settled-requires
settle_at-settled-requires g c =
    let search = g.S.AddressSearch in
    search_calls search.is_something search.nothing search.ask search.Finds search.Refuses g.met.S.AddressSearch.ends
    c.args.supplement_units.now c.args.probe c.args.ranges.now c.args.units.now.items c.loop-unit.units.items
    c.loop-unit.from c.loop-unit.invariant

pub returns-then-not-found_nothing : goal.returns-then-not-found_nothing
returns-then-not-found_nothing g c =
    let search = g.S.AddressSearch in
    let settled = c.settle_at-settled.ensures in
    search_ends search.is_something search.nothing search.ask search.Finds search.Refuses g.met.S.AddressSearch.ends
    c.args.supplement_units.now c.args.probe c.args.ranges.now c.args.units.now.items c.loop-unit.units.items
    c.loop-unit.from c.loop-unit.invariant c.in-Some.unit c.in-Some.next c.in-Some.ensures
    c.settle_at-settled.new.units.items c.settle_at-settled.result settled.change settled.found settled.kept
    c.if-not-found_nothing.ensures

pub loop-unit-preserved : goal.loop-unit-preserved
loop-unit-preserved g c =
    let search = g.S.AddressSearch in
    let settled = c.settle_at-settled.ensures in
    search_goes_on search.is_something search.nothing search.ask search.Finds search.Refuses g.met.S.AddressSearch.ends
    c.args.supplement_units.now c.args.probe c.args.ranges.now c.args.units.now.items c.loop-unit.units.items
    c.loop-unit.from c.loop-unit.invariant c.in-Some.unit c.in-Some.next c.in-Some.ensures
    c.settle_at-settled.new.units.items c.settle_at-settled.result settled.change settled.found settled.kept
    c.if-not-found_nothing.ensures

pub loop-unit-preserved-else-not-found_nothing-2 : goal.loop-unit-preserved-else-not-found_nothing-2
loop-unit-preserved-else-not-found_nothing-2 g c =
    let search = g.S.AddressSearch in
    let settled = c.settle_at-settled.ensures in
    search_goes_on search.is_something search.nothing search.ask search.Finds search.Refuses g.met.S.AddressSearch.ends
    c.args.supplement_units.now c.args.probe c.args.ranges.now c.args.units.now.items c.loop-unit.units.items
    c.loop-unit.from c.loop-unit.invariant c.in-Some.unit c.in-Some.next c.in-Some.ensures
    c.settle_at-settled.new.units.items c.settle_at-settled.result settled.change settled.found settled.kept
    c.if-not-found_nothing.ensures

pub returns : goal.returns
returns g c =
    let search = g.S.AddressSearch in
    search_done search.is_something search.nothing search.ask search.Finds search.Refuses g.met.S.AddressSearch.ends
    c.args.supplement_units.now c.args.probe c.args.ranges.now c.args.units.now.items c.loop-unit.units.items
    c.loop-unit.from c.loop-unit.invariant c.in_default.ensures
