use Rattle.std.proofs.Common.{◌∙◌, ap, sym, option_map, Result, Ok}
use Rattle.gimli_units_entries.proofs.RefusedCalls.{returns_refused}
use Rattle.gimli_units_entries.specs.Error.{Error}
use Rattle.gimli_units_entries.specs.EntryViews.{raw_attributes}
use Rattle.addr2line_ranges.specs.InlinedCalls.{call_file}
use Rattle.addr2line_functions.specs.EntryRowViews.{row_view}
use Rattle.addr2line_functions.specs.LastCallFacts.{LastCallFacts}
use Rattle.addr2line_functions.proofs.CallFactSteps.{facts_refused, ranges_refused, call_read}
use Rattle.addr2line_functions.proofs.walk.call_at.Goals as goal

-- facts that are read
abbrev ok_facts : LastCallFacts → Result LastCallFacts Error
ok_facts f = Ok f

pub returns-in_err-found : goal.returns-in_err-found
returns-in_err-found g c =
    let r = row_view g.R.Reader.view g.R.Offset.ReaderOffset.count c.args.row c.args.attributes.now in
    returns_refused _ _ _ _ c.from_residual.ensures.1
    (λ m. facts_refused c.args.unit.now (g.N.Names.naming c.args.names.now) c.args.depth r _
    (c.in_err-found.ensures m))

pub returns-in_err-ranges : goal.returns-in_err-ranges
returns-in_err-ranges g c =
    let r = row_view g.R.Reader.view g.R.Offset.ReaderOffset.count c.args.row c.args.attributes.now in
    returns_refused _ _ _ _ c.from_residual-in_err-ranges.ensures.1
    (λ m. ranges_refused c.args.unit.now (g.N.Names.naming c.args.names.now) c.args.depth r _ _
    (c.in_ok-found.ensures ∙ ap ok_facts (sym c.found.view_is)) (c.in_err-ranges.ensures m))

pub returns : goal.returns
returns g c =
    let attributes = raw_attributes g.R.Reader.view g.R.Offset.ReaderOffset.count c.args.attributes.now in
    let r = row_view g.R.Reader.view g.R.Offset.ReaderOffset.count c.args.row c.args.attributes.now in
    let version =
    c.version.ensures ∙ ap (λ f. f.header.encoding.version) c.unit-2.view_is
    ∙ ap (λ u. u.facts.header.encoding.version) c.unit.view_is in
    rw (c.of.ensures, c.of-2.ensures)
    (call_read c.args.unit.now (g.N.Names.naming c.args.names.now) c.args.depth r
    (record { name = option_map g.R.Reader.view c.found.inside.name; ranges = c.found.inside.ranges })
    c.in_ok-ranges.ranges.items c.call_file.result c.number_or_0.result c.number_or_0-2.result
    (c.in_ok-found.ensures ∙ ap ok_facts (sym c.found.view_is)) c.in_ok-ranges.ensures
    (c.call_file.ensures ∙ ap (λ v. call_file v attributes) version) c.number_or_0.ensures c.number_or_0-2.ensures)
