use Rattle.std.proofs.Common.{◌<◌, length, refl, ap, option_map, arith}
use Rattle.gimli_dwarf.proofs.RefusedCalls.{returns_refused}
use Rattle.gimli_dwarf.specs.AbbreviationViews.{attribute_view}
use Rattle.addr2line_names.specs.EntryNamings.{nameless}
use Rattle.addr2line_names.specs.NamingView.{naming_view}
use Rattle.addr2line_names.proofs.NamingSteps.{passed-naming, passed-fault, naming_of_left-more, naming_of_left-fault, naming_of_left-linkage, naming_of_left-refused, naming_of_left-end}
use Rattle.addr2line_names.proofs.holder.HoldingUnit.naming_in.Goals as goal

pub returns-in_err-left : goal.returns-in_err-left
returns-in_err-left g c =
    returns_refused _ c.from_residual.result _ _ c.from_residual.ensures.1
    (λ ne. passed-fault g.R.Offset.ReaderOffset.limit c.args.self.now nameless _ _ _ _ (c.in_err-left.ensures.passes ne)
    refl)

pub loop-left-init : goal.loop-left-init
loop-left-init g c =
    passed-naming g.R.Offset.ReaderOffset.limit c.args.self.now nameless _ _ _ _ c.in_ok-left.ensures.passes

pub returns-in_err-attribute : goal.returns-in_err-attribute
returns-in_err-attribute g c =
    let some : 0 < length c.loop-left.left.now = omega (arith, c.in-len1-up.len_at_least) in
    returns_refused _ c.from_residual-in_err-attribute.result _ _ c.from_residual-in_err-attribute.ensures.1
    (λ ne. naming_of_left-refused g.R.Offset.ReaderOffset.limit c.args.self.now attribute_view
    (naming_view g.R.Reader.view g.R.Offset.ReaderOffset.count c.loop-left.found) c.loop-left.left.now _
    c.loop-left.entries _ _ some (c.in_err-attribute.ensures.value.0 ne) c.loop-left.invariant)

pub returns-in-Some : goal.returns-in-Some
returns-in-Some g c =
    let some : 0 < length c.loop-left.left.now = omega (arith, c.in-len1-up.len_at_least) in
    naming_of_left-linkage g.R.Offset.ReaderOffset.limit c.args.self.now attribute_view
    (naming_view g.R.Reader.view g.R.Offset.ReaderOffset.count c.loop-left.found) _ c.loop-left.left.now _
    c.loop-left.entries _ _ _ _ some c.in_ok-attribute.ensures.value c.in_ok-name.ensures
    (ap (option_map g.R.Reader.view) c.in-Some.is) c.loop-left.invariant

pub returns-in_err-left-2 : goal.returns-in_err-left-2
returns-in_err-left-2 g c =
    let some : 0 < length c.loop-left.left.now = omega (arith, c.in-len1-up.len_at_least) in
    returns_refused _ c.from_residual-in_err-left-2.result _ _ c.from_residual-in_err-left-2.ensures.1
    (λ ne. naming_of_left-fault g.R.Offset.ReaderOffset.limit c.args.self.now attribute_view
    (naming_view g.R.Reader.view g.R.Offset.ReaderOffset.count c.loop-left.found) c.loop-left.left.now _
    c.loop-left.entries _ _ _ _ _ some c.in_ok-attribute.ensures.value c.in_ok-name.ensures
    (ap (option_map g.R.Reader.view) c.in_default-2.is) (c.in_err-left-2.ensures.passes ne) c.loop-left.invariant)

pub loop-left-smaller : goal.loop-left-smaller
loop-left-smaller g c = omega (arith, c.in-len1-up.len_at_least, c.in_ok-left-2.ensures.fewer)

pub loop-left-preserved : goal.loop-left-preserved
loop-left-preserved g c =
    let some : 0 < length c.loop-left.left.now = omega (arith, c.in-len1-up.len_at_least) in
    naming_of_left-more g.R.Offset.ReaderOffset.limit c.args.self.now attribute_view
    (naming_view g.R.Reader.view g.R.Offset.ReaderOffset.count c.loop-left.found) _ c.loop-left.left.now _ _
    c.loop-left.entries _ _ _ _ _ some c.in_ok-attribute.ensures.value c.in_ok-name.ensures
    (ap (option_map g.R.Reader.view) c.in_default-2.is) c.in_ok-found.ensures c.in_ok-left-2.ensures.passes
    c.loop-left.invariant

pub returns : goal.returns
returns g c =
    naming_of_left-end g.R.Offset.ReaderOffset.limit c.args.self.now attribute_view
    (naming_view g.R.Reader.view g.R.Offset.ReaderOffset.count c.loop-left.found) c.loop-left.left.now
    c.loop-left.entries _ c.in_default.len_below c.loop-left.invariant
