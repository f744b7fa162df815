use Rattle.std.proofs.Common.{ap, map}
use Rattle.std.proofs.lemmas.Result.{err_from_is_err_and}
use Rattle.gimli_dwarf_spec.specs.AttributeValues.{raw_attribute_of}
use Rattle.gimli_dwarf.proofs.RootValueSteps.{values_from, read-more, read-end}
use Rattle.gimli_dwarf.proofs.root.RootAttributes.read.Goals as goal

pub loop-attr-init : goal.loop-attr-init
loop-attr-init g c =
    let view = raw_attribute_of g.R.Reader.view g.R.Offset.ReaderOffset.count in
    ap (λ r. values_from r (map view c.args.attrs.now)) c.none-found.ensures

pub returns-in_err-keep : goal.returns-in_err-keep
returns-in_err-keep g c =
    let p = err_from_is_err_and c.from_residual.result c.from_residual.ensures.1 in
    rw (p.1, p.2) (λ m. cc (c.in_err-keep.ensures m))

pub loop-attr-preserved : goal.loop-attr-preserved
loop-attr-preserved g c =
    read-more (raw_attribute_of g.R.Reader.view g.R.Offset.ReaderOffset.count) c.args.attrs.now c.loop-attr.attr-index _
    c.attr-item.result _ _ c.loop-attr-test.true c.attr-item.is c.in_ok-keep.ensures c.loop-attr.invariant

pub returns : goal.returns
returns g c =
    read-end (raw_attribute_of g.R.Reader.view g.R.Offset.ReaderOffset.count) c.args.attrs.now c.loop-attr.attr-index
    _ _ c.loop-attr-test.false c.loop-attr.invariant
