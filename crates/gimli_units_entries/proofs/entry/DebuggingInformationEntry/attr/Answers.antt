use Rattle.std.proofs.Common.{rules, tests, eqb}
use Rattle.std.proofs.lemmas.Iterator.{YieldsList-from_slice}
use Rattle.std.proofs.lemmas.Iterator.Search.{find_from_yields_List}
use Rattle.gimli_units_forms.specs.AttributeValues.{raw_attribute_of}
use Rattle.gimli_units_entries.proofs.AttributeListLemmas.{find-lent}
use Rattle.gimli_units_entries.proofs.entry.DebuggingInformationEntry.attr.Goals as goal

pub returns : goal.returns
returns g c =
    let name = c.args.name.0 in
    let attributes = c.args.self.now.attrs.items in
    find-lent (λ a. eqb a.name name) (raw_attribute_of g.R.Reader.view g.R.Offset.ReaderOffset.count) attributes
    c.find.result
    (find_from_yields_List (λ a. eqb a.name.0 name) _ _ c.find.result c.find.ensures.ran
    (YieldsList-from_slice attributes cc) (λ x b q k. search (rules, tests)))
