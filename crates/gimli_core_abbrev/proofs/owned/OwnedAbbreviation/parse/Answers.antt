use Rattle.std.proofs.Common.{rules, map}
use Rattle.gimli_core_abbrev.specs.AbbreviationViews.{attribute_view, added_view}
use Rattle.gimli_core_abbrev.specs.DeclarationFacts.{KnowsAttributes}
use Rattle.gimli_core_abbrev.proofs.ParsedDeclarations.{parsed-coded}
use Rattle.gimli_core_abbrev.proofs.owned.OwnedAbbreviation.parse.Goals as goal

pub invariant_of-result : goal.invariant_of-result
invariant_of-result g c =
    let attributes = added_view c.new-attributes.result.items c.parse.new.attributes.items in
    let knows : KnowsAttributes c.in-Some.parsed.head (map attribute_view c.parse.new.attributes.items) =
    search rules in
    (parsed-coded c.args.input.now c.parse.new.input attributes c.in-Some.is c.in_ok-parsed.ensures.value, knows)
