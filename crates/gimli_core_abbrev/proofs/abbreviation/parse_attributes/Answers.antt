use Rattle.std.proofs.Common.{◌≡◌, ◌*◌, List, [], ◌∷◌, ◌++◌, Option, Some, None, option_map, Result, Ok, ap, sym, subst, ◌∙◌, append-nil, arith, length-drop}
use Rattle.std.specs.Option.{option_to_list}
use Rattle.gimli_core_readers.specs.Error.{Error}
use Rattle.gimli_core_readers.specs.View.{View, bytes_left}
use Rattle.gimli_core_readers.proofs.RefusedCalls.{returns_refused}
use Rattle.gimli_core_readers.proofs.Listings.{all_of_fault, all_of_end, item_smaller}
use Rattle.gimli_core_abbrev.specs.Declarations.{Attribute}
use Rattle.gimli_core_abbrev.specs.TableParsing.{attributes}
use Rattle.gimli_core_abbrev.specs.declared.abbreviation.AttributeSpecification.{AttributeSpecification}
use Rattle.gimli_core_abbrev.specs.AbbreviationViews.{attribute_view, added_view, Extends}
use Rattle.gimli_core_abbrev.proofs.DeclarationSizes.{attributes-shrink}
use Rattle.gimli_core_abbrev.specs.DeclarationFacts.{KnowsMore}
use Rattle.gimli_core_abbrev.proofs.AddedAttributes.{view_further, view_more, view_none}
use Rattle.gimli_core_abbrev.proofs.ReadFacts.{more_further, more_none}
use Rattle.gimli_core_abbrev.proofs.ShortRuns.{read_none, read_item, read_run}
use Rattle.gimli_core_abbrev.proofs.abbreviation.parse_attributes.Goals as goal

-- nothing was appended at the end
unchanged : (old now : List AttributeSpecification) (o : Option AttributeSpecification)
    → now ≡ old ++ option_to_list o → o ≡ None → now ≡ old
unchanged old now o e none =
    e ∙ ap (λ (o : Option AttributeSpecification). old ++ option_to_list o) none ∙ append-nil old

appended : (old now : List AttributeSpecification) (o : Option AttributeSpecification) (a : AttributeSpecification)
    → now ≡ old ++ option_to_list o → o ≡ Some a → now ≡ old ++ a ∷ []
appended old now o a e is = e ∙ ap (λ (o : Option AttributeSpecification). old ++ option_to_list o) is

abbrev ok_attribute : View → Option AttributeSpecification → Result (Option Attribute × View) Error
ok_attribute v o = Ok (option_map attribute_view o, v)

pub pushing-init : goal.pushing-init
pushing-init g c = record {
  read = read_none c.args.found.now.items c.args.input.now;
  knows = subst (KnowsMore c.args.facts.now c.args.facts.now) (sym (view_none c.args.found.now.items))
      (more_none c.args.facts.now c.requires);
}

pub pushing-preserved : goal.pushing-preserved
pushing-preserved g c =
    let old = c.args.found.now.items in
    let pushed = c.push_short_run-count.new.found.items in
    let new = c.push_next.new.found.items in
    let a = c.in-Some.attribute in
    let more = appended pushed new c.in_ok-attribute.field-0 a c.in_ok-attribute.ensures.items c.in-Some.is in
    let run = read_run old c.pushing.found.items pushed c.push_short_run-count.result c.slice.result.now
    c.args.input.now c.pushing.input c.advance.new.self c.pushing.invariant.read c.push_short_run-count.ensures.extends
    c.push_short_run-count.ensures.run c.slice.ensures c.advance.ensures in
    let known = more_further c.args.facts.now c.pushing.facts c.push_short_run-count.new.facts
    (added_view old c.pushing.found.items) (added_view c.pushing.found.items pushed) (added_view old pushed)
    c.pushing.invariant.knows c.push_short_run-count.ensures.knows
    (view_more old c.pushing.found.items pushed c.pushing.invariant.read.extends
    c.push_short_run-count.ensures.extends) in
    record {
      read = read_item old pushed new a c.args.input.now c.advance.new.self c.push_next.new.place run more
          (c.in_ok-attribute.ensures.value ∙ ap (ok_attribute c.push_next.new.place) c.in-Some.is);
      knows = more_further c.args.facts.now c.push_short_run-count.new.facts c.with.result (added_view old pushed)
          (attribute_view a ∷ []) (added_view old new) known
          (record { fits = c.with.ensures.fits; knows = c.with.ensures.knows })
          (view_further old pushed new a run.extends more);
    }

pub pushing-smaller : goal.pushing-smaller
pushing-smaller g c =
    let below = item_smaller attributes-shrink c.advance.new.self (attribute_view c.in-Some.attribute)
    c.push_next.new.place
    (c.in_ok-attribute.ensures.value ∙ ap (ok_attribute c.push_next.new.place) c.in-Some.is) in
    omega (
      arith,
      below,
      ap bytes_left c.advance.ensures,
      length-drop (2 * c.push_short_run-count.result) c.pushing.input.bytes,
    )

abbrev ok_attributes : View → List Attribute → Result (List Attribute × View) Error
ok_attributes v xs = Ok (xs, v)

pub returns-in-None-clause-value : goal.returns-in-None-clause-value
unfolding attributes
returns-in-None-clause-value g c =
    let old = c.args.found.now.items in
    let pushed = c.push_short_run-count.new.found.items in
    let run = read_run old c.pushing.found.items pushed c.push_short_run-count.result c.slice.result.now
    c.args.input.now c.pushing.input c.advance.new.self c.pushing.invariant.read c.push_short_run-count.ensures.extends
    c.push_short_run-count.ensures.run c.slice.ensures c.advance.ensures in
    let same = unchanged pushed c.push_next.new.found.items _ c.in_ok-attribute.ensures.items c.in-None.is in
    all_of_end attributes-shrink (added_view old pushed) _ _ _ run.listing
    (c.in_ok-attribute.ensures.value ∙ ap (ok_attribute c.push_next.new.place) c.in-None.is)
    ∙ ap (λ (xs : List AttributeSpecification). ok_attributes c.push_next.new.place (added_view old xs)) (sym same)

pub returns-in-None-clause-extends : goal.returns-in-None-clause-extends
returns-in-None-clause-extends g c =
    let old = c.args.found.now.items in
    let pushed = c.push_short_run-count.new.found.items in
    let run = read_run old c.pushing.found.items pushed c.push_short_run-count.result c.slice.result.now
    c.args.input.now c.pushing.input c.advance.new.self c.pushing.invariant.read c.push_short_run-count.ensures.extends
    c.push_short_run-count.ensures.run c.slice.ensures c.advance.ensures in
    let same = unchanged pushed c.push_next.new.found.items _ c.in_ok-attribute.ensures.items c.in-None.is in
    subst (Extends old) (sym same) run.extends

pub returns-in-None-clause-knows : goal.returns-in-None-clause-knows
returns-in-None-clause-knows g c =
    let old = c.args.found.now.items in
    let pushed = c.push_short_run-count.new.found.items in
    let known = more_further c.args.facts.now c.pushing.facts c.push_short_run-count.new.facts
    (added_view old c.pushing.found.items) (added_view c.pushing.found.items pushed) (added_view old pushed)
    c.pushing.invariant.knows c.push_short_run-count.ensures.knows
    (view_more old c.pushing.found.items pushed c.pushing.invariant.read.extends
    c.push_short_run-count.ensures.extends) in
    let same = unchanged pushed c.push_next.new.found.items _ c.in_ok-attribute.ensures.items c.in-None.is in
    subst (λ (xs : List AttributeSpecification). KnowsMore c.args.facts.now c.push_short_run-count.new.facts
    (added_view old xs)) (sym same) known

pub returns-in_err-attribute-clause-value : goal.returns-in_err-attribute-clause-value
unfolding attributes
returns-in_err-attribute-clause-value g c =
    let run = read_run c.args.found.now.items c.pushing.found.items c.push_short_run-count.new.found.items
    c.push_short_run-count.result c.slice.result.now c.args.input.now c.pushing.input c.advance.new.self
    c.pushing.invariant.read c.push_short_run-count.ensures.extends c.push_short_run-count.ensures.run c.slice.ensures
    c.advance.ensures in
    returns_refused _ c.from_residual.result _ _ c.from_residual.ensures.1
    (λ ne. all_of_fault attributes-shrink _ _ _ _ run.listing (c.in_err-attribute.ensures.value ne))
