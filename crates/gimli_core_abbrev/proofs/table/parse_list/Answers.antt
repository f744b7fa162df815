use Rattle.std.proofs.Common.{rules, ◌≡◌, ◌+◌, suc, length, true, None, Result, Ok, List, ◌++◌, refl, ap, sym, ◌∙◌, arith, is_some}
use Rattle.std.specs.Ordering.{nat_cmp}
use Rattle.std.specs.BTreeMap.{get}
use Rattle.gimli_core_readers.specs.Error.{Error}
use Rattle.gimli_core_readers.specs.View.{View, bytes_left}
use Rattle.gimli_core_readers.specs.Repetition.{prepend, listing_in}
use Rattle.gimli_core_readers.proofs.RefusedCalls.{returns_refused}
use Rattle.gimli_core_readers.proofs.Listings.{item_smaller}
use Rattle.gimli_core_abbrev.specs.declared.abbreviation.AttributeSpecification.{AttributeSpecification}
use Rattle.gimli_core_abbrev.specs.declared.table.StoredDeclaration.{StoredDeclaration}
use Rattle.gimli_core_abbrev.specs.Declarations.{Declaration, declaration_at, by_code}
use Rattle.gimli_core_abbrev.specs.TableParsing.{declaration}
use Rattle.gimli_core_abbrev.specs.TableLayout.{stored}
use Rattle.gimli_core_abbrev.specs.AbbreviationViews.{added, added_view, Extends, with_attributes}
use Rattle.gimli_core_abbrev.specs.DeclarationFacts.{KnowsAttributes}
use Rattle.gimli_core_abbrev.proofs.DeclarationSizes.{declarations-shrink}
use Rattle.gimli_core_abbrev.proofs.DeclarationPlaces.{place_known}
use Rattle.gimli_core_abbrev.proofs.ParsedDeclarations.{parsed_item, of_parsed}
use Rattle.gimli_core_abbrev.proofs.StoredDeclarations.{Adds, view_in_order, view_other, stays_in_order, stays_elsewhere}
use Rattle.gimli_core_abbrev.proofs.TableCollection.{list_fault, list_end, list_repeated, listing_further, declaration-coded, found_by_code, none_there}
use Rattle.gimli_core_abbrev.proofs.table.parse_list.Goals as goal

abbrev ok_list : View → List Declaration → Result (List Declaration × View) Error
ok_list v ds = Ok (ds, v)

pub returns-in_err-parsed : goal.returns-in_err-parsed
returns-in_err-parsed g c =
    let l = c.reading in
    let was = l.invariant in
    returns_refused _ c.from_residual-in_err-parsed.result _ _ c.from_residual-in_err-parsed.ensures.1
    (λ ne. list_fault (stored l.in_order l.others.items l.attributes.items l.declarations.items) _ _ _ was.listing
    was.layout.once (c.in_err-parsed.ensures.value ne))

pub reading-smaller : goal.reading-smaller
reading-smaller g c =
    let attributes = added_view c.reading.attributes.items c.parse.new.attributes.items in
    item_smaller declarations-shrink c.reading.rest (with_attributes attributes c.in-Some.parsed) c.parse.new.input
    (parsed_item c.reading.rest c.parse.new.input attributes c.in-Some.is c.in_ok-parsed.ensures.value)

pub reading-smaller-then-code-place : goal.reading-smaller-then-code-place
reading-smaller-then-code-place g c =
    let attributes = added_view c.reading.attributes.items c.parse.new.attributes.items in
    item_smaller declarations-shrink c.reading.rest (with_attributes attributes c.in-Some.parsed) c.parse.new.input
    (parsed_item c.reading.rest c.parse.new.input attributes c.in-Some.is c.in_ok-parsed.ensures.value)

pub returns-then-has_place : goal.returns-then-has_place
returns-then-has_place g c =
    let l = c.reading in
    let was = l.invariant in
    let ds = stored l.in_order l.others.items l.attributes.items l.declarations.items in
    let attributes = added_view l.attributes.items c.parse.new.attributes.items in
    let a = with_attributes attributes c.in-Some.parsed in
    let item = parsed_item l.rest c.parse.new.input attributes c.in-Some.is c.in_ok-parsed.ensures.value in
    let there : is_some (declaration_at a.code (by_code ds)) ≡ true =
    ap is_some (found_by_code a.code ds was.layout.once)
    ∙ sym (place_known ds l.in_order (get nat_cmp l.places) was.layout a.code)
    ∙ sym c.has_place.ensures ∙ c.if-has_place.true in
    λ ne. list_repeated ds a _ _ c.parse.new.input was.listing was.layout.once item there

pub reading-preserved-then-code-place : goal.reading-preserved-then-code-place
reading-preserved-then-code-place g c =
    let l = c.reading in
    let was = l.invariant in
    let old = l.attributes.items in
    let new = c.parse.new.attributes.items in
    let ds = stored l.in_order l.others.items old l.declarations.items in
    let a = with_attributes (added_view old new) c.in-Some.parsed in
    let d : StoredDeclaration = record { end = c.len-end.result; head = c.in-Some.parsed.head } in
    let item = parsed_item l.rest c.parse.new.input (added_view old new) c.in-Some.is c.in_ok-parsed.ensures.value in
    let absent : declaration_at a.code ds ≡ None = none_there (declaration_at a.code ds)
    (sym (place_known ds l.in_order (get nat_cmp l.places) was.layout a.code)
    ∙ sym c.has_place.ensures ∙ c.if-has_place.false) in
    let all_is : new ≡ old ++ added old new =
    of_parsed (λ _. Extends old new) c.in-Some.is c.in_ok-parsed.ensures.extends in
    let end : d.end ≡ length new = omega (arith, c.len-end.ensures) in
    let adds : Adds a d (added old new) = (
      refl,
      refl,
      of_parsed (λ p. KnowsAttributes p.head (added_view old new)) c.in-Some.is c.in_ok-parsed.ensures.knows,
    ) in
    let full : l.in_order ≡ length l.declarations.items =
    omega (arith, c.if-in_order-place.true, c.len-place.ensures) in
    let code_is : a.code ≡ suc l.in_order = omega (arith, c.if-code-place.true, c.if-in_order-place.true) in
    let now = stays_in_order l.declarations.items c.push.new.self.items d l.in_order (l.in_order + 1) l.others.items old
    (added old new) new a (get nat_cmp l.places) (was.stored_so, was.layout) c.in_ok-push.ensures.items all_is end adds
    full (omega arith) code_is absent in
    let view = view_in_order l.declarations.items c.push.new.self.items d l.in_order (l.in_order + 1) l.others.items old
    (added old new) new a was.stored_so c.in_ok-push.ensures.items all_is end adds full (omega arith) code_is in
    record {
      stored_so = now.0;
      layout = now.1;
      listing =
          ap (λ (xs : List Declaration). prepend xs (listing_in bytes_left declaration c.parse.new.input)) view
          ∙ listing_further ds a _ _ c.parse.new.input was.listing item;
    }

pub reading-preserved : goal.reading-preserved
reading-preserved g c =
    let l = c.reading in
    let was = l.invariant in
    let old = l.attributes.items in
    let new = c.parse.new.attributes.items in
    let ds = stored l.in_order l.others.items old l.declarations.items in
    let a = with_attributes (added_view old new) c.in-Some.parsed in
    let d : StoredDeclaration = record { end = c.len-end.result; head = c.in-Some.parsed.head } in
    let item = parsed_item l.rest c.parse.new.input (added_view old new) c.in-Some.is c.in_ok-parsed.ensures.value in
    let absent : declaration_at a.code ds ≡ None = none_there (declaration_at a.code ds)
    (sym (place_known ds l.in_order (get nat_cmp l.places) was.layout a.code)
    ∙ sym c.has_place.ensures ∙ c.if-has_place.false) in
    let all_is : new ≡ old ++ added old new =
    of_parsed (λ _. Extends old new) c.in-Some.is c.in_ok-parsed.ensures.extends in
    let end : d.end ≡ length new = omega (arith, c.len-end.ensures) in
    let adds : Adds a d (added old new) = (
      refl,
      refl,
      of_parsed (λ p. KnowsAttributes p.head (added_view old new)) c.in-Some.is c.in_ok-parsed.ensures.knows,
    ) in
    let counts = declaration-coded l.rest a c.parse.new.input item in
    let others = c.push-else-in_order-place.new.self.items in
    let now = stays_elsewhere l.declarations.items c.push.new.self.items d l.in_order l.others.items others old
    (added old new) new a a.code c.len-place.result (get nat_cmp l.places) (get nat_cmp c.put_place.new.places)
    (was.stored_so, was.layout) c.in_ok-push.ensures.items all_is end adds c.in_ok-push-2.ensures.items counts absent
    refl (omega (arith, c.len-place.ensures)) c.in_ok-put_place.ensures.ok in
    let view = view_other l.declarations.items c.push.new.self.items d l.in_order l.others.items others old
    (added old new) new a was.stored_so c.in_ok-push.ensures.items all_is end adds c.in_ok-push-2.ensures.items in
    record {
      stored_so = now.0;
      layout = now.1;
      listing =
          ap (λ (xs : List Declaration). prepend xs (listing_in bytes_left declaration c.parse.new.input)) view
          ∙ listing_further ds a _ _ c.parse.new.input was.listing item;
    }

pub returns : goal.returns
returns g c =
    let l = c.reading in
    let was = l.invariant in
    let same : c.parse.new.attributes.items ≡ l.attributes.items = search rules in
    list_end (stored l.in_order l.others.items l.attributes.items l.declarations.items) _ _ _ was.listing
    was.layout.once (search rules)
    ∙ ap (λ (xs : List AttributeSpecification).
    ok_list c.parse.new.input (stored l.in_order l.others.items xs l.declarations.items)) (sym same)
    ∙ ap (ok_list c.parse.new.input) (sym c.shrunk.ensures)
