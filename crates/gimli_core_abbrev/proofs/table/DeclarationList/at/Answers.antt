use Rattle.std.proofs.Common.{◌≡◌, ◌∙◌, ℕ, length, map, List, Option, Some, option_map, sym, ap, subst, arith}
use Rattle.std.specs.List.{slice_get, slice_range}
use Rattle.gimli_core_abbrev.specs.declared.abbreviation.AttributeSpecification.{AttributeSpecification}
use Rattle.gimli_core_abbrev.specs.declared.table.StoredDeclaration.{StoredDeclaration}
use Rattle.gimli_core_abbrev.specs.Declarations.{Declaration}
use Rattle.gimli_core_abbrev.specs.AbbreviationViews.{attribute_view, declaration_of_parts}
use Rattle.gimli_core_abbrev.specs.DeclarationFacts.{KnowsAttributes}
use Rattle.gimli_core_abbrev.specs.TableLayout.{begin_of}
use Rattle.gimli_core_abbrev.proofs.StoredDeclarations.{known_at, stored_is, stored_there, stored_within, within_list}
use Rattle.gimli_core_abbrev.proofs.table.DeclarationList.at.Goals as goal

abbrev code_in : Option Declaration → Option ℕ
code_in o = option_map (λ (d : Declaration). d.code) o

-- where the attributes begin, and which they are, by the lists that were borrowed
begin_in : {ds borrowed : List StoredDeclaration} (b place : ℕ) → borrowed ≡ ds → b ≡ begin_of 0 borrowed place
    → b ≡ begin_of 0 ds place
begin_in b place same is = is ∙ ap (λ (ds : List StoredDeclaration). begin_of 0 ds place) same

part_in : {list borrowed : List AttributeSpecification} (part : List AttributeSpecification) (b e : ℕ)
    → borrowed ≡ list → part ≡ slice_range borrowed b e → part ≡ slice_range list b e
part_in part b e same is = is ∙ ap (λ (list : List AttributeSpecification). slice_range list b e) same

pub index-stored-requires : goal.index-stored-requires
index-stored-requires c =
    let within = stored_within c.args.place c.args.code c.self.invariant.0 c.self.view_is c.requires.there in
    omega (arith, within)

pub begin_of-begin-requires : goal.begin_of-begin-requires
begin_of-begin-requires c =
    let within = stored_within c.args.place c.args.code c.self.invariant.0 c.self.view_is c.requires.there in
    let same = ap (λ (ds : List StoredDeclaration). length ds) c.as_slice-declarations.ensures.value in
    omega (arith, within, same)

pub between-attributes-requires : goal.between-attributes-requires
between-attributes-requires c =
    let d = c.index-stored.result.now in
    let there = stored_there c.args.place c.args.code d c.self.invariant.0 c.self.view_is c.requires.there
    c.index-stored.ensures in
    let begin = begin_in c.begin_of-begin.result c.args.place c.as_slice-declarations.ensures.value
    c.begin_of-begin.ensures in
    let inside = within_list c.args.place c.begin_of-begin.result d c.self.invariant.0 there begin in
    let same = ap (λ (list : List AttributeSpecification). length list) c.as_slice-all.ensures.value in
    record { begins = omega (arith, inside.0); ends = omega (arith, inside.1, same) }

pub of_parts-requires : goal.of_parts-requires
of_parts-requires c =
    let d = c.index-stored.result.now in
    let there = stored_there c.args.place c.args.code d c.self.invariant.0 c.self.view_is c.requires.there
    c.index-stored.ensures in
    let begin = begin_in c.begin_of-begin.result c.args.place c.as_slice-declarations.ensures.value
    c.begin_of-begin.ensures in
    let part = part_in c.between-attributes.result.now c.begin_of-begin.result d.end c.as_slice-all.ensures.value
    c.between-attributes.ensures in
    record {
      code = c.requires.code;
      knows =
          subst (λ (list : List AttributeSpecification). KnowsAttributes d.head (map attribute_view list)) (sym part)
          (known_at c.args.place c.begin_of-begin.result d c.self.invariant.0 there begin);
    }

abbrev some_declaration : Declaration → Option Declaration
some_declaration d = Some d

pub returns : goal.returns
returns c =
    let i = c.self.inside in
    let d = c.index-stored.result.now in
    let there = stored_there c.args.place c.args.code d c.self.invariant.0 c.self.view_is c.requires.there
    c.index-stored.ensures in
    let begin = begin_in c.begin_of-begin.result c.args.place c.as_slice-declarations.ensures.value
    c.begin_of-begin.ensures in
    let part = part_in c.between-attributes.result.now c.begin_of-begin.result d.end c.as_slice-all.ensures.value
    c.between-attributes.ensures in
    ap (λ (ds : List Declaration). slice_get ds c.args.place) (sym c.self.view_is)
    ∙ stored_is i.in_order i.others.items i.attributes.items i.declarations.items c.args.place c.args.code
    c.begin_of-begin.result d
    (ap (λ (ds : List Declaration). code_in (slice_get ds c.args.place)) c.self.view_is ∙ c.requires.there) there begin
    ∙ ap (λ (list : List AttributeSpecification).
    some_declaration (declaration_of_parts c.args.code d.head (map attribute_view list))) (sym part)
    ∙ ap some_declaration (sym c.of_parts.ensures)
