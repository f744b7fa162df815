use Rattle.std.proofs.Common.{rules, ◌≡◌, ◌∙◌, ◌-◌, ℕ, List, Option, Some, None, option_map, drop, sym, ap, arith}
use Rattle.std.specs.Ordering.{nat_cmp}
use Rattle.std.specs.BTreeMap.{get}
use Rattle.std.specs.List.{slice_get}
use Rattle.gimli_core_abbrev.specs.Declarations.{Declaration, declaration_at, by_code}
use Rattle.gimli_core_abbrev.specs.TableLayout.{stored}
use Rattle.gimli_core_abbrev.proofs.DeclarationPlaces.{code_in_order, code_elsewhere, found_first, found_at, not_from, not_there, found_before}
use Rattle.gimli_core_abbrev.proofs.table.DeclarationList.get.Goals as goal

abbrev code_in : Option Declaration → Option ℕ
code_in o = option_map (λ (d : Declaration). d.code) o

abbrev found_in : ℕ → ℕ → List Declaration → Option Declaration
found_in from code ds = declaration_at code (by_code (drop from ds))

pub at-requires : goal.at-requires
at-requires c =
    let i = c.self.inside in
    let there : get nat_cmp i.places c.args.code ≡ Some c.in-Some.place.now = search rules in
    record {
      code = omega (arith, c.if-self-code.true);
      there =
          ap (λ (ds : List Declaration). code_in (slice_get ds c.in-Some.place.now)) (sym c.self.view_is)
          ∙ code_elsewhere (stored i.in_order i.others.items i.attributes.items i.declarations.items) i.in_order
          (get nat_cmp i.places) c.self.invariant.1 c.args.code c.in-Some.place.now
          (omega (arith, c.if-self-code.true)) there;
    }

pub returns-then-from-place : goal.returns-then-from-place
returns-then-from-place c =
    let i = c.self.inside in
    let there : get nat_cmp i.places c.args.code ≡ Some c.in-Some.place.now = search rules in
    found_at (stored i.in_order i.others.items i.attributes.items i.declarations.items) i.in_order
    (get nat_cmp i.places) c.self.invariant.1 c.args.from c.args.code c.in-Some.place.now c.at.result
    (omega (arith, c.if-self-code.true)) there (omega (arith, c.if-from-place.true))
    (ap (λ (ds : List Declaration). slice_get ds c.in-Some.place.now) c.self.view_is ∙ c.at.ensures)
    ∙ ap (found_in c.args.from c.args.code) c.self.view_is

pub returns-else-from-place : goal.returns-else-from-place
returns-else-from-place c =
    let i = c.self.inside in
    let there : get nat_cmp i.places c.args.code ≡ Some c.in-Some.place.now = search rules in
    not_from (stored i.in_order i.others.items i.attributes.items i.declarations.items) i.in_order
    (get nat_cmp i.places) c.self.invariant.1 c.args.from c.args.code c.in-Some.place.now
    (omega (arith, c.if-self-code.true)) there (omega (arith, c.if-from-place.false))
    ∙ ap (found_in c.args.from c.args.code) c.self.view_is

pub returns-in-None : goal.returns-in-None
returns-in-None c =
    let i = c.self.inside in
    let there : get nat_cmp i.places c.args.code ≡ None = search rules in
    not_there (stored i.in_order i.others.items i.attributes.items i.declarations.items) i.in_order
    (get nat_cmp i.places) c.self.invariant.1 c.args.from c.args.code (omega (arith, c.if-self-code.true)) there
    ∙ ap (found_in c.args.from c.args.code) c.self.view_is

pub at-requires-then-from-code : goal.at-requires-then-from-code
at-requires-then-from-code c =
    let i = c.self.inside in
    record {
      code = omega (arith, c.if-from-code.true);
      there =
          ap (λ (ds : List Declaration). code_in (slice_get ds (c.args.code - 1))) (sym c.self.view_is)
          ∙ code_in_order (stored i.in_order i.others.items i.attributes.items i.declarations.items) i.in_order
          (get nat_cmp i.places) c.self.invariant.1 c.args.code (omega (arith, c.if-from-code.true))
          (omega (arith, c.if-self-code.false));
    }

pub returns-then-from-code : goal.returns-then-from-code
returns-then-from-code c =
    let i = c.self.inside in
    found_first (stored i.in_order i.others.items i.attributes.items i.declarations.items) i.in_order
    (get nat_cmp i.places) c.self.invariant.1 c.args.from c.args.code c.at-then-from-code.result
    (omega (arith, c.if-from-code.true)) (omega (arith, c.if-self-code.false))
    (ap (λ (ds : List Declaration). slice_get ds (c.args.code - 1)) c.self.view_is ∙ c.at-then-from-code.ensures)
    ∙ ap (found_in c.args.from c.args.code) c.self.view_is

pub returns-else-from-code : goal.returns-else-from-code
returns-else-from-code c =
    let i = c.self.inside in
    found_before (stored i.in_order i.others.items i.attributes.items i.declarations.items) i.in_order
    (get nat_cmp i.places) c.self.invariant.1 c.args.from c.args.code (omega (arith, c.if-from-code.false))
    (omega (arith, c.if-self-code.false))
    ∙ ap (found_in c.args.from c.args.code) c.self.view_is
