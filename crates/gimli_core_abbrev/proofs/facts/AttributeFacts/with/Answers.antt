use Rattle.std.proofs.Common.{◌≡◌, ◌-◌, ◌*◌, ◌||◌, refl, ap, sym, subst, ◌∙◌, arith}
use Rattle.std.specs.Prelude.{min}
use Rattle.gimli_core_abbrev.specs.AttributeViews.{attribute_view}
use Rattle.gimli_core_abbrev.specs.DeclarationFacts.{is_of_ranges, know_ranges, FitWithMore}
use Rattle.gimli_core_abbrev.specs.FormWidths.{fixed_width_of, sum_of_widths, widths_in}
use Rattle.gimli_core_abbrev.proofs.ReadFacts.{facts_further, fit_bytes, fits_further, ranges_further, widths_further}
use Rattle.gimli_core_abbrev.proofs.facts.AttributeFacts.with.Goals as goal

pub plus-requires-clause-room : goal.plus-requires-clause-room
plus-requires-clause-room c =
    let v = widths_in c.args.self.widths in
    let w = widths_in c.of_form-widths.result in
    let count = c.min-count.result in
    let is : count ≡ min c.args.self.room w.attributes =
    c.min-count.ensures ∙ ap (min c.args.self.room) c.attributes.ensures in
    fit_bytes (sum_of_widths v count w) (min (c.args.self.room - count) (count * 16))
    (fits_further v w c.args.self.room _ count c.requires c.of_form-widths.ensures.small is refl)

pub returns-clause-knows : goal.returns-clause-knows
returns-clause-knows c = λ before known.
    let f = c.args.self in
    let w = widths_in c.of_form-widths.result in
    let is : c.min-count.result ≡ min f.room w.attributes =
    c.min-count.ensures ∙ ap (min f.room) c.attributes.ensures in
    facts_further before (attribute_view c.args.attribute) f _ known
    (ranges_further f.ranges c.from.result c.is_of_ranges.result c.from.ensures
    ∙ ap (λ b. know_ranges f || b) (c.is_of_ranges.ensures ∙ ap is_of_ranges c.name.ensures))
    (λ widths. widths_further before (attribute_view c.args.attribute) (widths_in f.widths) w
    (widths_in c.plus.result) f.room c.min.result c.min-count.result widths (omega (arith, c.requires.3))
    (omega (arith, c.of_form-widths.ensures.small))
    (λ e. ap (fixed_width_of e) (sym c.form.ensures) ∙ c.of_form-widths.ensures.width e)
    is c.plus.ensures c.min.ensures)

pub returns-clause-fits : goal.returns-clause-fits
returns-clause-fits c =
    let f = c.args.self in
    let w = widths_in c.of_form-widths.result in
    let is : c.min-count.result ≡ min f.room w.attributes =
    c.min-count.ensures ∙ ap (min f.room) c.attributes.ensures in
    subst (FitWithMore c.min.result) (sym c.plus.ensures)
    (fits_further (widths_in f.widths) w f.room c.min.result c.min-count.result c.requires
    c.of_form-widths.ensures.small is c.min.ensures)
