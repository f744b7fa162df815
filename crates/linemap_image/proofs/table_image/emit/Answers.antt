use Rattle.std.proofs.Common.{ℕ, ◌<◌, ◌≤◌, ◌^◌, subst, sym, inl, inr, arith}
use Rattle.std.specs.Prelude.{◌↔◌}
use Rattle.std.proofs.lemmas.Bool.{cases_lt}
use Rattle.linemap_emit.specs.EmissionTargets.{encoding_of, is_big_of}
use Rattle.linemap_emit.specs.TableUnits.{units_of}
use Rattle.linemap_emit.specs.TableWeight.{table_weight}
use Rattle.linemap_image.proofs.LoadedImages.{IsOfVersion, file_answers}
use Rattle.linemap_image.proofs.ImageBounds.{of_version, image_fits}
use Rattle.linemap_image.proofs.table_image.emit.Goals as goal

-- what isn't refused as too large is light
light : {Refused : Type 0} (w : ℕ) → (Refused → ⊥) → Refused ↔ (2 ^ 31 ≤ w) → w < 2 ^ 31
light w never iff = elim (cases_lt w (2 ^ 31)) [ inl h ↦ h | inr h ↦ absurd (never (iff.1 h)) ]

pub image_of-requires : goal.image_of-requires
image_of-requires c =
    let e = encoding_of c.args.target in
    let w : table_weight (units_of c.args.table.now) < 2 ^ 31 =
    light _ (λ refused. cc) c.in_ok-sections.ensures.too_large in
    let small = c.in_ok-sections.ensures.small in
    image_fits e c.in_ok-sections.sections (omega arith)

pub returns-in-Ok-clause-answers : goal.returns-in-Ok-clause-answers
returns-in-Ok-clause-answers c =
    let e = encoding_of c.args.target in
    let is_big = is_big_of c.args.target in
    let us = units_of c.args.table.now in
    let bytes = c.in_ok-sections.sections in
    file_answers e is_big bytes c.in-Ok.image.items us
    (subst (IsOfVersion e.version) (sym c.in_ok-sections.ensures.sections) (of_version e is_big us))
    c.in-Ok.ensures.again c.in_ok-sections.ensures.answers
