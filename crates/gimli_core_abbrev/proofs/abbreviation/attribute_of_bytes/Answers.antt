use Rattle.std.proofs.Common.{ℕ, List, ◌∷◌, Some, subst, sym, arith}
use Rattle.gimli_core_abbrev.specs.Declarations.{Attribute}
use Rattle.gimli_core_abbrev.specs.TableParsing.{IsShortAttribute}
use Rattle.gimli_core_abbrev.proofs.ShortAttributes.{short_some}
use Rattle.gimli_core_abbrev.proofs.abbreviation.attribute_of_bytes.Goals as goal

pub returns : goal.returns
returns c =
    λ (rest : List ℕ).
    subst (λ (a : Attribute). IsShortAttribute (c.args.name ∷ c.args.form ∷ rest) (Some a)) (sym c.new.ensures)
    (short_some (c.args.name ∷ c.args.form ∷ rest) 0 0 c.from-name.result c.from-form.result (omega arith)
    c.from-name.ensures c.from-form.ensures (omega arith) (omega arith)
    (λ e. omega (arith, e)) (λ e. omega (arith, e))
    (λ e. omega (arith, e)))
