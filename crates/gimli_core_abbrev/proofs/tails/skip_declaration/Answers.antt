use Rattle.gimli_core_abbrev.proofs.SkippedDeclarations.{skipped_some}
use Rattle.gimli_core_abbrev.proofs.tails.skip_declaration.Goals as goal

pub returns-in-Ok-Some : goal.returns-in-Ok-Some
returns-in-Ok-Some g c =
    let view = g.R.Reader.view in
    λ is.
    let found = skipped_some (view c.args.input.now) (view c.skip.new.input) _
    (rw c.in-Ok-Some.field-0-is at c.in-Ok-Some.ensures) in
    (found.0, found.1)
