use Rattle.std.proofs.Common.{◌≡◌, ℕ, None, Ok, sym, subst}
use Rattle.gimli_core_readers.specs.Parsers.{value_of}
use Rattle.gimli_core_abbrev.specs.TableParsing.{table}
use Rattle.gimli_core_abbrev.specs.TableChecks.{find_declaration}
use Rattle.gimli_core_abbrev.proofs.FoundDeclarations.{find-0}
use Rattle.gimli_core_abbrev.proofs.checks.find.Goals as goal

pub returns-then-code-eq0-clause-value : goal.returns-then-code-eq0-clause-value
returns-then-code-eq0-clause-value g c =
    let v = g.R.Reader.view c.args.reader.now in
    subst (λ (code : ℕ). find_declaration code (value_of (table v)) ≡ Ok None) (sym c.if-code-eq0.true)
    (find-0 v _ c.in_ok-check.ensures.value)
