use Rattle.std.proofs.Common.{ap, length, arith}
use Rattle.gimli_core_abbrev.specs.TableLayout.{code_at}
use Rattle.gimli_core_abbrev.proofs.StoredDeclarations.{length-stored}
use Rattle.gimli_core_abbrev.proofs.table.DeclarationList.len.Goals as goal

pub returns : goal.returns
returns c =
    let inside = c.self.inside in
    let count = length-stored (code_at inside.in_order inside.others.items) inside.attributes.items 0 0
    inside.declarations.items in
    let same = ap length c.self.view_is in
    omega (arith, c.len.ensures, count, same)
