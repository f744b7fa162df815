use Rattle.gimli_dwarf.proofs.RootDeclarations.{root_kept}
use Rattle.gimli_dwarf.proofs.dwarf.Dwarf.checked_declarations.Goals as goal

pub returns-in_ok-of_one-in-Some-clause-value : goal.returns-in_ok-of_one-in-Some-clause-value
returns-in_ok-of_one-in-Some-clause-value g c =
    rw (← c.self.view_is)
    (root_kept c.args.header.now c.self.inside.debug_abbrev
    (g.R.Offset.ReaderOffset.count c.debug_abbrev_offset-offset.result.0) c.root_code-code.result
    c.in_ok-declaration.field-0 c.in-Some.declaration c.in_ok-of_one-in-Some.field-0
    c.debug_abbrev_offset-offset.ensures c.root_code-code.ensures c.in-Some.is
    (c.in_ok-declaration.ensures.own c.self.inside.debug_abbrev c.self.invariant.1)
    c.in_ok-of_one-in-Some.ensures.ok)
