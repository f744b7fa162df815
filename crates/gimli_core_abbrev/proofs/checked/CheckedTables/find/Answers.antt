use Rattle.std.proofs.Common.{Option, Some, None, Result, Ok, ap, sym, subst}
use Rattle.gimli_core_readers.specs.Error.{Error}
use Rattle.gimli_core_readers.specs.Calls.{ReturnsOrNoMemory}
use Rattle.gimli_core_abbrev.specs.Declarations.{Declaration}
use Rattle.gimli_core_abbrev.proofs.KeptDeclarations.{kept_found, returned_own}
use Rattle.gimli_core_abbrev.proofs.checked.CheckedTables.find.Goals as goal

abbrev answer : Option Declaration → Result (Option Declaration) Error
answer o = Ok o

pub returns-in-Some-clause-value : goal.returns-in-Some-clause-value
returns-in-Some-clause-value g c =
    subst (ReturnsOrNoMemory c.copy_with_code.result)
    (sym (ap answer (kept_found c.args.self.now c.self.inside.kept.entries c.into_u64.result
    (g.O.ReaderOffset.count c.args.offset.0) c.args.code (Some c.in-Some.kept.now) c.self.view_is
    c.into_u64.ensures.value c.in-Some.ensures.value)))
    c.copy_with_code.ensures

pub returns-in-Some-clause-own : goal.returns-in-Some-clause-own
returns-in-Some-clause-own g c =
    λ section own.
    returned_own section c.args.self.now (g.O.ReaderOffset.count c.args.offset.0) c.args.code c.copy_with_code.result
    (returns-in-Some-clause-value g c) own

pub returns-in-None-clause-value : goal.returns-in-None-clause-value
returns-in-None-clause-value g c =
    ap answer (kept_found c.args.self.now c.self.inside.kept.entries c.into_u64.result
    (g.O.ReaderOffset.count c.args.offset.0) c.args.code None c.self.view_is
    c.into_u64.ensures.value c.in-None.ensures.value)
