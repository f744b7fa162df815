-- A context from its parts.
use Rattle.std.proofs.Common.{List}
use Rattle.addr2line_unit.specs.DwarfFiles.{DwarfFile}
use Rattle.addr2line_unit.specs.UnitFacts.{UnitFacts}
use Rattle.addr2line_unit.specs.Contexts.{ContextUnit, FileContext}

abbrev pub context_of_units : DwarfFile → List ContextUnit → List UnitFacts → FileContext
context_of_units file units supplement_units =
    record { file = file; context = record { units = units; supplement_units = supplement_units } }
