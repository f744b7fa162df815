-- An entry that was found in a section is the one of equal files and units.
use Rattle.std.proofs.Common.{◌≡◌, ℕ, List, Result, subst}
use Rattle.gimli_dwarf.specs.Error.{Error}
use Rattle.gimli_dwarf.specs.Calls.{ReturnsOrNoMemory}
use Rattle.gimli_dwarf.specs.DwarfFiles.{DwarfFile}
use Rattle.gimli_dwarf.specs.UnitFacts.{UnitFacts}
use Rattle.addr2line_names.specs.declared.file.DebugFile.{DebugFile}
use Rattle.addr2line_names.specs.EntryReferences.{ReferredEntry, entry_among}

pub same_entry : (result : Result ReferredEntry Error) (offset : ℕ) (file f : DebugFile) (s t : DwarfFile)
    (us vs : List UnitFacts) → file ≡ f → s ≡ t → us ≡ vs → ReturnsOrNoMemory result (entry_among file s us offset)
    → ReturnsOrNoMemory result (entry_among f t vs offset)
same_entry result offset file f s t us vs same_file same_sections same_units h =
    subst (λ (x : DebugFile). ReturnsOrNoMemory result (entry_among x t vs offset)) same_file
    (subst (λ (x : DwarfFile). ReturnsOrNoMemory result (entry_among file x vs offset)) same_sections
    (subst (λ (x : List UnitFacts). ReturnsOrNoMemory result (entry_among file s x offset)) same_units h))
