use Rattle.std.proofs.Common.{◌≡◌, sym, ap, ◌∙◌}
use Rattle.addr2line_names.specs.declared.file.DebugFile.{DebugFile}
use Rattle.addr2line_names.specs.declared.file.DebugFile.TheVariants.{Primary, Supplementary}
use Rattle.addr2line_names.specs.EntryReferences.{KnownUnits, HoldingUnit, units_in}
use Rattle.addr2line_names.proofs.SectionEntries.{same_entry}
use Rattle.addr2line_names.proofs.names.KnownUnits.entry_in_file.Goals as goal

pub returns-in-Primary : goal.returns-in-Primary
returns-in-Primary g c =
    let known = c.args.self.now in
    let here : c.holder.inside.file ≡ c.args.holder.now.file = ap (λ (h : HoldingUnit). h.file) c.holder.view_is in
    let is : c.args.holder.now.file ≡ Primary = sym here ∙ c.in-Primary.is in
    same_entry c.entry_at.result _ _ c.args.holder.now.file _ c.args.holder.now.unit.file _
    (units_in c.args.holder.now.file known) here
    c.dwarf-dwarf.ensures
    (ap (λ (k : KnownUnits). k.units) c.self.view_is ∙ sym (ap (λ (f : DebugFile). units_in f known) is))
    c.entry_at.ensures

pub returns-in-Supplementary : goal.returns-in-Supplementary
returns-in-Supplementary g c =
    let known = c.args.self.now in
    let here : c.holder.inside.file ≡ c.args.holder.now.file = ap (λ (h : HoldingUnit). h.file) c.holder.view_is in
    let is : c.args.holder.now.file ≡ Supplementary = sym here ∙ c.in-Supplementary.is in
    same_entry c.entry_at-in-Supplementary.result _ _ c.args.holder.now.file _ c.args.holder.now.unit.file _
    (units_in c.args.holder.now.file known) here
    c.dwarf-dwarf.ensures
    (ap (λ (k : KnownUnits). k.supplement_units) c.self.view_is ∙ sym (ap (λ (f : DebugFile). units_in f known) is))
    c.entry_at-in-Supplementary.ensures
