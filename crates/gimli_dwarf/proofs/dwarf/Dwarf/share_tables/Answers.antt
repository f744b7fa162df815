use Rattle.std.proofs.Common.{◌≡◌, Some, refl, ap}
use Rattle.gimli_dwarf_spec.specs.Tiling.{RemainingSection, whole_section}
use Rattle.gimli_dwarf.specs.declared.loading.TableRoots.{TableRoots}
use Rattle.gimli_dwarf.proofs.OffsetCallLemmas.{shares_repeated}
use Rattle.gimli_dwarf.proofs.dwarf.Dwarf.share_tables.Goals as goal

pub returns-clause-shared : goal.returns-clause-shared
returns-clause-shared g c =
    let units = λ (s : TableRoots g.row.R.Denot g.row.R-Endian.Denot g.row.R-Offset.Denot). s.units in
    let found = c.in_ok-self-inside.ensures.shared in
    let headers : c.in_ok-units.units ≡ whole_section c.args.self.now.file.sections.debug_info =
    cc c.in_ok-units.ensures.value in
    shares_repeated g.R.Offset.ReaderOffset.limit _ units _ c.populate_shared.new.self c.in_ok-self-inside.field-0
    found.0 found.1 _ found.2 (ap (λ (h : RemainingSection). Some h) (rw (← c.self.view_is) at headers)) refl found.3
    found.4 found.5 found.6
