use Rattle.std.proofs.Common.{◌≡◌, ℕ, List, Some, refl, ap}
use Rattle.gimli_dwarf_spec.specs.Tiling.{RemainingSection, whole_section}
use Rattle.gimli_dwarf_spec.specs.TableCache.{chosen_tables}
use Rattle.gimli_dwarf.specs.declared.loading.TableOffsets.{TableOffsets}
use Rattle.gimli_dwarf.proofs.OffsetCallLemmas.{caches_chosen}
use Rattle.gimli_dwarf.proofs.dwarf.Dwarf.populate_abbreviations_cache.Goals as goal

pub returns-clause-ok : goal.returns-clause-ok
returns-clause-ok g c =
    let units = λ (s : TableOffsets g.row.R.Denot g.row.R-Endian.Denot g.row.R-Offset.Denot). s.units in
    let section = c.self.inside.debug_abbrev in
    let headers : c.in_ok-units.field-0 ≡ whole_section c.args.self.now.file.sections.debug_info =
    cc c.in_ok-units.ensures.value in
    rw (← c.self.view_is)
    (caches_chosen g.R.Offset.ReaderOffset.limit _ units c.populate.result
    (λ (offsets : List ℕ). chosen_tables c.args.strategy offsets section) _ c.populate.new.self _
    (ap (λ (h : RemainingSection). Some h) (rw (← c.self.view_is) at headers)) refl c.populate.ensures.ok)
