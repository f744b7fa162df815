-- Tables that fit addresses of 8 bytes.
use Rattle.std.proofs.Common.{◌≡◌, ℕ, true, ap, ◌∙◌}
use Rattle.linemap_table.specs.EncodingFits.{fits}
use Rattle.linemap_table.specs.TableUnits.{units_of}
use Rattle.linemap_table.specs.declared.Table.{Table}
use Rattle.linemap_table.proofs.SoundFits.{sound_fits_8}

pub fits_8 : (t : Table) (size : ℕ) → size ≡ 8 → fits size (units_of t) ≡ true
fits_8 t size eight = ap (λ (n : ℕ). fits n (units_of t)) eight ∙ sound_fits_8 (units_of t) t.sound
