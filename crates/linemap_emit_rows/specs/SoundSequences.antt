-- The sequences of a sound table can be written as programs with addresses of a size that it fits.
use Rattle.std.specs.Prelude.{◌≡◌, ℕ, true, List, [], ◌∷◌, length}
use Rattle.linemap_places_laws.specs.TableParts.{SequencePart, UnitPart}
use Rattle.linemap_places_laws.specs.Conditions.{IsSound}
use Rattle.linemap_places_laws.specs.EncodingFits.{fits}
use Rattle.linemap_emit_rows.specs.EmittedRows.{AllSequences, AllCanBuild}

-- sequences that can be built with addresses of a size, and shown, with rows of the files
pub record CanEmitSequences (size files : ℕ) (ss : List SequencePart) : Type 0 where
  pub can_build : AllCanBuild size ss
  pub can_show : AllSequences files ss

unfoldable pub AllCanEmitSequences : ℕ → List UnitPart → Type 0
AllCanEmitSequences size [] = Unit {0}
AllCanEmitSequences size (u ∷ us) =
    CanEmitSequences size (length u.files) u.sequences × AllCanEmitSequences size us

abbrev pub SoundCanEmitSequences : Type 0
SoundCanEmitSequences =
    (size : ℕ) (us : List UnitPart) → IsSound us → fits size us ≡ true
    → AllCanEmitSequences size us
