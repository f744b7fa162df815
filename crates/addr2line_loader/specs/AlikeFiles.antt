-- Files that are loaded from all of their bytes, or from the parts that a loader needs.
use Rattle.std.specs.Prelude.{◌≡◌, ℕ, List, Option, Some, None, Result, Ok, Err}
use Rattle.addr2line_split.specs.LoadedParts.{AlikeImages, LoadsAlike}
use Rattle.addr2line_split.specs.LoadError.{LoadError}
use Rattle.addr2line_loader.specs.LoadedFiles.{LoadedFile, loaded_file}

-- two files of which lookups give the same: their images, symbols, sections and contexts
pub record AlikeFiles (a b : LoadedFile) : Type 0 where
  pub image : AlikeImages a.image b.image
  pub symbols : a.symbols ≡ b.symbols
  pub sections : a.sections ≡ b.sections
  pub context : a.context ≡ b.context
  pub answers : a.answers ≡ b.answers

-- or the same refusal
abbrev pub AreAlikeFiles : Result LoadedFile LoadError → Result LoadedFile LoadError → Type 0
AreAlikeFiles (Ok a) (Ok b) = AlikeFiles a b
AreAlikeFiles (Err e) (Err d) = e ≡ d
AreAlikeFiles a b = ⊥

-- two supplements of which a loader gets the same, or none
abbrev pub LoadAlikeIfAny : Option (List ℕ) → Option (List ℕ) → Type 0
LoadAlikeIfAny None None = Unit {0}
LoadAlikeIfAny (Some bytes) (Some other) = LoadsAlike bytes other
LoadAlikeIfAny a b = ⊥

-- Where a loader gets the same headers, sections and symbols of two files, and of their
-- supplements, it loads the same of both.
abbrev pub LoadedAlike : Type 0
LoadedAlike =
    (bytes other : List ℕ) (supplement other_supplement : Option (List ℕ)) → LoadsAlike bytes other
    → LoadAlikeIfAny supplement other_supplement
    → AreAlikeFiles (loaded_file bytes supplement) (loaded_file other other_supplement)
