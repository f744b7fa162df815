-- What a writer holds after a text is written to it, whole or in part, and the fault that ends the
-- tries.
use Rattle.std.specs.Prelude.{◌≡◌, ℕ, List, Option, take}
use Rattle.std.specs.Io.KnownBytes.{Appends}
use Rattle.std.specs.declared.io.ErrorKind.{ErrorKind}
use Rattle.std.specs.declared.io.ErrorKind.TheVariants.{BrokenPipe as BrokenPipeKind}
use Rattle.linemap_output.specs.declared.writing.WriteFault.{WriteFault}
use Rattle.linemap_output.specs.declared.writing.WriteFault.TheVariants.{BrokenPipe, Failed}

-- known bytes grow by a prefix of the text, its first `count` bytes
pub record AppendsPrefix (old new : Option (List ℕ)) (text : List ℕ) : Type 0 where
  pub count : ℕ
  pub appends : Appends old new (take count text)

-- a broken pipe is a fault of its own
abbrev pub IsFaultOf : WriteFault → ErrorKind → Type 0
IsFaultOf BrokenPipe kind = kind ≡ BrokenPipeKind
IsFaultOf Failed kind = kind ≡ BrokenPipeKind → ⊥
