-- What is printed for a command line that is no request, or for the code of a refusal, and how the
-- program ends.
use Rattle.std.specs.Prelude.{◌≡◌, ◌⊎◌, ℕ, Bool, true, false, codes, List, Option}
use Rattle.std.specs.Io.KnownBytes.{Appends, Keeps}
use Rattle.linemap_output.specs.WriterBytes.{AppendsPrefix}
use Rattle.linemap_output.specs.ErrorLine.{EndsAtFault, EndsOutOfMemory, error_line}
use Rattle.linemap_output.specs.declared.ended.Ended.{Ended}
use Rattle.linemap_output.specs.declared.writing.WriteFault.{WriteFault}
use Rattle.linemap_words.specs.WordsStatus.{IsHelp}
use Rattle.linemap_words.specs.declared.request.WordsError.{WordsError}
use Rattle.linemap_words.specs.declared.request.WordsError.TheVariants.{Memory, Fault}

-- help goes to the output, with status 0; a fault of the output is reported as it is for answers
pub record PrintsHelp (text : List ℕ)
    (out_old out_new err_old err_new : Option (List ℕ)) (e : Ended) : Type 0 where
  pub whole : e.write ≡ false
      → Appends out_old out_new text × Keeps err_old err_new × (e.status ≡ 0)
  pub prefix : AppendsPrefix out_old out_new text
  pub fault : e.write ≡ true → (fault : WriteFault) × EndsAtFault fault err_old err_new e
  pub memory : e.memory ≡ false
  pub read : e.read ≡ false

-- a mistake goes to the error stream, with status 2
pub record PrintsMistake (text : List ℕ) (old new : Option (List ℕ)) (e : Ended) : Type 0 where
  pub whole : e.write ≡ false → Appends old new text
  pub prefix : AppendsPrefix old new text
  pub status : e.status ≡ 2
  pub memory : e.memory ≡ false
  pub read : e.read ≡ false

-- some text is printed, as help or as a mistake
abbrev pub PrintsText : Bool
    → Option (List ℕ) → Option (List ℕ) → Option (List ℕ) → Option (List ℕ)
    → Ended → Type 0
PrintsText true out_old out_new err_old err_new e =
    (text : List ℕ) × PrintsHelp text out_old out_new err_old err_new e
PrintsText false out_old out_new err_old err_new e =
    (text : List ℕ) × PrintsMistake text err_old err_new e × Keeps out_old out_new

-- out of memory is reported; a fault of the parse prints its text, unless memory for it is refused
abbrev pub Explains : WordsError
    → Option (List ℕ) → Option (List ℕ) → Option (List ℕ) → Option (List ℕ)
    → Ended → Type 0
Explains Memory out_old out_new err_old err_new e =
    EndsOutOfMemory err_old err_new e × Keeps out_old out_new
Explains (Fault fault) out_old out_new err_old err_new e =
    (EndsOutOfMemory err_old err_new e × Keeps out_old out_new)
    ⊎ ((is_help : Bool) × IsHelp (Fault fault) is_help
    × PrintsText is_help out_old out_new err_old err_new e)

-- some text on the refusal goes to the output; a code that no refusal has is a mistake
abbrev pub ExplainsRefusal : List ℕ → Bool
    → Option (List ℕ) → Option (List ℕ) → Option (List ℕ) → Option (List ℕ)
    → Ended → Type 0
ExplainsRefusal code true out_old out_new err_old err_new e =
    (text : List ℕ) × PrintsHelp text out_old out_new err_old err_new e
ExplainsRefusal code false out_old out_new err_old err_new e =
    PrintsMistake (error_line (codes "no refusal has the code ") code) err_old err_new e
    × Keeps out_old out_new
