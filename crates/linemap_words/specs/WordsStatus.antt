-- How a refused command line is displayed, and what it ends with.
use Rattle.std.specs.Prelude.{◌≡◌, ◌≢◌, ◌⊎◌, ◌↔◌, ℕ, Bool, false, not, IsTrue, List, [], Option, None, Some, codes}
use Rattle.clap.specs.Words.{kind_of}
use Rattle.clap.specs.declared.error.ErrorKind.TheVariants.{DisplayHelp, DisplayVersion}
use Rattle.linemap_output.specs.ErrorLine.{error_line}
use Rattle.linemap_words.specs.declared.request.WordsError.{WordsError}
use Rattle.linemap_words.specs.declared.request.WordsError.TheVariants.{Memory, Fault}

-- the error line of out of memory; of a fault `clap`'s contracts don't say the text
abbrev pub displayed : WordsError → Option (List ℕ)
displayed Memory = Some (error_line (codes "out of memory") [])
displayed (Fault error) = None

-- the flag says whether the text is help, and not a mistake
abbrev pub IsHelp : WordsError → Bool → Type 0
IsHelp (Fault error) is_help =
    IsTrue (not is_help) ↔ ((kind_of error ≢ DisplayHelp) × (kind_of error ≢ DisplayVersion))
IsHelp Memory is_help = is_help ≡ false

-- 0 after help, 1 when out of memory, and 2 for a mistake
abbrev pub HasStatus : WordsError → ℕ → Type 0
HasStatus Memory status = status ≡ 1
HasStatus (Fault error) status =
    ((kind_of error ≡ DisplayHelp) ⊎ (kind_of error ≡ DisplayVersion) → status ≡ 0)
    × (kind_of error ≢ DisplayHelp → kind_of error ≢ DisplayVersion → status ≡ 2)
