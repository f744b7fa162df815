-- A refused table's error line.
use Rattle.std.proofs.Common.{◌≡◌, ℕ, List, Option, false, sym, subst}
use Rattle.linemap_image.specs.TableError.{TableError}
use Rattle.linemap_image.specs.TableErrorCodes.{table_error_code}
use Rattle.linemap_output.specs.ErrorLine.{Fails, table_line}
use Rattle.linemap_output.specs.declared.ended.Ended.{Ended}
use Rattle.linemap_commands.specs.Emission.{Reports}
use Rattle.linemap_commands.specs.declared.images.Refusal.{Refusal}
use Rattle.linemap_commands.specs.declared.images.Refusal.TheVariants.{Table}

-- it is reported by its code
pub reports_table : (refusal : Refusal) (error : TableError) (code : List ℕ) (old new : Option (List ℕ)) (e : Ended)
    → refusal ≡ Table error → code ≡ table_error_code error
    → Fails (table_line code) old new e
    → e.memory ≡ false → Reports refusal old new e
reports_table refusal error code old new e is same fails memory =
    subst (λ r. Reports r old new e) (sym is)
    (subst (λ c. Fails (table_line c) old new e) same fails, memory)
