use Rattle.std.proofs.Common.{◌≡◌, ℕ, List, Option, false, sym, subst}
use Rattle.linemap_output.specs.ErrorLine.{Fails, table_line}
use Rattle.linemap_output.specs.declared.ended.Ended.{Ended}
use Rattle.linemap_emit.specs.TableErrorCodes.{table_error_code}
use Rattle.linemap_emit.specs.TableError.{TableError}
use Rattle.linemap_text.specs.Ask.{Reports}
use Rattle.linemap_text.specs.declared.stops.Stop.{Stop}
use Rattle.linemap_text.specs.declared.stops.Stop.TheVariants.{Table}
use Rattle.linemap_text.proofs.stops.Stop.report.Goals as goal

-- a refused table is reported by its code
reports_table : (stop : Stop) (error : TableError) (code : List ℕ) (old new : Option (List ℕ)) (e : Ended)
    → stop ≡ Table error
    → code ≡ table_error_code error → Fails (table_line code) old new e → e.memory ≡ false
    → Reports stop old new e
reports_table stop error code old new e is same fails memory =
    subst (λ s. Reports s old new e) (sym is)
    (subst (λ c. Fails (table_line c) old new e) same fails, memory)

pub returns-in-Table : goal.returns-in-Table
returns-in-Table g c =
    reports_table c.args.self c.in-Table.error c.code.result.now _ _ c.table_refused.result c.in-Table.is c.code.ensures
    c.table_refused.ensures.line c.table_refused.ensures.memory
