-- What the image of a table answers once it is loaded.
use Rattle.std.specs.Prelude.{◌≡◌, ℕ, List, [], None, Ok}
use Rattle.addr2line_loader.specs.LoadedFiles.{LoadedFile, loaded_file}
use Rattle.linemap_emit.specs.RecordedTableLaws.{AnswersTable}
use Rattle.linemap_emit.specs.TableParts.{UnitPart}

-- A file's bytes are loaded, without symbols, and the context over their sections answers the
-- table.
pub record FileAnswers (file : List ℕ) (us : List UnitPart) : Type 0 where
  pub loaded : LoadedFile
  pub is_loaded : loaded_file file None ≡ Ok loaded
  pub no_symbols : loaded.symbols ≡ []
  pub answers : AnswersTable loaded.context.file us
  pub context_is : loaded.context.context ≡ answers.found
