-- What a load gets, by whether it has a name.
use Rattle.std.proofs.Common.{◌≡◌, ℕ, List, Option, Some, None, option_map, Result, Ok, refl, sym, subst}
use Rattle.addr2line_unit.specs.View.{View}
use Rattle.addr2line_unit.specs.Error.{Error}
use Rattle.addr2line_unit.specs.Results.{and_then}
use Rattle.addr2line_unit.specs.DwarfFiles.{DwarfFile}
use Rattle.addr2line_unit.specs.FirstAnswers.{SplitLoad}
use Rattle.addr2line_split.specs.SplitLoading.{file_for, directory_bytes, GetsNamed, GetsFile}

pub same_directory : (directory : Option View)
    → directory_bytes directory ≡ directory_bytes (option_map (λ (v : View). v) directory)
same_directory None = refl
same_directory (Some v) = refl

module _ {S : Type 0} (answers : S → List ℕ → List ℕ → Result (Option (List ℕ)) Error → S → Type 0) where
  pub gets_none : (load : SplitLoad) (old : S) → load.path ≡ None → GetsFile answers load old (Ok None) old
  gets_none load old is = subst (λ name. GetsNamed answers load name old (Ok None) old) (sym is) (refl, refl)

  pub gets_named : (load : SplitLoad) (name : View) (old new : S) (answer : Result (Option (List ℕ)) Error)
      → load.path ≡ Some name → answers old (directory_bytes load.comp_dir) name.bytes answer new
      → GetsFile answers load old (and_then answer (λ bytes. Ok (file_for load bytes))) new
  gets_named load name old new answer is call =
      let file : Result (Option DwarfFile) Error = and_then answer (λ bytes. Ok (file_for load bytes)) in
      subst (λ n. GetsNamed answers load n old file new) (sym is) (answer, call, refl)
