-- What is kept of tables that were checked and aren't cached: one declaration of each.
use Rattle.std.specs.Prelude.{◌≡◌, ◌≤◌, ℕ, ◌==◌, true, ◌||◌, List, count_by, Option, Some, is_some, Result, Ok}
use Rattle.std.specs.List.{list_any}
use Rattle.std.specs.Coded.{Coded, coded_ℕ}
use Rattle.std.specs.Ordering.{nat_cmp}
use Rattle.std.specs.FinMap.{FinMap, code, get}
use Rattle.std.specs.declared.rc.Rc.{Rc}
use Rattle.std.specs.declared.alloc.Global.{Global}
use Rattle.gimli_core_readers.specs.Error.{Error}
use Rattle.gimli_core_readers.specs.View.{View}
use Rattle.gimli_core_abbrev.specs.declared.table.Abbreviations.{Abbreviations}
use Rattle.gimli_core_abbrev.specs.Declarations.{Declaration, declaration_coding}
use Rattle.gimli_core_abbrev.specs.TableParsing.{table_at}
use Rattle.gimli_core_abbrev.specs.TableCache.{TablesByOffset, table_view}
use Rattle.gimli_core_abbrev.specs.TableChecks.{find_declaration}

abbrev CachedTable : Type 0
CachedTable = Result (Rc Abbreviations Global) Error

-- declarations of tables that were checked and aren't kept, by the tables' offsets
abbrev pub DeclarationsByOffset : Type 0
DeclarationsByOffset = FinMap nat_cmp Declaration

abbrev pub declarations_coding : Coded DeclarationsByOffset
declarations_coding = code coded_ℕ declaration_coding

-- the table at an offset of a section can be read, and this is its declaration of a code
abbrev pub HasAt : View → ℕ → ℕ → Declaration → Type 0
HasAt section offset code d = find_declaration code (table_at offset section) ≡ Ok (Some d)

-- the same of the declaration's own code
abbrev pub IsDeclarationAt : View → ℕ → Declaration → Type 0
IsDeclarationAt section offset d = HasAt section offset d.code d

-- each of the declarations is one of the section's table at its offset
abbrev pub AreDeclarationsOf : View → DeclarationsByOffset → Type 0
AreDeclarationsOf section kept =
    (offset : ℕ) (d : Declaration) → get kept offset ≡ Some d → IsDeclarationAt section offset d

-- the offsets that occur twice or more have a table
abbrev pub HasRepeated : List ℕ → TablesByOffset → Type 0
HasRepeated offsets tables =
    (offset : ℕ) → 2 ≤ count_by (λ o. o == offset) offsets → is_some (get tables offset) ≡ true

-- these offsets, and no others, have a table or a declaration
abbrev pub HasAll : List ℕ → TablesByOffset → DeclarationsByOffset → Type 0
HasAll offsets tables kept =
    (offset : ℕ) → (is_some (get tables offset) || is_some (get kept offset))
    ≡ list_any (λ o. o == offset) offsets

-- each of a cache's tables is the section's at its offset
abbrev pub AreOwn : View → (ℕ → Option CachedTable) → Type 0
AreOwn section tables =
    (offset : ℕ) (table : CachedTable) → tables offset ≡ Some table
    → table_view table ≡ table_at offset section

-- What becomes of a cache's tables while the others at these offsets are checked: those that were
-- there stay, those that come are the section's, and so are the declarations that are kept.
pub record ChecksOthers (section : View) (offsets : List ℕ) (before after : ℕ → Option CachedTable)
    (kept : ℕ → Option Declaration) : Type 0 where
  pub stays : (offset : ℕ) → is_some (before offset) ≡ true → is_some (after offset) ≡ true
  pub own : AreOwn section before → AreOwn section after
  pub are_declarations : (offset : ℕ) (d : Declaration) → kept offset ≡ Some d
      → IsDeclarationAt section offset d
  pub all : (offset : ℕ) → (is_some (after offset) || is_some (kept offset))
      ≡ (is_some (before offset) || list_any (λ o. o == offset) offsets)
