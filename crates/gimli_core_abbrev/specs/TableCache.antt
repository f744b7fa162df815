-- What a cache of abbreviation tables holds, by the tables' offsets.
use Rattle.std.specs.Prelude.{◌≡◌, ◌≢◌, ℕ, ◌==◌, nat_le, List, map, count_by, Option, Some, None, unwrap_or, Result, Ok, Err}
use Rattle.std.specs.List.{filter}
use Rattle.std.specs.Coded.{Coded, coded_ℕ, coded_list, coded_result}
use Rattle.std.specs.declared.rc.Rc.{Rc}
use Rattle.std.specs.declared.alloc.Global.{Global}
use Rattle.std.specs.Ordering.{nat_cmp}
use Rattle.std.specs.FinMap.{FinMap, code, get, from_entries}
use Rattle.gimli_core_readers.specs.Error.{Error}
use Rattle.gimli_core_readers.specs.Error.TheVariants.{Memory}
use Rattle.gimli_core_readers.specs.ErrorContract.{the_row as error_row}
use Rattle.gimli_core_readers.specs.View.{View}
use Rattle.gimli_core_abbrev.specs.declared.cache.AbbreviationsCacheStrategy.{AbbreviationsCacheStrategy}
use Rattle.gimli_core_abbrev.specs.declared.cache.AbbreviationsCacheStrategy.TheVariants.{Duplicates, All}
use Rattle.gimli_core_abbrev.specs.declared.table.Abbreviations.{Abbreviations}
use Rattle.gimli_core_abbrev.specs.Declarations.{Declaration, declaration_coding}
use Rattle.gimli_core_abbrev.specs.TableParsing.{table_at}

-- tables, or why they can't be read, by their offsets
abbrev pub TablesByOffset : Type 0
TablesByOffset = FinMap nat_cmp (Result (List Declaration) Error)

abbrev pub tables_coding : Coded TablesByOffset
tables_coding = code coded_ℕ (coded_result (coded_list declaration_coding) error_row.coded)

-- what a contract sees of a table that is shared, or of why it can't be read
abbrev pub table_view : Result (Rc Abbreviations Global) Error → Result (List Declaration) Error
table_view (Ok table) = Ok table.value
table_view (Err e) = Err e

-- an entry of the cache
abbrev pub cached_view : ℕ × Result (Rc Abbreviations Global) Error
    → ℕ × Result (List Declaration) Error
cached_view entry = (entry.0, table_view entry.1)

-- each of the tables is the section's at its offset
abbrev pub AreTablesOf : View → TablesByOffset → Type 0
AreTablesOf section tables =
    (offset : ℕ) → unwrap_or (get tables offset) (table_at offset section)
    ≡ table_at offset section

-- the tables of a section at these offsets
abbrev pub tables_at : List ℕ → View → TablesByOffset
tables_at offsets section =
    from_entries (map (λ offset. (offset, table_at offset section)) offsets)

-- the offsets whose tables a strategy asks for: all, or those that occur twice or more
abbrev pub chosen_offsets : AbbreviationsCacheStrategy → List ℕ → List ℕ
chosen_offsets All offsets = offsets
chosen_offsets Duplicates offsets =
    filter (λ offset. nat_le 2 (count_by (λ o. o == offset) offsets)) offsets

-- the tables that a strategy asks for, and no others
abbrev pub chosen_tables : AbbreviationsCacheStrategy → List ℕ → View → TablesByOffset
chosen_tables strategy offsets section = tables_at (chosen_offsets strategy offsets) section

-- what ends the offsets: there are no more, or a fault other than out of memory comes
abbrev pub EndsOffsets : {O : Type 0} → Option (Result O Error) → Type 0
EndsOffsets None = Unit {0}
EndsOffsets (Some (Ok o)) = ⊥
EndsOffsets (Some (Err e)) = e ≢ Memory
