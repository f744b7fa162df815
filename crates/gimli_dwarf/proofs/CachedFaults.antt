-- The fault that is cached in place of a table.
use Rattle.std.proofs.Common.{◌≡◌, ◌∙◌, refl, sym, ap, ℕ, true, List, Option, Some, None, unwrap_or, Result, Err}
use Rattle.std.specs.List.{Contains}
use Rattle.std.specs.FinMap.{get, keys, contains_key, contains_key-keys}
use Rattle.std.proofs.lemmas.Cmp.{nat_cmp_total, eq_by_cmp_equiv}
use Rattle.std.proofs.lemmas.Map.Views.{list_any-from_Contains}
use Rattle.gimli_dwarf_spec.specs.Error.{Error}
use Rattle.gimli_dwarf_spec.specs.View.{View}
use Rattle.gimli_dwarf_spec.specs.Declarations.{Declaration}
use Rattle.gimli_dwarf_spec.specs.TableParsing.{table_at}
use Rattle.gimli_dwarf_spec.specs.TableCache.{TablesByOffset, AreTablesOf}

-- what a table is, or why it can't be read
abbrev Table : Type 0
Table = Result (List Declaration) Error

-- where an offset is cached, the section's fault there is
pub cached_fault : (section : View) (tables : TablesByOffset) (offset : ℕ) (e : Error) → AreTablesOf section tables
    → Contains (keys tables) offset → table_at offset section ≡ Err e → get tables offset ≡ Some (Err e)
cached_fault section tables offset e own cached refused = by (get tables offset) refl
  where
    there : contains_key tables offset ≡ true
    there =
        contains_key-keys tables offset
        ∙ list_any-from_Contains (eq_by_cmp_equiv nat_cmp_total) offset (keys tables) cached

    by : (o : Option Table) → get tables offset ≡ o → o ≡ Some (Err e)
    by None is = let found = there in absurd cc
    by (Some t) is =
        let same : t ≡ table_at offset section =
        ap (λ (o : Option Table). unwrap_or o (table_at offset section)) (sym is) ∙ own offset in
        ap (λ (x : Table). Some x) (same ∙ refused)
