-- The offsets of the tables in a cache.
use Rattle.std.proofs.Common.{◌≡◌, ◌==◌, ℕ, true, List, [], ◌∷◌, map, length, is_some, Result, refl, sym, ap, ◌∙◌}
use Rattle.std.proofs.lemmas.Cmp.{nat_cmp_total, eq_by_cmp_equiv}
use Rattle.std.proofs.lemmas.Map.Lookups.{exact_unsigned}
use Rattle.std.proofs.lemmas.Map.Views.{tells_apart, Contains-from_any, exact_unsigned_eq, list_any-from_Contains}
use Rattle.std.specs.FinMap.{empty, get, keys, entries, contains_key-keys, len-entries, len-empty}
use Rattle.std.specs.List.{Contains, list_any}
use Rattle.std.specs.Ordering.{nat_cmp}
use Rattle.gimli_dwarf_spec.specs.Error.{Error}
use Rattle.gimli_dwarf_spec.specs.Declarations.{Declaration}
use Rattle.gimli_dwarf_spec.specs.TableCache.{TablesByOffset}
use Rattle.gimli_dwarf_spec.specs.CheckedTables.{DeclarationsByOffset, HasAll}

no_items : {A : Type 0} (xs : List A) → length xs ≡ 0 → xs ≡ []
no_items [] h = refl
no_items (x ∷ xs) h = absurd cc

abbrev no_tables : TablesByOffset
no_tables = empty

-- an empty cache has none
pub no_offsets : (tables : TablesByOffset) → tables ≡ empty → keys tables ≡ []
no_offsets tables is =
    ap keys is
    ∙ ap (map (λ (entry : ℕ × Result (List Declaration) Error). entry.0))
    (no_items (entries no_tables)
    (sym (len-entries no_tables) ∙ len-empty nat_cmp (Result (List Declaration) Error)))

-- an offset at which one has a table is among its offsets
pub among_offsets : (tables : TablesByOffset) (offset : ℕ) → is_some (get tables offset) ≡ true
    → Contains (keys tables) offset
among_offsets tables offset has =
    Contains-from_any (tells_apart exact_unsigned) offset (keys tables) (sym (contains_key-keys tables offset) ∙ has)

-- each of these offsets is one of those of which the tables are read or checked
pub among_all : (offsets : List ℕ) (tables : TablesByOffset) (kept : DeclarationsByOffset) (offset : ℕ)
    → HasAll offsets tables kept → Contains (keys tables) offset → Contains offsets offset
among_all offsets tables kept offset all has =
    let cached : is_some (get tables offset) ≡ true =
    contains_key-keys tables offset
    ∙ list_any-from_Contains (eq_by_cmp_equiv nat_cmp_total) offset (keys tables) has in
    let asked : list_any (λ o. o == offset) offsets ≡ true = sym (all offset) ∙ rw cached refl in
    Contains-from_any {eq = λ q o. o == q} (λ x y same. sym (exact_unsigned_eq y x same)) offset offsets asked
