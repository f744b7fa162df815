-- A cache as a finite map: what its tree of tables has, and what a strategy asks for.
use Rattle.std.proofs.Common.{◌≡◌, ◌∙◌, refl, ap, sym, ℕ, ◌≤◌, Bool, true, false, cond, ◌&&◌, ◌||◌, eqb, leb, List, [], ◌∷◌, map, Option, Some, None, option_map, unwrap_or, Result, Ok, Err, OnOk, arith}
use Rattle.std.specs.Ordering.{nat_cmp, is_eq}
use Rattle.std.specs.Cmp.{nat_cmp_total}
use Rattle.std.specs.BTreeMap.{is_at}
use Rattle.std.specs.Map.{lookup}
use Rattle.std.specs.FinMap.{get, insert, find, from_entries, get-insert, get-from_entries, nat_cmp-IsAntisymmetric, same_map}
use Rattle.std.proofs.lemmas.Bool.{eqb-true, le-leb, leb-true}
use Rattle.std.proofs.lemmas.Map.Views.{any-filter_same}
use Rattle.std.specs.declared.rc.Rc.{Rc}
use Rattle.std.specs.declared.alloc.Global.{Global}
use Rattle.gimli_core_readers.specs.Error.{Error}
use Rattle.gimli_core_readers.specs.View.{View}
use Rattle.gimli_core_abbrev.specs.declared.cache.AbbreviationsCacheStrategy.{AbbreviationsCacheStrategy}
use Rattle.gimli_core_abbrev.specs.declared.cache.AbbreviationsCacheStrategy.TheVariants.{Duplicates}
use Rattle.gimli_core_abbrev.specs.declared.table.Abbreviations.{Abbreviations}
use Rattle.gimli_core_abbrev.specs.Declarations.{Declaration}
use Rattle.gimli_core_abbrev.specs.TableCache.{TablesByOffset, AreTablesOf, table_view, cached_view, tables_at, chosen_offsets, chosen_tables}
use Rattle.gimli_core_abbrev.specs.TableParsing.{table_at}
use Rattle.gimli_core_abbrev.proofs.DeclarationPlaces.{key_test, place_test}
use Rattle.gimli_core_abbrev.proofs.RepeatedOffsets.{among, times_among, among_times}

abbrev CachedTable : Type 0
CachedTable = Result (Rc Abbreviations Global) Error

-- two caches that have the same table at each offset are equal
pub same_tables : (m n : TablesByOffset) → ((offset : ℕ) → get m offset ≡ get n offset) → m ≡ n
same_tables m n same = same_map nat_cmp_total nat_cmp-IsAntisymmetric m n same

-- ---- the tree of tables

find_cached : (offset : ℕ) (es : List (ℕ × CachedTable))
    → find nat_cmp offset (map cached_view es) ≡ option_map table_view (lookup (is_at (nat_cmp offset)) es)
find_cached offset [] = refl
find_cached offset (e ∷ es) =
    elim (is_eq (nat_cmp offset e.0)) as (λ b. cond b (Some (table_view e.1)) (find nat_cmp offset (map cached_view es))
    ≡ option_map table_view (cond b (Some e.1) (lookup (is_at (nat_cmp offset)) es))) [
      | true ↦ refl
      | false ↦ find_cached offset es
    ]

-- the cache has at an offset what its tree has
pub get_cached : (es : List (ℕ × CachedTable)) (offset : ℕ)
    → get (from_entries {R = nat_cmp} (map cached_view es)) offset
    ≡ option_map table_view (lookup (is_at (nat_cmp offset)) es)
get_cached es offset = get-from_entries nat_cmp_total (map cached_view es) offset ∙ find_cached offset es

pub no_tables : (es : List (ℕ × CachedTable)) → es ≡ [] → (offset : ℕ)
    → get (from_entries {R = nat_cmp} (map cached_view es)) offset ≡ None
no_tables es empty offset =
    get_cached es offset
    ∙ ap (λ (fs : List (ℕ × CachedTable)). option_map table_view (lookup (is_at (nat_cmp offset)) fs)) empty

-- a tree that has one table more, or another at its offset
pub insert_cached : (es fs : List (ℕ × CachedTable)) (place : ℕ) (table : CachedTable)
    → ((offset : ℕ) → lookup (is_at (nat_cmp offset)) fs
    ≡ cond (is_at (nat_cmp place) offset) (Some table) (lookup (is_at (nat_cmp offset)) es))
    → from_entries {R = nat_cmp} (map cached_view fs)
    ≡ insert (from_entries {R = nat_cmp} (map cached_view es)) place (table_view table)
insert_cached es fs place table is = same_tables _ _ (λ offset.
    get_cached fs offset
    ∙ ap (option_map table_view) (is offset)
    ∙ at offset (is_eq (nat_cmp place offset))
    ∙ ap (λ (b : Bool). cond b (Some (table_view table)) (get (from_entries {R = nat_cmp} (map cached_view es)) offset))
    (key_test place offset ∙ sym (place_test offset place))
    ∙ sym (get-insert nat_cmp_total (from_entries (map cached_view es)) place (table_view table) offset))
  where
    at : (offset : ℕ) (b : Bool) → option_map table_view (cond b (Some table) (lookup (is_at (nat_cmp offset)) es))
        ≡ cond b (Some (table_view table)) (get (from_entries {R = nat_cmp} (map cached_view es)) offset)
    at offset true = refl
    at offset false = sym (get_cached es offset)

pub set_cached : {E : Type 0} (r : Result (Unit {0}) E) (m : TablesByOffset) (es fs : List (ℕ × CachedTable))
    (place at : ℕ) (table : CachedTable) → from_entries {R = nat_cmp} (map cached_view es) ≡ m → place ≡ at
    → OnOk r ((offset : ℕ) → lookup (is_at (nat_cmp offset)) fs
    ≡ cond (is_at (nat_cmp place) offset) (Some table) (lookup (is_at (nat_cmp offset)) es))
    → OnOk r (from_entries {R = nat_cmp} (map cached_view fs) ≡ insert m at (table_view table))
set_cached (Ok x) m es fs place at table old same h =
    insert_cached es fs place table h
    ∙ ap (λ (n : TablesByOffset). insert n place (table_view table)) old
    ∙ ap (λ (p : ℕ). insert m p (table_view table)) same
set_cached (Err e) m es fs place at table old same h = tt

-- ---- what a strategy asks for

one_more : (offset : ℕ) (section : View) (o : ℕ) (os : List ℕ) (found : Option (Result (List Declaration) Error))
    → found ≡ cond (among offset os) (Some (table_at offset section)) None
    → cond (is_eq (nat_cmp offset o)) (Some (table_at o section)) found
    ≡ cond (among offset (o ∷ os)) (Some (table_at offset section)) None
one_more offset section o os found rest =
    ap (λ (b : Bool). cond b (Some (table_at o section)) found) (key_test offset o) ∙ either (eqb o offset) refl
  where
    either : (b : Bool) → eqb o offset ≡ b → cond b (Some (table_at o section)) found
        ≡ cond (b || among offset os) (Some (table_at offset section)) None
    either true e = ap (λ (p : ℕ). Some (table_at p section)) (eqb-true o offset e)
    either false e = rest

find_table_at : (offset : ℕ) (section : View) (offsets : List ℕ)
    → find nat_cmp offset (map (λ (o : ℕ). (o, table_at o section)) offsets)
    ≡ cond (among offset offsets) (Some (table_at offset section)) None
find_table_at offset section [] = refl
find_table_at offset section (o ∷ os) = one_more offset section o os _ (find_table_at offset section os)

pub get-tables_at : (offsets : List ℕ) (section : View) (offset : ℕ) → get (tables_at offsets section) offset
    ≡ cond (among offset offsets) (Some (table_at offset section)) None
get-tables_at offsets section offset =
    get-from_entries nat_cmp_total (map (λ (o : ℕ). (o, table_at o section)) offsets) offset
    ∙ find_table_at offset section offsets

-- the offsets that occur twice or more
pub among-Duplicates : (offset : ℕ) (offsets : List ℕ)
    → among offset (chosen_offsets Duplicates offsets) ≡ leb 2 (times_among offset offsets)
among-Duplicates offset offsets =
    any-filter_same (λ (o : ℕ). eqb o offset) (λ (o : ℕ). leb 2 (times_among o offsets))
    (leb 2 (times_among offset offsets))
    (λ o same. ap (λ (p : ℕ). leb 2 (times_among p offsets)) (eqb-true o offset same)) offsets
    ∙ ap (λ (b : Bool). leb 2 (times_among offset offsets) && b) (among_times offset offsets)
    ∙ once (leb 2 (times_among offset offsets)) refl
  where
    once : (b : Bool) → leb 2 (times_among offset offsets) ≡ b → (b && leb 1 (times_among offset offsets)) ≡ b
    once true e =
        let twice : 2 ≤ times_among offset offsets = leb-true 2 (times_among offset offsets) e in
        le-leb 1 (times_among offset offsets) (omega arith)
    once false e = refl

-- the tables that a strategy asks for are the section's
pub chosen_own : (strategy : AbbreviationsCacheStrategy) (offsets : List ℕ) (section : View)
    → AreTablesOf section (chosen_tables strategy offsets section)
chosen_own strategy offsets section offset =
    ap (λ (o : Option (Result (List Declaration) Error)). unwrap_or o (table_at offset section))
    (get-tables_at (chosen_offsets strategy offsets) section offset)
    ∙ either (among offset (chosen_offsets strategy offsets))
  where
    either : (b : Bool) → unwrap_or (cond b (Some (table_at offset section)) None) (table_at offset section)
        ≡ table_at offset section
    either true = refl
    either false = refl
