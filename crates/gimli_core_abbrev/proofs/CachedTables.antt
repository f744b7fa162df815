-- What a cache takes of a table that was read, or refused.
use Rattle.std.proofs.Common.{◌≡◌, ◌∙◌, refl, ap, sym, ℕ, Bool, true, false, cond, ◌||◌, eqb, List, [], ◌∷◌, ◌++◌, Option, Some, None, option_map, is_some, Result}
use Rattle.std.specs.Ordering.{nat_cmp}
use Rattle.std.specs.BTreeMap.{is_at}
use Rattle.std.proofs.Math.Bool.{or-false}
use Rattle.std.proofs.lemmas.Bool.{eqb-true}
use Rattle.std.specs.declared.rc.Rc.{Rc}
use Rattle.std.specs.declared.alloc.Global.{Global}
use Rattle.gimli_core_readers.specs.Error.{Error}
use Rattle.gimli_core_abbrev.specs.declared.table.Abbreviations.{Abbreviations}
use Rattle.gimli_core_abbrev.specs.Declarations.{Declaration}
use Rattle.gimli_core_abbrev.specs.TableCache.{table_view}
use Rattle.gimli_core_abbrev.proofs.RepeatedOffsets.{among, among-push, same_among}
use Rattle.gimli_core_abbrev.proofs.DeclarationPlaces.{place_test}

-- ---- the tables at the offsets of a list

abbrev CachedTable : Type 0
CachedTable = Result (Rc Abbreviations Global) Error

-- the table at an offset, if it is among the places
abbrev table_among : (ℕ → Result (List Declaration) Error) → ℕ → Bool → Option (Result (List Declaration) Error)
table_among tables offset b = cond b (Some (tables offset)) None

-- one table more
pub tables_more : (offset c : ℕ) (places : List ℕ) (tables : ℕ → Result (List Declaration) Error) (table : CachedTable)
    (old new : Option CachedTable)
    → new ≡ cond (is_at (nat_cmp c) offset) (Some table) old → table_view table ≡ tables c
    → option_map table_view old ≡ cond (among offset places) (Some (tables offset)) None
    → option_map table_view new ≡ cond (among offset (places ++ c ∷ [])) (Some (tables offset)) None
tables_more offset c places tables table old new is same was =
    ap (option_map table_view) is
    ∙ ap (λ (b : Bool). option_map table_view (cond b (Some table) old)) (place_test c offset)
    ∙ by_test (eqb c offset) refl
    ∙ ap (table_among tables offset) (sym (among-push offset places c))
  where
    there : (b : Bool) → Some (tables offset) ≡ table_among tables offset (b || true)
    there true = refl
    there false = refl

    by_test : (b : Bool) → eqb c offset ≡ b
        → option_map table_view (cond b (Some table) old) ≡ table_among tables offset (among offset places || b)
    by_test true e =
        ap (λ (r : Result (List Declaration) Error). Some r) (same ∙ ap tables (eqb-true c offset e))
        ∙ there (among offset places)
    by_test false e = was ∙ ap (table_among tables offset) (sym (or-false (among offset places)))

-- an offset whose table is there already
pub tables_same : (offset c : ℕ) (places : List ℕ) (tables : ℕ → Result (List Declaration) Error)
    (at_c old : Option CachedTable)
    → is_some at_c ≡ true → option_map table_view at_c ≡ cond (among c places) (Some (tables c)) None
    → option_map table_view old ≡ cond (among offset places) (Some (tables offset)) None
    → option_map table_view old ≡ cond (among offset (places ++ c ∷ [])) (Some (tables offset)) None
tables_same offset c places tables at_c old some was_c was =
    was ∙ ap (table_among tables offset) (same (eqb c offset) refl ∙ sym (among-push offset places c))
  where
    none : Option (Result (List Declaration) Error)
    none = None

    is_among : (o : Option CachedTable) (b : Bool) → is_some o ≡ true → option_map table_view o ≡ table_among tables c b
        → b ≡ true
    is_among (Some x) true h e = refl
    is_among (Some x) false h e = absurd (let no : Some (table_view x) ≡ none = e in cc)
    is_among None b h e = absurd (let no : false ≡ true = h in cc)

    both : (b : Bool) → b ≡ true → b ≡ (b || true)
    both true h = refl
    both false h = h

    same : (b : Bool) → eqb c offset ≡ b → among offset places ≡ (among offset places || b)
    same true e = both (among offset places)
        (sym (same_among offset c places e) ∙ is_among at_c (among c places) some was_c)
    same false e = sym (or-false (among offset places))
