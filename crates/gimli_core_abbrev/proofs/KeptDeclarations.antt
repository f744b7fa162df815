-- The declarations that are kept of tables that were checked.
use Rattle.std.proofs.Common.{◌≡◌, ◌∙◌, refl, ap, sym, subst, ℕ, Bool, true, false, cond, eqb, List, [], ◌∷◌, Option, Some, None, Result, Ok, Err}
use Rattle.std.specs.Prelude.{IfSome, IfOk}
use Rattle.std.specs.Option.{option_to_list}
use Rattle.std.specs.Ordering.{nat_cmp}
use Rattle.std.specs.Cmp.{nat_cmp_total}
use Rattle.std.specs.BTreeMap.{is_at}
use Rattle.std.specs.Map.{lookup}
use Rattle.std.specs.FinMap.{get, find, from_entries, get-from_entries}
use Rattle.std.proofs.lemmas.Bool.{eqb-true}
use Rattle.gimli_core_readers.specs.Error.{Error}
use Rattle.gimli_core_readers.specs.View.{View}
use Rattle.gimli_core_readers.specs.Calls.{ReturnsOrNoMemory}
use Rattle.gimli_core_abbrev.specs.Declarations.{Declaration, declaration_at}
use Rattle.gimli_core_abbrev.specs.CheckedTables.{DeclarationsByOffset, HasAt, AreDeclarationsOf}

-- the map has at an offset what its tree has
pub get_kept : (es : List (ℕ × Declaration)) (offset : ℕ)
    → get (from_entries {R = nat_cmp} es) offset ≡ lookup (is_at (nat_cmp offset)) es
get_kept es offset = get-from_entries nat_cmp_total es offset ∙ same es
  where
    same : (fs : List (ℕ × Declaration)) → find nat_cmp offset fs ≡ lookup (is_at (nat_cmp offset)) fs
    same [] = refl
    same (e ∷ fs) = ap (cond (is_at (nat_cmp offset) e.0) (Some e.1)) (same fs)

pub none_kept : (es : List (ℕ × Declaration)) → es ≡ [] → (offset : ℕ)
    → get (from_entries {R = nat_cmp} es) offset ≡ None
none_kept es empty offset =
    get_kept es offset ∙ ap (λ (fs : List (ℕ × Declaration)). lookup (is_at (nat_cmp offset)) fs) empty

abbrev of_code : ℕ → Option Declaration → Option Declaration
of_code code kept = declaration_at code (option_to_list kept)

-- what is kept at an offset, if it has the code
pub kept_found : (m : DeclarationsByOffset) (es : List (ℕ × Declaration)) (place at code : ℕ) (o : Option Declaration)
    → from_entries es ≡ m → place ≡ at → o ≡ lookup (is_at (nat_cmp place)) es
    → of_code code (get m at) ≡ of_code code o
kept_found m es place at code o same there found =
    ap (of_code code)
    (ap (λ (n : DeclarationsByOffset). get n at) (sym same)
    ∙ get_kept es at
    ∙ ap (λ (p : ℕ). lookup (is_at (nat_cmp p)) es) (sym there)
    ∙ sym found)

-- it is the section's
kept_own : (section : View) (m : DeclarationsByOffset) (at code : ℕ) (d : Declaration)
    → of_code code (get m at) ≡ Some d → AreDeclarationsOf section m → HasAt section at code d
kept_own section m at code d found own = by_kept (get m at) refl found
  where
    by_code : (x : Declaration) (b : Bool) → eqb x.code code ≡ b → get m at ≡ Some x → cond b (Some x) None ≡ Some d
        → HasAt section at code d
    by_code x false e is h = absurd cc
    by_code x true e is h =
        let same : x ≡ d = cc in
        subst (HasAt section at code) same
        (subst (λ (c : ℕ). HasAt section at c x) (eqb-true x.code code e) (own at x is))

    by_kept : (o : Option Declaration) → get m at ≡ o → of_code code o ≡ Some d → HasAt section at code d
    by_kept None is h = absurd cc
    by_kept (Some x) is h = by_code x (eqb x.code code) refl is h

-- the same of what a call returns
pub returned_own : (section : View) (m : DeclarationsByOffset) (at code : ℕ) (r : Result (Option Declaration) Error)
    → ReturnsOrNoMemory r (Ok (of_code code (get m at))) → AreDeclarationsOf section m
    → IfOk r (λ found. IfSome found (HasAt section at code))
returned_own section m at code (Err e) is own = tt
returned_own section m at code (Ok None) is own = tt
returned_own section m at code (Ok (Some d)) is own =
    let found : of_code code (get m at) ≡ Some d = cc in kept_own section m at code d found own
