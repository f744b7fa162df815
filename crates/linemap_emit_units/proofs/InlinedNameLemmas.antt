-- The names of the functions that are inlined into those of a unit.
use Rattle.std.proofs.Common.{◌≡◌, ℕ, Bool, true, false, ◌||◌, List, [], ◌∷◌, ◌++◌, All, length, refl, sym, ap, subst, ◌∙◌}
use Rattle.std.specs.List.{list_any}
use Rattle.std.proofs.lemmas.List.Elements.{All-nil, All-cons, All-head, All-tail, All-append}
use Rattle.std.proofs.lemmas.List.Folds.{list_any-append}
use Rattle.std.proofs.lemmas.Cmp.{nat_list_eq_equiv}
use Rattle.gimli_lines_write_tables.specs.StringSections.{IsText, same_bytes, with_text}
use Rattle.gimli_lines_write_tables.proofs.TextTableLemmas.{with_text-again, with_text-new}
use Rattle.linemap_emit_programs.specs.TableParts.{Calls, no_calls, more_calls, FunctionPart, UnitPart}
use Rattle.linemap_emit_units.specs.InlinedNames.{call_names, called_names, with_texts, inlined_names, NamesAre, FunctionNamesAre, IsAmong}
use Rattle.linemap_emit_units.specs.UnitEmission.{CanEmitCalls, CanEmitFunctions, CanEmitUnit}

-- ---- lists one after the other

pub All-left : {X : Type 0} (P : X → Type 0) (xs ys : List X) → All P (xs ++ ys) → All P xs
All-left P [] ys all = All-nil P
All-left P (x ∷ xs) ys all =
    All-cons P x xs (All-head P x (xs ++ ys) all) (All-left P xs ys (All-tail P x (xs ++ ys) all))

pub All-right : {X : Type 0} (P : X → Type 0) (xs ys : List X) → All P (xs ++ ys) → All P ys
All-right P [] ys all = all
All-right P (x ∷ xs) ys all = All-right P xs ys (All-tail P x (xs ++ ys) all)

pub with_texts-append : (texts xs ys : List (List ℕ))
    → with_texts texts (xs ++ ys) ≡ with_texts (with_texts texts xs) ys
with_texts-append texts [] ys = refl
with_texts-append texts (x ∷ xs) ys = with_texts-append (with_text texts x) xs ys

-- ---- texts without a zero byte

-- what holds of all names holds of each
pub names_are : (P : List ℕ → Type 0) (cs : Calls) → All P (call_names cs) → NamesAre P cs
unfolding call_names NamesAre
names_are P no_calls all = tt
names_are P (more_calls site inner others) all =
    let rest = All-tail P site.name (call_names inner ++ call_names others) all in (
      All-head P site.name (call_names inner ++ call_names others) all,
      names_are P inner (All-left P (call_names inner) (call_names others) rest),
      names_are P others (All-right P (call_names inner) (call_names others) rest),
    )

function_names_are : (P : List ℕ → Type 0) (fs : List FunctionPart) → All P (called_names fs) → FunctionNamesAre P fs
function_names_are P [] all = tt
function_names_are P (f ∷ fs) all = (
  names_are P f.calls (All-left P (call_names f.calls) (called_names fs) all),
  function_names_are P fs (All-right P (call_names f.calls) (called_names fs) all),
)

pub call_texts : (size files : ℕ) (cs : Calls) → CanEmitCalls size files cs → All IsText (call_names cs)
unfolding CanEmitCalls call_names
call_texts size files no_calls can = All-nil IsText
call_texts size files (more_calls site inner others) can =
    All-cons IsText site.name (call_names inner ++ call_names others) can.0.0
    (All-append IsText (call_names inner) (call_names others) (call_texts size files inner can.2)
    (call_texts size files others can.3))

function_texts : (size files : ℕ) (fs : List FunctionPart) → CanEmitFunctions size files fs
    → All IsText (called_names fs)
function_texts size files [] can = All-nil IsText
function_texts size files (f ∷ fs) can =
    All-append IsText (call_names f.calls) (called_names fs) (call_texts size files f.calls can.1)
    (function_texts size files fs can.2)

pub unit_texts : (size : ℕ) (u : UnitPart) → CanEmitUnit size u → All IsText (called_names u.functions)
unit_texts size u can = function_texts size (length u.files) u.functions can.2

-- ---- each name is among them

same-itself : (t : List ℕ) → same_bytes t t ≡ true
same-itself t = nat_list_eq_equiv.refl t

-- what is among texts stays among more
stays_among : (texts : List (List ℕ)) (s t : List ℕ) → IsAmong texts t → IsAmong (with_text texts s) t
stays_among texts s t among = by (list_any (same_bytes s) texts) refl
  where
    by : (b : Bool) → list_any (same_bytes s) texts ≡ b → IsAmong (with_text texts s) t
    by true there = subst (λ l. IsAmong l t) (sym (with_text-again texts s there)) among
    by false new =
        ap (list_any (same_bytes t)) (with_text-new texts s new) ∙ list_any-append (same_bytes t) texts (s ∷ [])
        ∙ ap (λ b. b || list_any (same_bytes t) (s ∷ [])) among

pub all_stay_among : (texts ts : List (List ℕ)) (t : List ℕ) → IsAmong texts t → IsAmong (with_texts texts ts) t
all_stay_among texts [] t among = among
all_stay_among texts (s ∷ ts) t among = all_stay_among (with_text texts s) ts t (stays_among texts s t among)

-- a text that is added is among them
added_among : (texts : List (List ℕ)) (t : List ℕ) → IsAmong (with_text texts t) t
added_among texts t = by (list_any (same_bytes t) texts) refl
  where
    by : (b : Bool) → list_any (same_bytes t) texts ≡ b → IsAmong (with_text texts t) t
    by true there = subst (λ l. IsAmong l t) (sym (with_text-again texts t there)) there
    by false new =
        ap (list_any (same_bytes t)) (with_text-new texts t new) ∙ list_any-append (same_bytes t) texts (t ∷ [])
        ∙ ap (λ b. b || list_any (same_bytes t) (t ∷ [])) new ∙ ap (λ b. b || false) (same-itself t)

pub all_among : (texts ts : List (List ℕ)) → All (IsAmong (with_texts texts ts)) ts
all_among texts [] = All-nil (IsAmong texts)
all_among texts (t ∷ ts) =
    All-cons (IsAmong (with_texts texts (t ∷ ts))) t ts
    (all_stay_among (with_text texts t) ts t (added_among texts t)) (all_among (with_text texts t) ts)

pub unit_among : (u : UnitPart) → All (IsAmong (inlined_names u)) (called_names u.functions)
unit_among u = all_among [] (called_names u.functions)

pub unit_names_are : (u : UnitPart) → FunctionNamesAre (IsAmong (inlined_names u)) u.functions
unit_names_are u = function_names_are (IsAmong (inlined_names u)) u.functions (unit_among u)

pub unit_names_are_texts : (size : ℕ) (u : UnitPart) → CanEmitUnit size u → FunctionNamesAre IsText u.functions
unit_names_are_texts size u can = function_names_are IsText u.functions (unit_texts size u can)
