-- How much the names of the functions that are inlined into those of a unit take.
use Rattle.std.proofs.Common.{◌≡◌, ℕ, ◌+◌, ◌*◌, ◌≤◌, Bool, true, false, List, [], ◌∷◌, ◌++◌, length, sum_by, refl, ap, sym, subst, ◌∙◌, arith}
use Rattle.std.specs.List.{list_any}
use Rattle.std.proofs.lemmas.List.Sums.{sum_by-cons, sum_by-append}
use Rattle.linemap_emit_units.specs.StringSections.{same_bytes, with_text}
use Rattle.linemap_emit_units.proofs.TextTableLemmas.{with_text-again, with_text-new}
use Rattle.linemap_emit_units.specs.TableParts.{Site, Calls, no_calls, more_calls, FunctionPart, UnitPart}
use Rattle.linemap_emit_units.specs.TableWeight.{calls_weight, function_weight}
use Rattle.linemap_emit_units.specs.InlinedNames.{call_names, called_names, with_texts, inlined_names}

-- a name as a text, and as an abstract function's entry
abbrev pub name_most : List ℕ → ℕ
name_most t = length t + 21

abbrev pub names_most : List (List ℕ) → ℕ
names_most ts = sum_by name_most ts

-- each once takes no more
name_grows : (texts : List (List ℕ)) (t : List ℕ) → names_most (with_text texts t) ≤ names_most texts + name_most t
name_grows texts t = by (list_any (same_bytes t) texts) refl
  where
    by : (b : Bool) → list_any (same_bytes t) texts ≡ b
        → names_most (with_text texts t) ≤ names_most texts + name_most t
    by true there = subst (λ l. names_most l ≤ names_most texts + name_most t) (sym (with_text-again texts t there))
        (omega arith)
    by false new =
        sum _ _ (names_most texts) (length t) (ap names_most (with_text-new texts t new)
        ∙ sum_by-append name_most texts (t ∷ [])) (sum_by-cons name_most t [])
      where
        sum : (x y m n : ℕ) → x ≡ m + y → y ≡ (n + 21) + 0 → x ≤ m + (n + 21)
        sum x y m n g h = omega arith

names_grow : (texts ts : List (List ℕ)) → names_most (with_texts texts ts) ≤ names_most texts + names_most ts
names_grow texts [] = omega arith
names_grow texts (t ∷ ts) =
    sum _ _ _ _ _ _ (names_grow (with_text texts t) ts) (name_grows texts t) (sum_by-cons name_most t ts)
  where
    sum : (x w m n k whole : ℕ) → x ≤ w + k → w ≤ m + n → whole ≡ n + k → x ≤ m + whole
    sum x w m n k whole f g h = omega arith

-- there are no more than that
pub names_few : (ts : List (List ℕ)) → 21 * length ts ≤ names_most ts
names_few [] = omega arith
names_few (t ∷ ts) = let few = names_few ts in let whole = sum_by-cons name_most t ts in omega arith

-- ---- beside them

-- what a call takes at most but for its name
abbrev pub site_most : Site → ℕ
site_most s = 100 + 64 * length s.ranges

abbrev pub calls_most : Calls → ℕ
calls_most no_calls = 0
calls_most (more_calls site inner others) = (site_most site + 10) + calls_most inner + calls_most others

abbrev pub function_most : FunctionPart → ℕ
function_most f = 64 + 64 * length f.ranges + 4 * length f.name + calls_most f.calls

-- both together take no more than the weight
calls_split : (cs : Calls) → calls_most cs + names_most (call_names cs) ≤ calls_weight cs
unfolding call_names
calls_split no_calls = omega arith
calls_split (more_calls site inner others) =
    let within = calls_split inner in
    let after = calls_split others in
    let head = sum_by-cons name_most site.name (call_names inner ++ call_names others) in
    let rest = sum_by-append name_most (call_names inner) (call_names others) in
    omega arith

functions_split : (fs : List FunctionPart)
    → sum_by function_most fs + names_most (called_names fs) ≤ sum_by function_weight fs
functions_split [] = omega arith
functions_split (f ∷ fs) =
    let own = calls_split f.calls in
    let others = functions_split fs in
    let most = sum_by-cons function_most f fs in
    let weight = sum_by-cons function_weight f fs in
    let names = sum_by-append name_most (call_names f.calls) (called_names fs) in
    omega arith

pub unit_split : (u : UnitPart)
    → sum_by function_most u.functions + names_most (inlined_names u) ≤ sum_by function_weight u.functions
unit_split u =
    let all = functions_split u.functions in
    let once = names_grow [] (called_names u.functions) in
    omega arith
