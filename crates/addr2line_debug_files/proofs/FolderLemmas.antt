-- Folders of paths that grow by a byte.
use Rattle.std.proofs.Common.{◌≡◌, ℕ, zero, suc, ◌+◌, ◌-◌, ◌<◌, ◌≤◌, Bool, true, false, ◌||◌, cond, List, [], ◌∷◌, ◌++◌, length, take, get_or, refl, sym, ap, ◌∙◌, arith}
use Rattle.std.specs.List.{list_any}
use Rattle.std.proofs.lemmas.List.{take_more}
use Rattle.addr2line_debug_files.specs.Candidates.{is_slash, folder_of}

or-false : (b : Bool) → (b || false) ≡ b
or-false true = refl
or-false false = refl

or-true : (b : Bool) → (b || true) ≡ true
or-true true = refl
or-true false = refl

any-push : (xs : List ℕ) (x : ℕ) (b : Bool) → is_slash x ≡ b
    → list_any is_slash (xs ++ x ∷ []) ≡ (list_any is_slash xs || b)
any-push [] x b e = or-false (is_slash x) ∙ e
any-push (y ∷ ys) x b e = at (is_slash y) (any-push ys x b e)
  where
    at : (c : Bool) → list_any is_slash (ys ++ x ∷ []) ≡ (list_any is_slash ys || b)
        → (c || list_any is_slash (ys ++ x ∷ [])) ≡ ((c || list_any is_slash ys) || b)
    at true h = refl
    at false h = h

-- a byte that is no slash
pub folder_of-name : (xs : List ℕ) (x : ℕ) → is_slash x ≡ false → folder_of (xs ++ x ∷ []) ≡ folder_of xs
folder_of-name [] x e = ap (λ b. cond (b || false) (x ∷ []) []) e
folder_of-name (y ∷ ys) x e =
    ap (λ b. cond (is_slash y || b) (y ∷ folder_of (ys ++ x ∷ [])) [])
    (any-push ys x false e ∙ or-false (list_any is_slash ys))
    ∙ ap (λ l. cond (is_slash y || list_any is_slash ys) (y ∷ l) []) (folder_of-name ys x e)

-- a slash
pub folder_of-slash : (xs : List ℕ) (x : ℕ) → is_slash x ≡ true → folder_of (xs ++ x ∷ []) ≡ xs ++ x ∷ []
folder_of-slash [] x e = ap (λ b. cond (b || false) (x ∷ []) []) e
folder_of-slash (y ∷ ys) x e =
    ap (λ b. cond (is_slash y || b) (y ∷ folder_of (ys ++ x ∷ [])) [])
    (any-push ys x true e ∙ or-true (list_any is_slash ys))
    ∙ ap (λ b. cond b (y ∷ folder_of (ys ++ x ∷ [])) []) (or-true (is_slash y))
    ∙ ap (λ (l : List ℕ). y ∷ l) (folder_of-slash ys x e)

-- ---- the first bytes of a path

last_added : (path : List ℕ) (n : ℕ) → 0 < n → n ≤ length path
    → take n path ≡ take (n - 1) path ++ get_or path (n - 1) 0 ∷ []
last_added path n some within =
    let is : n ≡ n - 1 + 1 = omega arith in
    ap (λ (k : ℕ). take k path) is ∙ take_more path (n - 1) 0 (omega arith)

pub folder-shorter : (path : List ℕ) (n : ℕ) → 0 < n → n ≤ length path → is_slash (get_or path (n - 1) 0) ≡ false
    → folder_of (take (n - 1) path) ≡ folder_of (take n path)
folder-shorter path n some within e =
    sym (ap folder_of (last_added path n some within) ∙ folder_of-name (take (n - 1) path) (get_or path (n - 1) 0) e)

pub folder-found : (path : List ℕ) (n : ℕ) → 0 < n → n ≤ length path → is_slash (get_or path (n - 1) 0) ≡ true
    → folder_of (take n path) ≡ take n path
folder-found path n some within e =
    ap folder_of (last_added path n some within) ∙ folder_of-slash (take (n - 1) path) (get_or path (n - 1) 0) e
    ∙ sym (last_added path n some within)

pub folder-none : (path : List ℕ) (n : ℕ) → n ≤ 0 → take n path ≡ folder_of (take n path)
folder-none path zero h = refl
folder-none path (suc n) h = absurd (omega arith)
