-- Lists of parts, read one after the other.
use Rattle.std.proofs.Common.{◌≡◌, List, [], ◌∷◌, ◌++◌, map, Option, Some, None, option_map, option_and_then, refl, sym, ap, ◌∙◌}
use Rattle.std.proofs.lemmas.List.{map-append}
use Rattle.serde_json.specs.Data.{Data}
use Rattle.serde_json.specs.View.{items_of}
use Rattle.linemap_table.specs.JsonShapes.{each}

-- the second after the first, if there are both
abbrev and_last : {A : Type 0} → Option (List A) → Option A → Option (List A)
and_last first last = option_and_then (λ xs. option_map (λ x. xs ++ x ∷ []) last) first

only_last : {A : Type 0} (last : Option A)
    → option_and_then (λ x. option_and_then (λ xs. Some (x ∷ xs)) (Some [])) last ≡ and_last (Some []) last
only_last None = refl
only_last (Some x) = refl

after_first : {A : Type 0} (first : Option A) (rest all : Option (List A)) (last : Option A)
    → all ≡ and_last rest last
    → option_and_then (λ y. option_and_then (λ ys. Some (y ∷ ys)) all) first
    ≡ and_last (option_and_then (λ y. option_and_then (λ ys. Some (y ∷ ys)) rest) first) last
after_first None rest all last e = refl
after_first (Some y) None all last e = rw e
after_first (Some y) (Some ys) all None e = rw e
after_first (Some y) (Some ys) all (Some x) e = rw e

each-last : {A : Type 0} (shape : Data → Option A) (ds : List Data) (d : Data)
    → each shape (items_of (ds ++ d ∷ [])) ≡ and_last (each shape (items_of ds)) (shape d)
each-last shape [] d = only_last (shape d)
each-last shape (e ∷ ds) d = after_first (shape e) _ _ (shape d) (each-last shape ds d)

-- one more item, which holds one more part
pub each-goes_on : {A B : Type 0} (part : A → B) (shape : Data → Option B) (ds : List Data) (parts : List A)
    (d : Data) (x : A) → each shape (items_of ds) ≡ Some (map part parts) → shape d ≡ Some (part x)
    → each shape (items_of (ds ++ d ∷ [])) ≡ Some (map part (parts ++ x ∷ []))
each-goes_on part shape ds parts d x so_far found =
    each-last shape ds d ∙ rw (so_far, found) (ap Some (sym (map-append part parts (x ∷ []))))
