-- Stable sorting: lists in an order, where what ties keeps its order.
use Rattle.std.specs.Prelude.{Bool, List, [], ◌∷◌, if◌then◌else◌}

-- an item inserted before the first that it doesn't have to come after
abbrev pub put_in_order : {X : Type 0} → (X → X → Bool) → X → List X → List X
put_in_order comes_after x [] = x ∷ []
put_in_order comes_after x (y ∷ ys) =
    if comes_after x y then y ∷ put_in_order comes_after x ys else x ∷ y ∷ ys

abbrev pub in_order : {X : Type 0} → (X → X → Bool) → List X → List X
in_order comes_after [] = []
in_order comes_after (x ∷ xs) = put_in_order comes_after x (in_order comes_after xs)
