-- The last of what elements give, where what a step kept is known by an equation.
use Rattle.std.proofs.Common.{◌≡◌, ℕ, ◌+◌, ◌<◌, List, length, get_or, Option, option_map, ap, ◌∙◌}
use Rattle.std.specs.Option.{option_or}
use Rattle.gimli_dwarf.proofs.LastAttributes.{result_of, from_index}
use Rattle.gimli_dwarf.proofs.LastAttributes as last

-- one step on, what all give is the same
pub from_index-more : {X Y A N : Type 0} (view : X → Y) (see : A → N) (F : Y → Option N) (found next latest : Option A)
    (xs : List X) (i : ℕ) (x : X) (all : Option N) → i < length xs → x ≡ get_or xs i x
    → result_of (F (view x)) ≡ result_of (option_map see next) → latest ≡ option_or next found
    → from_index view see F found xs i ≡ all → from_index view see F latest xs (i + 1) ≡ all
from_index-more view see F found next latest xs i x all below here gives is before =
    ap (λ o. from_index view see F o xs (i + 1)) is ∙ last.from_index-more view see F found next xs i x below here gives
    ∙ before
