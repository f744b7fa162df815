-- The greatest address up to each row, by which rows are searched also where they go back.
use Rattle.std.specs.Prelude.{ℕ, max, List, [], ◌∷◌}
use Rattle.addr2line_spec.specs.Lines.{LineRow}

-- the greatest address up to each of some rows, after rows of which the greatest is known
abbrev pub greatest_after : ℕ → List LineRow → List ℕ
greatest_after greatest [] = []
greatest_after greatest (r ∷ rs) =
    max greatest r.address ∷ greatest_after (max greatest r.address) rs
