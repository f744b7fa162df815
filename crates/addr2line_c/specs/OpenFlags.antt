-- The flags that files are opened by.
use Rattle.std.specs.Prelude.{ℕ, ◌==◌, not, bit_and, Bool, true, false, List, Option, Some, None}
use Rattle.addr2line_c.specs.declared.open_with.TheConstants.{SUP}

-- whether a number has a flag, which is one of its bits
abbrev pub has_flag : ℕ → ℕ → Bool
has_flag flags flag = not (bit_and flags flag == 0)

-- a value, if it counts
abbrev pub if_any : {A : Type 0} → Bool → A → Option A
if_any true x = Some x
if_any false x = None

-- a supplement, if the flags have one
abbrev pub sup_by : ℕ → List ℕ → Option (List ℕ)
sup_by flags sup = if_any (has_flag flags SUP) sup
