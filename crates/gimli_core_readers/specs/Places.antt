-- Places in the bytes of a view.
use Rattle.std.specs.Prelude.{◌≡◌, ◌≤◌, ℕ}
use Rattle.gimli_core_base.specs.View.{View, after, bytes_left}

-- w is what is left of v after some bytes
pub record IsAfter (v w : View) : Type 0 where
  pub count : ℕ
  pub within : count ≤ bytes_left v
  pub rest : after count v ≡ w
