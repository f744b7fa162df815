-- What a call answers that reads a part of a table from tokens.
use Rattle.std.specs.Prelude.{◌≡◌, ℕ, List, Option, Some}
use Rattle.json.specs.Json.{value}
use Rattle.json.specs.Token.{Token}
use Rattle.serde_json.specs.Data.{Data}
use Rattle.serde_json.specs.Read.{converted, of_json}

-- the next value, nested no deeper than `depth`, holds the part `x`; `rest` follows it
abbrev pub ReadsPart : {A : Type 0} → (Data → Option A) → ℕ → List Token → A → List Token → Type 0
ReadsPart shape depth tokens x rest =
    (d : Data) × (converted of_json (value depth tokens) ≡ Some (d, rest)) × (shape d ≡ Some x)
