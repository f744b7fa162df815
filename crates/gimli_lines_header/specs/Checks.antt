-- Reading whose value is dropped: what a check promises.
use Rattle.gimli_units_headers.specs.Parsers.{Step, map_value}

-- a step without its value
abbrev pub check : {S A : Type 0} → Step S A → Step S (Unit {0})
check p = map_value (λ _. tt) p
