-- Lists whose entries are counted as they are looked at, as contracts see them.
use Rattle.std.specs.Prelude.{ℕ, ◌+◌, List}

-- a counter: its name, and how many entries were looked at
pub record ProbeCount : Type 0 where
  pub name : ℕ
  pub count : ℕ

-- a maker of counters: their name, and how many it made
pub record CounterMaker : Type 0 where
  pub name : ℕ
  pub made : ℕ

-- it made one more
abbrev pub after_counter : CounterMaker → CounterMaker
after_counter m = record m { made = m.made + 1 }

-- a list, and the name of the counter that counts each look at it
pub record ProbedList (X : Type 0) : Type 0 where
  pub entries : List X
  pub counter : ℕ
