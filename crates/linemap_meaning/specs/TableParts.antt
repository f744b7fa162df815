-- A table as contracts see it: records over lists of bytes and numbers. A text is the list of its
-- bytes.
use Rattle.std.specs.Prelude.{ℕ, Bool, List}

-- the addresses from `begin` up to `end`, which is not among them
pub record RangePart : Type 0 where
  pub begin : ℕ
  pub end : ℕ

-- a source file; rows and calls name it by its index among its unit's files
pub record FilePart : Type 0 where
  pub directory : List ℕ
  pub name : List ℕ

-- the place in the source that the code from an address on belongs to, whether a statement is
-- recommended to begin there, and which of several blocks of that place it is
pub record RowPart : Type 0 where
  pub address : ℕ
  pub file : ℕ
  pub line : ℕ
  pub column : ℕ
  pub statement : Bool
  pub discriminator : ℕ

-- rows of a line table, and the address at which the last of them ends
pub record SequencePart : Type 0 where
  pub rows : List RowPart
  pub end : ℕ

-- one inlined call without the calls in it: what was called, the addresses of its body, and where
-- it was called
pub record Site : Type 0 where
  pub name : List ℕ
  pub ranges : List RangePart
  pub file : ℕ
  pub line : ℕ
  pub column : ℕ

-- calls in order, each with the calls inlined into it
pub data Calls : Type 0 where
  no_calls : Calls
  more_calls : (site : Site) (inner : Calls) (others : Calls) → Calls

-- one call: its site, and the calls inlined into it
pub record CallPart : Type 0 where
  pub site : Site
  pub inner : Calls

-- a function and the calls inlined into it
pub record FunctionPart : Type 0 where
  pub name : List ℕ
  pub ranges : List RangePart
  pub calls : Calls

-- a compilation unit
pub record UnitPart : Type 0 where
  pub directory : List ℕ
  pub name : List ℕ
  pub ranges : List RangePart
  pub files : List FilePart
  pub functions : List FunctionPart
  pub sequences : List SequencePart
