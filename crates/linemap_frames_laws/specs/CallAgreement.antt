-- Functions and calls whose debug information says what a table says.
use Rattle.std.specs.Prelude.{◌≡◌, ℕ, ◌+◌, List, [], ◌∷◌, ◌++◌, map, Option, Some, None, option_map, Result, Ok}
use Rattle.linemap_places_laws.specs.Error.{Error}
use Rattle.linemap_places_laws.specs.View.{View}
use Rattle.linemap_places_laws.specs.Functions.{Function}
use Rattle.linemap_places_laws.specs.InlinedCalls.{Call, FunctionCalls}
use Rattle.linemap_places_laws.specs.TableParts.{Site, Calls, no_calls, more_calls, FunctionPart}
use Rattle.linemap_places_laws.specs.LookupAgreement.{lookup_range}

-- ---- lists and options side by side

-- two lists of the same length, whose items are related one by one
abbrev pub OneByOne : {A B : Type 0} → (A → B → Type 0) → List A → List B → Type 0
OneByOne R [] [] = Unit {0}
OneByOne R [] (y ∷ ys) = ⊥
OneByOne R (x ∷ xs) [] = ⊥
OneByOne R (x ∷ xs) (y ∷ ys) = R x y × OneByOne R xs ys

-- both are there, and related, or neither is
abbrev pub Likewise : {A B : Type 0} → (A → B → Type 0) → Option A → Option B → Type 0
Likewise R None None = Unit {0}
Likewise R None (Some y) = ⊥
Likewise R (Some x) None = ⊥
Likewise R (Some x) (Some y) = R x y

-- ---- calls

-- a call of a table, and its depth
pub record CallAtDepth : Type 0 where
  pub depth : ℕ
  pub site : Site

-- the calls of a table in order of appearance: each, then those inlined into it, one deeper, then
-- those after it
abbrev pub calls_at_depth : ℕ → Calls → List CallAtDepth
calls_at_depth depth no_calls = []
calls_at_depth depth (more_calls site inner others) =
    record { depth = depth; site = site }
    ∷ (calls_at_depth (depth + 1) inner ++ calls_at_depth depth others)

-- calls each of which is in the one before
abbrev pub nested_calls : ℕ → List Site → List CallAtDepth
nested_calls depth [] = []
nested_calls depth (s ∷ ss) = record { depth = depth; site = s } ∷ nested_calls (depth + 1) ss

-- the name is there, and has these bytes
abbrev pub HasName : List ℕ → Option View → Type 0
HasName bytes name = option_map (λ v. v.bytes) name ≡ Some bytes

-- a call says what the table says of it, wherever its entry is; its file has a number
pub record CallAgrees (number : ℕ → ℕ) (p : CallAtDepth) (c : Call) : Type 0 where
  pub depth_is : c.depth ≡ p.depth
  pub ranges_agree : c.ranges ≡ map lookup_range p.site.ranges
  pub name_is : HasName p.site.name c.name
  pub file_is : c.file ≡ Some (number p.site.file)
  pub line_is : c.line ≡ p.site.line
  pub column_is : c.column ≡ p.site.column

-- the flat list of the calls of a table, the first of which have a depth
abbrev pub CallsAgree : (ℕ → ℕ) → ℕ → Calls → List Call → Type 0
CallsAgree number depth calls flat = OneByOne (CallAgrees number) (calls_at_depth depth calls) flat

-- calls of a table each of which is in the one before
abbrev pub ChainAgrees : (ℕ → ℕ) → ℕ → List Site → List Call → Type 0
ChainAgrees number depth sites chain = OneByOne (CallAgrees number) (nested_calls depth sites) chain

-- ---- functions

-- a function's entry says what the table says of it: its name, and its calls
pub record EntryAgrees (number : ℕ → ℕ) (f : FunctionPart) (entry : FunctionCalls) : Type 0 where
  pub name_is : HasName f.name entry.name
  pub calls_are : CallsAgree number 0 f.calls entry.calls

-- a function says what the table says of it: it has its ranges, and its entry, wherever it is, has
-- the rest
pub record FunctionAgrees (number : ℕ → ℕ) (at : ℕ → Result FunctionCalls Error) (f : FunctionPart)
    (g : Function) : Type 0 where
  pub ranges_agree : g.ranges ≡ map lookup_range f.ranges
  pub entry : FunctionCalls
  pub at_entry : at g.offset ≡ Ok entry
  pub entry_agrees : EntryAgrees number f entry

-- the functions of a unit, in order of appearance
abbrev pub FunctionsAgree : (ℕ → ℕ) → (ℕ → Result FunctionCalls Error)
    → List FunctionPart → List Function → Type 0
FunctionsAgree number at fs gs = OneByOne (FunctionAgrees number at) fs gs
