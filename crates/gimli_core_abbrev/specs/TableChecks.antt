-- What is asked of a table that isn't kept: whether it can be read, and one of its declarations.
use Rattle.std.specs.Prelude.{◌≡◌, ◌≢◌, ◌≤◌, ℕ, ◌+◌, List, length, Option, Some, None, Result, Ok, Err}
use Rattle.std.specs.List.{slice_get}
use Rattle.gimli_core_readers.specs.Error.{Error}
use Rattle.gimli_core_readers.specs.View.{View, bytes_left}
use Rattle.gimli_core_readers.specs.Parsers.{value_of}
use Rattle.gimli_core_readers.specs.Repetition.{prepend, listing_in}
use Rattle.gimli_core_readers.specs.Results.{and_then}
use Rattle.gimli_core_abbrev.specs.declared.checks.Skipped.{Skipped}
use Rattle.gimli_core_abbrev.specs.declared.checks.Skipped.TheVariants.{Ended, Counted, Unordered}
use Rattle.gimli_core_abbrev.specs.declared.checks.CodePlace.{CodePlace}
use Rattle.gimli_core_abbrev.specs.declared.checks.CodePlace.TheVariants.{Here, Nowhere, NotInOrder}
use Rattle.gimli_core_abbrev.specs.Declarations.{Declaration, declaration_at}
use Rattle.gimli_core_abbrev.specs.TableParsing.{declaration, table}

-- ---- what is asked

-- the declaration of a code, if the table can be read and has one
abbrev pub find_declaration : ℕ → Result (List Declaration) Error
    → Result (Option Declaration) Error
find_declaration code table = and_then table (λ ds. Ok (declaration_at code ds))

-- there is none, or the table can't be read
abbrev pub FindsNone : Result (Option Declaration) Error → Type 0
FindsNone found = (d : Declaration) → found ≢ Ok (Some d)

-- the codes are 1, 2, ..
abbrev pub IsInOrder : List Declaration → Type 0
IsInOrder ds = (place : ℕ) (d : Declaration) → slice_get ds place ≡ Some d → d.code ≡ place + 1

-- ---- declarations that are skipped

-- Between two views are declarations, whose codes are the next ones in order.
pub record IsRun (first : ℕ) (v w : View) : Type 0 where
  pub declarations : List Declaration
  pub listing : prepend declarations (listing_in bytes_left declaration w)
      ≡ listing_in bytes_left declaration v
  pub in_order : (place : ℕ) (d : Declaration) → slice_get declarations place ≡ Some d
      → d.code ≡ first + place + 1
  pub sizes : length declarations + bytes_left w ≤ bytes_left v

-- What was skipped from v on, up to w: to the end, or so many, or to a code that isn't the next. A
-- refusal is that of a declaration.
abbrev pub SkipsInOrder : ℕ → ℕ → Result Skipped Error → View → View → Type 0
SkipsInOrder first limit (Ok Ended) v w =
    (u : View) × (run : IsRun first v u) × (first + length run.declarations ≤ limit)
    × (declaration u ≡ Ok (None, w))
SkipsInOrder first limit (Ok Counted) v w =
    (run : IsRun first v w) × (first + length run.declarations ≡ limit)
SkipsInOrder first limit (Ok Unordered) v w =
    (u : View) × (run : IsRun first v u) × (d : Declaration)
    × (declaration u ≡ Ok (Some d, w)) × (d.code ≢ first + length run.declarations + 1)
SkipsInOrder first limit (Err e) v w = (u : View) × IsRun first v u × (declaration u ≡ Err e)

-- What a table that begins at v says of a code. Where it has the code, its declaration begins at
-- w. A refusal is that of the table.
abbrev pub SeeksInOrder : ℕ → Result CodePlace Error → View → View → Type 0
SeeksInOrder code (Ok Here) v w =
    (d : Declaration) × (u : View) × (declaration w ≡ Ok (Some d, u))
    × (find_declaration code (value_of (table v)) ≡ Ok (Some d))
SeeksInOrder code (Ok Nowhere) v w = find_declaration code (value_of (table v)) ≡ Ok None
SeeksInOrder code (Ok NotInOrder) v w = ¬ IsInOrder (listing_in bytes_left declaration v).items
SeeksInOrder code (Err e) v w = find_declaration code (value_of (table v)) ≡ Err e
