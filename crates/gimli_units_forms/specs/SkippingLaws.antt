-- What skipping attributes means for the bytes: those between two places where bytes must be looked
-- at are one run.
use Rattle.std.specs.Prelude.{◌≡◌, ◌≤◌, ◌<◌, ◌+◌, ◌++◌, ◌^◌, ℕ, List, [], ◌∷◌, map, sum, None, Some, Result, Ok, Err}
use Rattle.gimli_core_abbrev.specs.Error.{Error}
use Rattle.gimli_core_abbrev.specs.Error.TheVariants.{OffsetSumOverflow}
use Rattle.gimli_core_abbrev.specs.View.{View, after, bytes_left, unexpected_end}
use Rattle.gimli_core_abbrev.specs.Parsers.{Parser, ◌>>=◌}
use Rattle.gimli_core_abbrev.specs.Encoding.{Encoding}
use Rattle.gimli_core_abbrev.specs.Declarations.{Attribute}
use Rattle.gimli_core_abbrev.specs.FormWidths.{attribute_width}
use Rattle.gimli_units_forms.specs.AttributeSkipping.{way_of, look_at_value, skip_ways, skip_values}

-- no values, or first one whose bytes must be looked at
abbrev pub BeginsWithLook : Encoding → List Attribute → Type 0
BeginsWithLook e [] = Unit {0}
BeginsWithLook e (s ∷ ss) = attribute_width e s ≡ None

-- skips n bytes, and then the values that declarations describe
abbrev pub skip_bytes_and_values : ℕ → Encoding → List Attribute → Parser (Unit {0})
skip_bytes_and_values n e specifications = skip_ways n (map (λ s. way_of e s.form) specifications)

-- This is what skipping n bytes in one run, and then these values, comes to.
pub record IsOneRun (n : ℕ) (e : Encoding) (rest : List Attribute) (v : View)
    (result : Result (Unit {0} × View) Error) : Type 0 where
  -- where the bytes are there, the values follow
  pub whole : n ≤ bytes_left v → result ≡ skip_values e rest (after n v)
  -- a run that is cut is refused where it begins
  pub cut : bytes_left v < n → n < 2 ^ 64 → result ≡ Err (unexpected_end v)
  -- and so is one wider than 64 bits
  pub wide : bytes_left v < n → 2 ^ 64 ≤ n → result ≡ Err OffsetSumOverflow

-- Values of known widths are one run, with the bytes before them, up to a value that must be looked
-- at.
abbrev pub WidthsAreOneRun : Type 0
WidthsAreOneRun = (n : ℕ) (e : Encoding) (fixed rest : List Attribute) (widths : List ℕ) (v : View)
    → map (attribute_width e) fixed ≡ map Some widths → BeginsWithLook e rest
    → IsOneRun (n + sum widths) e rest v (skip_bytes_and_values n e (fixed ++ rest) v)

-- A look at a value says how many bytes the next run begins with.
abbrev pub LooksBeginRuns : Type 0
LooksBeginRuns = (e : Encoding) (s : Attribute) (ss : List Attribute) (v : View)
    → attribute_width e s ≡ None → skip_values e (s ∷ ss) v
    ≡ (look_at_value e s.form >>= λ n. skip_bytes_and_values n e ss) v

-- No values take no bytes.
abbrev pub NothingIsSkipped : Type 0
NothingIsSkipped = (e : Encoding) (v : View) → skip_values e [] v ≡ Ok (tt, v)

-- the whole law, which says what skipping gives for any list of declarations
pub record SkipsByRuns : Type 0 where
  pub widths : WidthsAreOneRun
  pub looks : LooksBeginRuns
  pub nothing : NothingIsSkipped
