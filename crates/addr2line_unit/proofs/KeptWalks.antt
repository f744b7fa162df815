-- Walks over the lines that are kept of a unit are walks over its lines.
use Rattle.std.proofs.Common.{◌≡◌, ℕ, ◌+◌, true, Option, Some, None, is_some, IfSome, Result, Ok, Err, refl, sym, ap, ◌∙◌, subst, arith}
use Rattle.std.specs.Prelude.{MatchOption}
use Rattle.addr2line_functions.specs.Error.{Error}
use Rattle.addr2line_functions.specs.Lines.{Lines}
use Rattle.addr2line_functions.specs.LineCursor.{LineCursor}
use Rattle.addr2line_functions.specs.LineCursors.{probes_from}
use Rattle.addr2line_functions.specs.RowStretch.{RowStretch}
use Rattle.addr2line_root.specs.LineIndexes.{CountedLines, counted_lines}
use Rattle.addr2line_root.specs.ProbedLists.{ProbeCount}
use Rattle.addr2line_root.specs.Searches.{AtMostProbes}
use Rattle.addr2line_unit.specs.LineWalks.{plain_lines, cursor_probes, StepsOn}
use Rattle.addr2line_unit.specs.ResolvedUnits.{IsKeptOf}

-- a step counts on the same counter
pub step_name : (old new : ProbeCount) (c : LineCursor) (x : Result Lines Error)
    (f : Option (RowStretch × LineCursor)) → StepsOn c x f old new → new.name ≡ old.name
step_name old new c (Ok l) None steps = steps.0
step_name old new c (Ok l) (Some f) steps = steps.0
step_name old new c (Err e) f steps = steps.0

plain_counted : (counter : ℕ) (x : Result Lines Error) → plain_lines (counted_lines counter x) ≡ x
plain_counted counter (Ok l) = refl
plain_counted counter (Err e) = refl

module _ (counter : ℕ) (x : Result Lines Error) where
  plain_kept : (y : Result CountedLines Error) → y ≡ counted_lines counter x → plain_lines y ≡ x
  plain_kept y is = ap plain_lines is ∙ plain_counted counter x

  -- what holds of lines that are kept holds of the unit's
  pub of_kept : (P : Result Lines Error → Type 0) (o : Option (Result CountedLines Error))
      → IsKeptOf (counted_lines counter x) o → is_some o ≡ true → IfSome o (λ y. P (plain_lines y)) → P x
  of_kept P None is kept h = absurd cc
  of_kept P (Some y) is kept h = subst P (plain_kept y is) h

  -- ---- looks

  module _ (old new : ProbeCount) where
    -- none
    no_looks : (n : ℕ) → new ≡ old → AtMostProbes n old new
    no_looks n same =
        let count : new.count ≡ old.count = ap (λ (p : ProbeCount). p.count) same in
        (ap (λ (p : ProbeCount). p.name) same, omega arith)

    -- those for a cursor
    pub cursor_looks : (o : Option (Result CountedLines Error)) → IsKeptOf (counted_lines counter x) o
        → MatchOption o (new ≡ old) (λ y. AtMostProbes (cursor_probes (plain_lines y)) old new)
        → AtMostProbes (cursor_probes x) old new
    cursor_looks None is same = no_looks (cursor_probes x) same
    cursor_looks (Some y) is most =
        let P : Result Lines Error → Type 0 = λ r. AtMostProbes (cursor_probes r) old new in
        subst P (plain_kept y is) most

    -- those for a step
    module _ (c : LineCursor) where
      no_step : (r : Result Lines Error) → new ≡ old → StepsOn c r None old new
      no_step (Ok l) same = no_looks (probes_from l c.next + 3) same
      no_step (Err e) same = no_looks 0 same

      pub step_looks : (f : Option (RowStretch × LineCursor)) (o : Option (Result CountedLines Error))
          → IsKeptOf (counted_lines counter x) o
          → MatchOption o ((f ≡ None) × (new ≡ old)) (λ y. StepsOn c (plain_lines y) f old new)
          → StepsOn c x f old new
      step_looks f None is none =
          let P : Option (RowStretch × LineCursor) → Type 0 = λ r. StepsOn c x r old new in
          subst P (sym none.0) (no_step x none.1)
      step_looks f (Some y) is steps =
          let P : Result Lines Error → Type 0 = λ r. StepsOn c r f old new in
          subst P (plain_kept y is) steps
