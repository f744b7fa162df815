-- Paths from one state to another, and what is to come on them.
use Rattle.std.proofs.Common.{◌≡◌, ℕ, Bool, true, false, List, [], ◌∷◌, ◌++◌, map, Option, Some, None, Result, Ok, Err, IfErr, refl, sym, ap, subst, ◌∙◌}
use Rattle.std.specs.Result.{IsErrAnd}
use Rattle.gimli_lines_machine.specs.Error.{Error}
use Rattle.gimli_lines_machine.specs.Repetition.{answer}
use Rattle.gimli_lines_rows.specs.ProgramRows.{Row, RemainingRows, rows_to_come, last_row, next_step, OneStep, NextRow, Path, stays, shows, passes}
use Rattle.gimli_lines_rows.proofs.LineRowSteps.{come_row, come_without_row, come_nothing, step_end, step_fault}

-- the rows of a path come first, and then what comes after it
pub path_comes : {limit : ℕ} {s u : RemainingRows} {rows : List Row} → Path limit s rows u → rows_to_come limit s
    ≡ map answer rows ++ rows_to_come limit u
path_comes (stays s) = refl
path_comes {limit} (shows s t u rows e p) =
    come_row limit s t e ∙ ap (λ (xs : List (Result Row Error)). Ok (last_row t) ∷ xs) (path_comes p)
path_comes {limit} (passes s t u rows e p) = come_without_row limit s t e ∙ path_comes p

-- a further step
pub path_shows : {limit : ℕ} {s t u : RemainingRows} {rows : List Row} → Path limit s rows t → next_step limit t
    ≡ Ok (Some true, u) → Path limit s (rows ++ last_row u ∷ []) u
path_shows {u = u} (stays s) e = shows s u u [] e (stays u)
path_shows {u = u} (shows a b c rows f p) e = shows a b u (rows ++ last_row u ∷ []) f (path_shows p e)
path_shows {u = u} (passes a b c rows f p) e = passes a b u (rows ++ last_row u ∷ []) f (path_shows p e)

pub path_passes : {limit : ℕ} {s t u : RemainingRows} {rows : List Row} → Path limit s rows t → next_step limit t
    ≡ Ok (Some false, u) → Path limit s rows u
path_passes {u = u} (stays s) e = passes s u u [] e (stays u)
path_passes {u = u} (shows a b c rows f p) e = shows a b u rows f (path_passes p e)
path_passes {u = u} (passes a b c rows f p) e = passes a b u rows f (path_passes p e)

-- one path after another
pub path_path : {limit : ℕ} {s t u : RemainingRows} {rows more : List Row} → Path limit s rows t → Path limit t more u
    → Path limit s (rows ++ more) u
path_path (stays s) q = q
path_path {u = u} {more = more} (shows a b c rows f p) q = shows a b u (rows ++ more) f (path_path p q)
path_path {u = u} {more = more} (passes a b c rows f p) q = passes a b u (rows ++ more) f (path_path p q)

-- ---- what a search for the next row answers

-- a step was refused on the way
pub next_refused : (limit : ℕ) (r : Result Bool Error) (old mid new : RemainingRows) (d : Error)
    → IsErrAnd r (λ e. e ≡ d)
    → Path limit old [] mid → OneStep limit (Err d) mid new → NextRow limit r old new
next_refused limit (Ok x) old mid new d h p one = absurd h
next_refused limit (Err e) old mid new d h p one = (
  (λ ne.
      let s = one.0 (λ is. ne (h ∙ is)) in (
        path_comes p ∙ step_fault limit mid d s.0 ∙ ap (λ (x : Error). Err x ∷ []) (sym h),
        come_nothing limit new mid.rest (ap (λ (t : RemainingRows). t.rest) s.1),
      )),
  (λ is. ap (rows_to_come limit) (one.1 (sym h ∙ is)) ∙ sym (path_comes p)),
)

-- and that was the fault of an instruction
pub next_fault : (limit : ℕ) (r : Result Bool Error) (old mid : RemainingRows) (d : Error) → IsErrAnd r (λ e. e ≡ d)
    → Path limit old [] mid → next_step limit mid ≡ Err d → IfErr r (λ e. rows_to_come limit old ≡ Err e ∷ [])
next_fault limit (Ok x) old mid d h p fault = absurd h
next_fault limit (Err e) old mid d h p fault =
    path_comes p ∙ step_fault limit mid d fault ∙ ap (λ (x : Error). Err x ∷ []) (sym h)

-- there was no further instruction
pub next_none : (limit : ℕ) (old mid new : RemainingRows) → Path limit old [] mid → next_step limit mid ≡ Ok (None, new)
    → (rows_to_come limit old ≡ []) × (rows_to_come limit new ≡ [])
next_none limit old mid new p e =
    let s = step_end limit mid new e in
    (path_comes p ∙ s.0, ap (rows_to_come limit) (sym s.1) ∙ s.0)

abbrev step_result : Option Bool → RemainingRows → Result (Option Bool × RemainingRows) Error
step_result o s = Ok (o, s)

abbrev some_bool : Bool → Option Bool
some_bool b = Some b

-- what a step answered, by parts of its answer
pub next_step_as : (limit : ℕ) (s t : RemainingRows) (o : Option Bool) (b c : Bool) → next_step limit s ≡ Ok (o, t)
    → o ≡ Some b → b ≡ c → next_step limit s ≡ Ok (Some c, t)
next_step_as limit s t o b c e is same = e ∙ ap (λ (x : Option Bool). step_result x t) (is ∙ ap some_bool same)

pub answered_none : (limit : ℕ) (s t : RemainingRows) (o : Option Bool) → next_step limit s ≡ Ok (o, t) → o ≡ None
    → next_step limit s ≡ Ok (None, t)
answered_none limit s t o e is = e ∙ ap (λ (x : Option Bool). step_result x t) is

-- the path ends where there was no further instruction
pub path_ends : (limit : ℕ) (old mid new : RemainingRows) → Path limit old [] mid → next_step limit mid ≡ Ok (None, new)
    → Path limit old [] new × (next_step limit new ≡ Ok (None, new))
path_ends limit old mid new p e =
    let same : mid ≡ new = (step_end limit mid new e).1 in
    (subst (Path limit old []) same p, ap (next_step limit) (sym same) ∙ e)
