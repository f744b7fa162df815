-- Steps of instructions that are read and executed at once.
use Rattle.std.proofs.Common.{◌≡◌, ◌≢◌, ℕ, ◌-◌, ◌<◌, ◌≤◌, Bool, true, false, cond, not, ◌&&◌, List, [], ◌∷◌, length, Option, Some, None, Result, Ok, Err, refl, sym, ap, subst, ◌∙◌, arith, length-drop}
use Rattle.std.proofs.lemmas.Bool.{ne_eqb}
use Rattle.gimli_lines_machine.specs.Error.{Error}
use Rattle.gimli_lines_machine.specs.View.{View, after, bytes_left}
use Rattle.gimli_lines_machine.proofs.StepParts.{value_is, state_is}
use Rattle.gimli_lines_header.specs.LineFiles.{FileFacts, file_in}
use Rattle.gimli_lines_header.specs.LineHeaders.{LineHeader}
use Rattle.gimli_lines_machine.specs.declared.registers.Registers.{Registers}
use Rattle.gimli_lines_machine.specs.LineInstructions.{InstructionOf, define_file, file_definition}
use Rattle.gimli_lines_machine.specs.Machine.{registers_after, after_row, gives_row}
use Rattle.gimli_lines_machine.specs.declared.rules.LineRules.{LineRules}
use Rattle.gimli_lines_machine.specs.Decoding.{instruction_with}
use Rattle.gimli_lines_machine.proofs.CutInstructions.{cut-instruction}
use Rattle.gimli_lines_rows.specs.ProgramInstructions.{rules_of, instruction_in, next_instruction, with_rest}
use Rattle.gimli_lines_rows.specs.ProgramRows.{Row, RemainingRows, header_after, step_of, step_to, next_step, last_row, Path}
use Rattle.gimli_lines_rows.specs.NumericSteps.{Effect, effect_to, effect_of, numeric_effect, rows_at, StepsAtOnce, RunsToRow}
use Rattle.gimli_lines_rows.proofs.LineRowSteps.{step_smaller}
use Rattle.gimli_lines_rows.proofs.ResumedRows.{no_more, more, path_took, path_at_most}

-- ---- an instruction

header_same : (takes_files : Bool) (i : InstructionOf FileFacts) (h : LineHeader) → file_definition i ≡ None
    → header_after takes_files i h ≡ h
header_same takes_files (define_file file) h e = absurd cc
header_same takes_files _ h e = refl

-- what was read is the next instruction
read_next : (limit : ℕ) (h : LineHeader) (v w : View) (i : InstructionOf FileFacts) → instruction_in limit h v
    ≡ Ok (i, w) → next_instruction limit h v ≡ Ok (Some i, w)
read_next limit h v w i e =
    let k = (cut-instruction file_in limit (rules_of h) h.standard_opcode_lengths.bytes).each v w i e in
    let some : 1 ≤ k.count = k.some in
    let fits : k.count ≤ bytes_left v = k.fits in
    let long : length v.bytes ≢ 0 = omega arith in
    ap (λ (b : Bool). cond b (no_more v) (more (instruction_in limit h v))) (ne_eqb (length v.bytes) 0 long)
    ∙ ap more e

-- ---- its effect

abbrev result_of : Effect → View → Result (Effect × View) Error
result_of x w = Ok (x, w)

-- the state after an instruction with these registers, of which b says whether it gives a row
abbrev pub at_once : LineHeader → Bool → Registers → View → Bool → Registers → View → RemainingRows
at_once h takes_files last v b r w =
    rows_at h takes_files (cond b (after_row (rules_of h) r) r) (cond (b && not r.is_hidden) r last) w

abbrev step_result : Bool → RemainingRows → Result (Option Bool × RemainingRows) Error
step_result b s = Ok (Some b, s)

-- the step of an effect
pub step_of_effect : (limit : ℕ) (h : LineHeader) (takes_files : Bool) (r last : Registers) (v w : View) (b : Bool)
    (after : Registers) → effect_of (rules_of h) r (instruction_in limit h v) ≡ Ok (numeric_effect b after, w)
    → next_step limit (rows_at h takes_files r last v)
    ≡ Ok (Some (b && not after.is_hidden), at_once h takes_files last v b after w)
step_of_effect limit h takes_files r last v w b after e = by_read (instruction_in limit h v) refl e
  where
    by_change : (i : InstructionOf FileFacts) (x : View) (c : Result Registers Error) → instruction_in limit h v
        ≡ Ok (i, x) → registers_after (rules_of h) i r ≡ c → effect_to i x c ≡ Ok (numeric_effect b after, w)
        → next_step limit (rows_at h takes_files r last v)
        ≡ Ok (Some (b && not after.is_hidden), at_once h takes_files last v b after w)
    by_change i x (Err d) was_read c k = absurd cc
    by_change i x (Ok a) was_read c k =
        let found : Effect = record { file = file_definition i; gives_row = gives_row i; registers = a } in
        let same : found ≡ numeric_effect b after = value_is found (numeric_effect b after) x w k in
        let rest : x ≡ w = state_is found (numeric_effect b after) x w k in
        let s = rows_at h takes_files r last v in
        ap (step_of s) (ap with_rest (read_next limit h v x i was_read))
        ∙ ap (step_to s i x) c
        ∙ ap (λ (g : LineHeader). step_result (gives_row i && not a.is_hidden) (rows_at g takes_files
        (cond (gives_row i) (after_row (rules_of h) a) a) (cond (gives_row i && not a.is_hidden) a last) x))
        (header_same takes_files i h (ap (λ (f : Effect). f.file) same))
        ∙ ap (λ (y : View). step_result (gives_row i && not a.is_hidden)
        (at_once h takes_files last v (gives_row i) a y)) rest
        ∙ ap (λ (f : Effect). step_result (f.gives_row && not f.registers.is_hidden)
        (at_once h takes_files last v f.gives_row f.registers w)) same

    by_read : (c : Result (InstructionOf FileFacts × View) Error) → instruction_in limit h v ≡ c
        → effect_of (rules_of h) r c ≡ Ok (numeric_effect b after, w)
        → next_step limit (rows_at h takes_files r last v)
        ≡ Ok (Some (b && not after.is_hidden), at_once h takes_files last v b after w)
    by_read (Err d) was_read k = absurd cc
    by_read (Ok p) was_read k = by_change p.0 p.1 (registers_after (rules_of h) p.0 r) was_read refl k

-- an effect under the rules of a header
effect_under : (limit : ℕ) (h : LineHeader) (rules : LineRules) (r : Registers) (v w : View) (after : Registers)
    (b c : Bool) → rules ≡ rules_of h → b ≡ c
    → effect_of rules r (instruction_with file_in limit rules h.standard_opcode_lengths.bytes v)
    ≡ Ok (numeric_effect b after, w) → effect_of (rules_of h) r (instruction_in limit h v)
    ≡ Ok (numeric_effect c after, w)
effect_under limit h rules r v w after b c same is e =
    subst (λ (x : LineRules). effect_of x r (instruction_with file_in limit x h.standard_opcode_lengths.bytes v)
    ≡ Ok (numeric_effect c after, w)) same
    (e ∙ ap (λ (x : Bool). result_of (numeric_effect x after) w) is)

-- an instruction that gives no row
pub steps_without_row : (limit : ℕ) (h : LineHeader) (rules : LineRules) (r last : Registers) (v w : View)
    (after : Registers) (b : Bool) → rules ≡ rules_of h → b ≡ false
    → effect_of rules r (instruction_with file_in limit rules h.standard_opcode_lengths.bytes v)
    ≡ Ok (numeric_effect b after, w) → StepsAtOnce limit h (Some false) r last v after last w
steps_without_row limit h rules r last v w after b same is e =
    λ takes_files. step_of_effect limit h takes_files r last v w false after
    (effect_under limit h rules r v w after b false same is e)

-- one that gives a row, which is then ended
pub steps_row : (limit : ℕ) (h : LineHeader) (rules : LineRules) (r last : Registers) (v w : View)
    (after r1 last1 : Registers) (b shown : Bool) → rules ≡ rules_of h → b ≡ true
    → effect_of rules r (instruction_with file_in limit rules h.standard_opcode_lengths.bytes v)
    ≡ Ok (numeric_effect b after, w) → shown ≡ not after.is_hidden → last1 ≡ cond (not after.is_hidden) after last
    → r1 ≡ after_row rules after → StepsAtOnce limit h (Some shown) r last v r1 last1 w
steps_row limit h rules r last v w after r1 last1 b shown same is e is_shown row_is cleared =
    λ takes_files.
    step_of_effect limit h takes_files r last v w true after
    (effect_under limit h rules r v w after b true same is e)
    ∙ ap (λ (x : Bool). step_result x
    (rows_at h takes_files (after_row (rules_of h) after) (cond (not after.is_hidden) after last) w)) (sym is_shown)
    ∙ ap (λ (x : Registers). step_result shown
    (rows_at h takes_files (after_row (rules_of h) after) x w)) (sym row_is)
    ∙ ap (λ (x : LineRules). step_result shown (rows_at h takes_files (after_row x after) last1 w)) (sym same)
    ∙ ap (λ (x : Registers). step_result shown (rows_at h takes_files x last1 w)) (sym cleared)

-- ---- bytes

-- the bytes that a path leaves
pub path_leaves : {limit : ℕ} {s u : RemainingRows} {rows : List Row} → Path limit s rows u
    → u.rest ≡ after (bytes_left s.rest - bytes_left u.rest) s.rest
path_leaves {s = s} {u = u} p =
    let t = path_took p in
    let fits : t.count ≤ bytes_left s.rest = t.fits in
    let left : bytes_left u.rest ≡ bytes_left s.rest - t.count = ap bytes_left t.rest
    ∙ length-drop t.count s.rest.bytes in
    let same : t.count ≡ bytes_left s.rest - bytes_left u.rest = omega arith in
    t.rest ∙ ap (λ (n : ℕ). after n s.rest) same

-- ---- runs

-- what a step at once was
pub step_at : (limit : ℕ) (h : LineHeader) (o : Option Bool) (b : Bool) (r last r1 last1 : Registers) (v w : View)
    → o ≡ Some b → StepsAtOnce limit h o r last v r1 last1 w → (takes_files : Bool)
    → next_step limit (rows_at h takes_files r last v) ≡ Ok (Some b, rows_at h takes_files r1 last1 w)
step_at limit h o b r last r1 last1 v w is e =
    subst (λ (x : Option Bool). StepsAtOnce limit h x r last v r1 last1 w) is e

-- where there was none
pub no_step_at : (limit : ℕ) (h : LineHeader) (o : Option Bool) (r last r1 last1 : Registers) (v w : View) → o ≡ None
    → StepsAtOnce limit h o r last v r1 last1 w → (takes_files : Bool) → rows_at h takes_files r last v
    ≡ rows_at h takes_files r1 last1 w
no_step_at limit h o r last r1 last1 v w is e takes_files =
    let same = subst (λ (x : Option Bool). StepsAtOnce limit h x r last v r1 last1 w) is e in
    ap (λ (x : Registers). rows_at h takes_files x last v) (sym same.0)
    ∙ ap (λ (x : Registers). rows_at h takes_files r1 x v) (sym same.1)
    ∙ ap (rows_at h takes_files r1 last1) (sym same.2)

-- a run fits the bytes before it
pub run_fits : (limit : ℕ) (b : Bool) (h : LineHeader) (r last r1 last1 : Registers) (v w : View)
    (before left : List ℕ) → before ≡ v.bytes → left ≡ w.bytes
    → ((takes_files : Bool) → RunsToRow limit b (rows_at h takes_files r last v) (rows_at h takes_files r1 last1 w))
    → length left ≤ length before
run_fits limit b h r last r1 last1 v w before left before_is left_is run =
    let fits : bytes_left w ≤ bytes_left v = path_at_most (run true).0 in
    let all : length before ≡ bytes_left v = ap length before_is in
    let rest : length left ≡ bytes_left w = ap length left_is in
    omega arith

-- what holds of a run over bytes that were borrowed from a reader of rows holds of the reader
pub over_reader : (Q : RemainingRows → RemainingRows → Type 0) (s : RemainingRows) (h h1 : LineHeader)
    (takes_files : Bool) (r last r1 last1 : Registers) (v v1 w w1 : View) (before left : List ℕ)
    → rows_at h1 takes_files r last v1 ≡ s → h ≡ h1 → v ≡ v1 → before ≡ v.bytes → left ≡ w.bytes
    → w1 ≡ after (length before - length left) v1 → w ≡ after (bytes_left v - bytes_left w) v
    → Q (rows_at h takes_files r last v) (rows_at h takes_files r1 last1 w)
    → Q s (rows_at h1 takes_files r1 last1 w1)
over_reader Q s h h1 takes_files r last r1 last1 v v1 w w1 before left from same_header same before_is left_is at leaves
    run =
    let all : length before ≡ bytes_left v = ap length before_is in
    let rest : length left ≡ bytes_left w = ap length left_is in
    let took : length before - length left ≡ bytes_left v - bytes_left w = omega arith in
    let left_over : w1 ≡ w = at ∙ ap (λ (n : ℕ). after n v1) took
    ∙ ap (after (bytes_left v - bytes_left w)) (sym same) ∙ sym leaves in
    subst (λ (x : RemainingRows). Q x (rows_at h1 takes_files r1 last1 w1)) from
    (subst (λ (x : View). Q (rows_at h1 takes_files r last v1) (rows_at h1 takes_files r1 last1 x)) (sym left_over)
    (subst (λ (x : View). Q (rows_at h1 takes_files r last x) (rows_at h1 takes_files r1 last1 w)) same
    (subst (λ (x : LineHeader). Q (rows_at x takes_files r last v) (rows_at x takes_files r1 last1 w)) same_header
    run)))

-- the run of a reader of rows, over bytes that were borrowed from it
pub run_over : (limit : ℕ) (b : Bool) (s : RemainingRows) (h h1 : LineHeader) (takes_files : Bool)
    (r last r1 last1 : Registers) (v v1 w w1 : View) (before left : List ℕ) → rows_at h1 takes_files r last v1 ≡ s
    → h ≡ h1 → v ≡ v1 → before ≡ v.bytes → left ≡ w.bytes → w1 ≡ after (length before - length left) v1
    → ((takes : Bool) → RunsToRow limit b (rows_at h takes r last v) (rows_at h takes r1 last1 w))
    → RunsToRow limit b s (rows_at h1 takes_files r1 last1 w1)
run_over limit b s h h1 takes_files r last r1 last1 v v1 w w1 before left from same_header same before_is left_is at
    run =
    over_reader (RunsToRow limit b) s h h1 takes_files r last r1 last1 v v1 w w1 before left from same_header same
    before_is left_is at (path_leaves (run true).0) (run takes_files)

-- what a run was that found a row
pub run_found : (limit : ℕ) (b : Bool) (s t : RemainingRows) → b ≡ true → RunsToRow limit b s t
    → Path limit s (last_row t ∷ []) t × (t.registers ≡ after_row (rules_of t.header) t.last)
run_found limit b s t is run = subst (λ (x : Bool). RunsToRow limit x s t) is run

-- one that found none
pub run_none : (limit : ℕ) (b : Bool) (s t : RemainingRows) → b ≡ false → RunsToRow limit b s t → Path limit s [] t
run_none limit b s t is run = (subst (λ (x : Bool). RunsToRow limit x s t) is run).0

-- a step after a run leaves fewer bytes
pub step_below : (limit : ℕ) (s t u : RemainingRows) (b : Bool) → Path limit s [] t → next_step limit t ≡ Ok (Some b, u)
    → bytes_left u.rest < bytes_left s.rest
step_below limit s t u b p e =
    let below : bytes_left u.rest < bytes_left t.rest = step_smaller limit t b u e in
    let fits : bytes_left t.rest ≤ bytes_left s.rest = path_at_most p in
    omega arith
