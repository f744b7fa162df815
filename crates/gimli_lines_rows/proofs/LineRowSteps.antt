-- What is to come of the rows, by the next instruction.
use Rattle.std.proofs.Common.{◌≡◌, ℕ, ◌<◌, Bool, true, false, cond, List, [], ◌∷◌, ◌++◌, map, Option, Some, None, Result, Ok, Err, refl, sym, ap, subst, ◌∙◌}
use Rattle.gimli_lines_machine.specs.Error.{Error}
use Rattle.gimli_lines_machine.specs.View.{View, after, prefix, bytes_left}
use Rattle.gimli_lines_machine.specs.Repetition.{Listing, no_items, prepend, next_item, answer, last_answer}
use Rattle.gimli_lines_machine.proofs.StepParts.{value_is, state_is}
use Rattle.gimli_lines_machine.proofs.Listings.{listing_next, item_smaller}
use Rattle.gimli_lines_header.specs.LineFiles.{FileFacts, file_in}
use Rattle.gimli_lines_header.specs.LineHeaders.{LineHeader}
use Rattle.gimli_lines_machine.specs.declared.registers.Registers.{Registers}
use Rattle.gimli_lines_machine.specs.LineInstructions.{InstructionOf, define_file}
use Rattle.gimli_lines_machine.specs.Machine.{registers_after, next_registers}
use Rattle.gimli_lines_machine.specs.Runs.{Execution, run_step, run}
use Rattle.gimli_lines_machine.proofs.CutInstructions.{instructions-shrink}
use Rattle.gimli_lines_rows.specs.ProgramInstructions.{rules_of, instructions_in, next_instruction, with_rest}
use Rattle.gimli_lines_rows.specs.ProgramRows.{Row, RemainingRows, header_after, header_with, rows_of_run, with_ending, program_run, row_answers, rows_to_come, last_row, is_shown_by, state_after, step_to, step_of, next_step}

-- ---- the instructions of a program, by the first

pub listing_of_next : (limit : ℕ) (h : LineHeader) (v : View)
    (r : Result (Option (InstructionOf FileFacts) × View) Error) → next_instruction limit h v ≡ r
    → instructions_in limit h v ≡ next_item r (instructions_in limit h)
listing_of_next limit h v r e =
    listing_next (instructions-shrink file_in limit (rules_of h) h.standard_opcode_lengths.bytes) v
    ∙ ap (λ (x : Result (Option (InstructionOf FileFacts) × View) Error). next_item x (instructions_in limit h)) e

-- what a state runs, by its instructions
abbrev run_of_listing : LineHeader → Registers → Listing View (InstructionOf FileFacts)
    → Listing Registers (Execution FileFacts)
run_of_listing h r l = with_ending l.ending (run (rules_of h) r l.items)

-- ---- ends

come_end : (limit : ℕ) (s : RemainingRows) (w : View) → next_instruction limit s.header s.rest ≡ Ok (None, w)
    → rows_to_come limit s ≡ []
come_end limit s w e = ap (λ (l : Listing View (InstructionOf FileFacts)).
    row_answers s.takes_files s.header (run_of_listing s.header s.registers l))
    (listing_of_next limit s.header s.rest (Ok (None, w)) e)

come_read_fault : (limit : ℕ) (s : RemainingRows) (d : Error) → next_instruction limit s.header s.rest ≡ Err d
    → rows_to_come limit s ≡ Err d ∷ []
come_read_fault limit s d e = ap (λ (l : Listing View (InstructionOf FileFacts)).
    row_answers s.takes_files s.header (run_of_listing s.header s.registers l))
    (listing_of_next limit s.header s.rest (Err d) e)

-- no bytes, no rows
pub come_nothing : (limit : ℕ) (s : RemainingRows) (v : View) → s.rest ≡ prefix 0 v → rows_to_come limit s ≡ []
come_nothing limit s v e = come_end limit s (prefix 0 v) (ap (next_instruction limit s.header) e)

-- ---- an instruction

-- the instruction is executed before the others
abbrev run_of_next : RemainingRows → InstructionOf FileFacts → Listing View (InstructionOf FileFacts)
    → Result Registers Error → Listing Registers (Execution FileFacts)
run_of_next s i rest r = with_ending rest.ending
    (run_step s.registers i r (λ after. run (rules_of s.header) (next_registers (rules_of s.header) i after)
    rest.items))

run_first : (limit : ℕ) (s : RemainingRows) (i : InstructionOf FileFacts) (w : View) (r : Result Registers Error)
    → next_instruction limit s.header s.rest ≡ Ok (Some i, w) → registers_after (rules_of s.header) i s.registers ≡ r
    → program_run limit s.header s.registers s.rest ≡ run_of_next s i (instructions_in limit s.header w) r
run_first limit s i w r e c =
    ap (run_of_listing s.header s.registers) (listing_of_next limit s.header s.rest (Ok (Some i, w)) e)
    ∙ ap (run_of_next s i (instructions_in limit s.header w)) c

fault_first : (ending : Result View Error) (d : Error) → with_ending {X = Execution FileFacts} ending (no_items (Err d))
    ≡ no_items {S = Registers} (Err d)
fault_first (Ok v) d = refl
fault_first (Err e) d = refl

pub come_fault : (limit : ℕ) (s : RemainingRows) (i : InstructionOf FileFacts) (w : View) (d : Error)
    → next_instruction limit s.header s.rest ≡ Ok (Some i, w) → registers_after (rules_of s.header) i s.registers
    ≡ Err d → rows_to_come limit s ≡ Err d ∷ []
come_fault limit s i w d e c =
    ap (row_answers s.takes_files s.header) (run_first limit s i w (Err d) e c
    ∙ fault_first (instructions_in limit s.header w).ending d)

-- further files change nothing of a run
run_with : (takes_files : Bool) (file : FileFacts) (limit : ℕ) (h : LineHeader) (r : Registers) (v : View)
    → program_run limit (header_with takes_files file h) r v ≡ program_run limit h r v
run_with true file limit h r v = refl
run_with false file limit h r v = refl

run_after : (takes_files : Bool) (i : InstructionOf FileFacts) (limit : ℕ) (h : LineHeader) (r : Registers) (v : View)
    → program_run limit (header_after takes_files i h) r v ≡ program_run limit h r v
run_after takes_files (define_file file) limit h r v = run_with takes_files file limit h r v
run_after takes_files _ limit h r v = refl

prepend_ended : (ending : Result View Error) (x : Execution FileFacts) (l : Listing Registers (Execution FileFacts))
    → with_ending ending (prepend (x ∷ []) l) ≡ prepend (x ∷ []) (with_ending ending l)
prepend_ended (Ok v) x l = refl
prepend_ended (Err e) x l = refl

-- a row in front, where one is shown
abbrev pub row_first : Bool → LineHeader → Registers → List Row
row_first b h r = cond b (record { header = h; registers = r } ∷ []) []

row_in_front : (b : Bool) (h : LineHeader) (r : Registers) (rows : List Row) (end : List (Result Row Error))
    → map answer (row_first b h r ++ rows) ++ end ≡ map answer (row_first b h r) ++ (map answer rows ++ end)
row_in_front true h r rows end = refl
row_in_front false h r rows end = refl

pub come_after : (limit : ℕ) (s : RemainingRows) (i : InstructionOf FileFacts) (w : View) (after : Registers)
    → next_instruction limit s.header s.rest ≡ Ok (Some i, w) → registers_after (rules_of s.header) i s.registers
    ≡ Ok after → rows_to_come limit s ≡ map answer
    (row_first (is_shown_by i after) (header_after s.takes_files i s.header) after)
    ++ rows_to_come limit (state_after s i w after)
come_after limit s i w after e c =
    let h1 = header_after s.takes_files i s.header in
    let r1 = next_registers (rules_of s.header) i after in
    let l = instructions_in limit s.header w in
    let rest : Listing Registers (Execution FileFacts) = program_run limit s.header r1 w in
    ap (row_answers s.takes_files s.header) (run_first limit s i w (Ok after) e c
    ∙ prepend_ended l.ending (record { before = s.registers; instruction = i; after = after })
    (run (rules_of s.header) r1 l.items))
    ∙ row_in_front (is_shown_by i after) h1 after (rows_of_run s.takes_files h1 rest.items) (last_answer rest.ending)
    ∙ ap (λ (m : Listing Registers (Execution FileFacts)). map answer (row_first (is_shown_by i after) h1 after)
    ++ row_answers s.takes_files h1 m) (sym (run_after s.takes_files i limit s.header r1 w))

-- ---- steps

-- what a step that was taken consists of
pub record StepsTo (limit : ℕ) (s : RemainingRows) (b : Bool) (t : RemainingRows) : Type 0 where
  pub instruction : InstructionOf FileFacts
  pub rest : View
  pub after : Registers
  pub was_read : next_instruction limit s.header s.rest ≡ Ok (Some instruction, rest)
  pub was_executed : registers_after (rules_of s.header) instruction s.registers ≡ Ok after
  pub was_shown : is_shown_by instruction after ≡ b
  pub led_to : state_after s instruction rest after ≡ t

abbrev no_row : Option Bool
no_row = None

abbrev some_bool : Bool → Option Bool
some_bool b = Some b

abbrev some_of : Bool → RemainingRows → Result (Option Bool × RemainingRows) Error
some_of b t = Ok (Some b, t)

some_is : (b c : Bool) (s t : RemainingRows) → some_of b s ≡ some_of c t → b ≡ c
some_is b c s t e = let is : some_bool b ≡ some_bool c = value_is (some_bool b) (some_bool c) s t e in cc

abbrev read_result : InstructionOf FileFacts → View → Result (Option (InstructionOf FileFacts) × View) Error
read_result i w = Ok (Some i, w)

-- what is read with its rest
pub rest_some : (r : Result (Option (InstructionOf FileFacts) × View) Error) (i : InstructionOf FileFacts) (w : View)
    → with_rest r ≡ Ok (Some (i, w)) → r ≡ Ok (Some i, w)
rest_some (Err d) i w e = absurd cc
rest_some (Ok (None, v)) i w e = absurd cc
rest_some (Ok (Some x, v)) i w e =
    let is : (x, v) ≡ (i, w) = cc in
    ap (λ (p : InstructionOf FileFacts × View). read_result p.0 p.1) is

pub rest_none : (r : Result (Option (InstructionOf FileFacts) × View) Error) → with_rest r ≡ Ok None → (w : View)
    × (r ≡ Ok (None, w))
rest_none (Err d) e = absurd cc
rest_none (Ok (None, v)) e = (v, refl)
rest_none (Ok (Some x, v)) e = absurd cc

pub rest_fault : (r : Result (Option (InstructionOf FileFacts) × View) Error) (d : Error) → with_rest r ≡ Err d
    → r ≡ Err d
rest_fault (Err x) d e = ap refusal (is_refusal x d e)
  where
    refusal : Error → Result (Option (InstructionOf FileFacts) × View) Error
    refusal x = Err x

    handed_on : Error → Result (Option (InstructionOf FileFacts × View)) Error
    handed_on x = Err x

    is_refusal : (x y : Error) → handed_on x ≡ handed_on y → x ≡ y
    is_refusal x y h = cc
rest_fault (Ok r) d e = absurd cc

pub step_parts : (limit : ℕ) (s : RemainingRows) (b : Bool) (t : RemainingRows) → next_step limit s ≡ Ok (Some b, t)
    → StepsTo limit s b t
step_parts limit s b t e = by_read (with_rest (next_instruction limit s.header s.rest)) refl e
  where
    by_change : (i : InstructionOf FileFacts) (w : View) (r : Result Registers Error)
        → next_instruction limit s.header s.rest ≡ Ok (Some i, w) → registers_after (rules_of s.header) i s.registers
        ≡ r → step_to s i w r ≡ Ok (Some b, t) → StepsTo limit s b t
    by_change i w (Err d) r c h = absurd cc
    by_change i w (Ok after) r c h = record {
      instruction = i;
      rest = w;
      after = after;
      was_read = r;
      was_executed = c;
      was_shown = some_is (is_shown_by i after) b (state_after s i w after) t h;
      led_to = state_is (Some (is_shown_by i after)) (Some b) (state_after s i w after) t h;
    }

    by_read : (r : Result (Option (InstructionOf FileFacts × View)) Error)
        → with_rest (next_instruction limit s.header s.rest) ≡ r → step_of s r ≡ Ok (Some b, t) → StepsTo limit s b t
    by_read (Err d) r h = absurd cc
    by_read (Ok None) r h = absurd (none_is (value_is None (Some b) s t h))
      where
        none_is : no_row ≡ Some b → ⊥
        none_is k = cc
    by_read (Ok (Some p)) r h = by_change p.0 p.1 (registers_after (rules_of s.header) p.0 s.registers)
        (rest_some (next_instruction limit s.header s.rest) p.0 p.1 r) refl h

-- a row
pub come_row : (limit : ℕ) (s t : RemainingRows) → next_step limit s ≡ Ok (Some true, t) → rows_to_come limit s
    ≡ Ok (last_row t) ∷ rows_to_come limit t
come_row limit s t e =
    let p = step_parts limit s true t e in
    let u = state_after s p.instruction p.rest p.after in
    come_after limit s p.instruction p.rest p.after p.was_read p.was_executed
    ∙ ap (λ (b : Bool). map answer (row_first b (header_after s.takes_files p.instruction s.header) p.after)
    ++ rows_to_come limit u) p.was_shown
    ∙ ap (λ (r : Registers). Ok (record { header = u.header; registers = r }) ∷ rows_to_come limit u)
    (ap (λ (b : Bool). cond b p.after s.last) (sym p.was_shown))
    ∙ ap (λ (x : RemainingRows). Ok (last_row x) ∷ rows_to_come limit x) p.led_to

-- no row
pub come_without_row : (limit : ℕ) (s t : RemainingRows) → next_step limit s ≡ Ok (Some false, t) → rows_to_come limit s
    ≡ rows_to_come limit t
come_without_row limit s t e =
    let p = step_parts limit s false t e in
    let u = state_after s p.instruction p.rest p.after in
    come_after limit s p.instruction p.rest p.after p.was_read p.was_executed
    ∙ ap (λ (b : Bool). map answer (row_first b (header_after s.takes_files p.instruction s.header) p.after)
    ++ rows_to_come limit u) p.was_shown
    ∙ ap (rows_to_come limit) p.led_to

-- the end of the program, where nothing changes
pub step_end : (limit : ℕ) (s t : RemainingRows) → next_step limit s ≡ Ok (None, t)
    → (rows_to_come limit s ≡ []) × (s ≡ t)
step_end limit s t e = by_read (with_rest (next_instruction limit s.header s.rest)) refl e
  where
    by_change : (i : InstructionOf FileFacts) (w : View) (r : Result Registers Error) → step_to s i w r ≡ Ok (None, t)
        → (rows_to_come limit s ≡ []) × (s ≡ t)
    by_change i w (Err d) h = absurd cc
    by_change i w (Ok after) h =
        absurd (some_none (value_is (Some (is_shown_by i after)) None (state_after s i w after) t h))
      where
        some_none : some_bool (is_shown_by i after) ≡ None → ⊥
        some_none k = cc

    by_read : (r : Result (Option (InstructionOf FileFacts × View)) Error)
        → with_rest (next_instruction limit s.header s.rest) ≡ r → step_of s r ≡ Ok (None, t)
        → (rows_to_come limit s ≡ []) × (s ≡ t)
    by_read (Err d) r h = absurd cc
    by_read (Ok None) r h = let w = rest_none (next_instruction limit s.header s.rest) r in
        (come_end limit s w.0 w.1, state_is no_row no_row s t h)
    by_read (Ok (Some p)) r h = by_change p.0 p.1 (registers_after (rules_of s.header) p.0 s.registers) h

-- a fault
pub step_fault : (limit : ℕ) (s : RemainingRows) (d : Error) → next_step limit s ≡ Err d
    → rows_to_come limit s ≡ Err d ∷ []
step_fault limit s d e = by_read (with_rest (next_instruction limit s.header s.rest)) refl e
  where
    refusal : Error → Result (Option Bool × RemainingRows) Error
    refusal x = Err x

    is_refusal : (x : Error) → refusal x ≡ Err d → x ≡ d
    is_refusal x h = cc

    by_change : (i : InstructionOf FileFacts) (w : View) (r : Result Registers Error)
        → next_instruction limit s.header s.rest ≡ Ok (Some i, w) → registers_after (rules_of s.header) i s.registers
        ≡ r → step_to s i w r ≡ Err d → rows_to_come limit s ≡ Err d ∷ []
    by_change i w (Ok after) r c h = absurd cc
    by_change i w (Err x) r c h = come_fault limit s i w x r c ∙ ap (λ (y : Error). Err y ∷ []) (is_refusal x h)

    by_read : (r : Result (Option (InstructionOf FileFacts × View)) Error)
        → with_rest (next_instruction limit s.header s.rest) ≡ r → step_of s r ≡ Err d → rows_to_come limit s ≡ Err d
        ∷ []
    by_read (Ok None) r h = absurd cc
    by_read (Err x) r h = come_read_fault limit s x (rest_fault (next_instruction limit s.header s.rest) x r)
        ∙ ap (λ (y : Error). Err y ∷ []) (is_refusal x h)
    by_read (Ok (Some p)) r h = by_change p.0 p.1 (registers_after (rules_of s.header) p.0 s.registers)
        (rest_some (next_instruction limit s.header s.rest) p.0 p.1 r) refl h

-- fewer bytes are left
pub step_smaller : (limit : ℕ) (s : RemainingRows) (b : Bool) (t : RemainingRows) → next_step limit s ≡ Ok (Some b, t)
    → bytes_left t.rest < bytes_left s.rest
step_smaller limit s b t e =
    let p = step_parts limit s b t e in
    let lt : bytes_left p.rest < bytes_left s.rest =
    item_smaller (instructions-shrink file_in limit (rules_of s.header) s.header.standard_opcode_lengths.bytes)
    s.rest p.instruction p.rest p.was_read in
    subst (λ (x : RemainingRows). bytes_left x.rest < bytes_left s.rest) p.led_to lt
