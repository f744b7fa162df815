-- Rows of a path, given again by a reader of the bytes that the path took, whatever files its header has.
use Rattle.std.proofs.Common.{◌≡◌, ◌≢◌, ℕ, ◌+◌, ◌-◌, ◌<◌, ◌≤◌, inl, inr, Bool, true, false, cond, eqb, ◌&&◌, List, [], ◌∷◌, ◌++◌, map, length, take, Option, Some, None, Result, Ok, refl, sym, ap, ◌∙◌, arith, length-drop}
use Rattle.std.proofs.lemmas.List.{length-take}
use Rattle.std.proofs.lemmas.Bool.{ne_eqb}
use Rattle.gimli_lines_machine.specs.Error.{Error}
use Rattle.gimli_lines_machine.specs.View.{View, after, prefix, bytes_left}
use Rattle.gimli_lines_machine.specs.Parsers.{proceed, give}
use Rattle.gimli_lines_machine.specs.Repetition.{until_end, answer}
use Rattle.gimli_lines_machine.proofs.StepParts.{begins, read, value_is, state_is}
use Rattle.gimli_lines_header.specs.LineFiles.{FileFacts, file_in}
use Rattle.gimli_lines_header.specs.LineHeaders.{LineHeader}
use Rattle.gimli_lines_machine.specs.declared.registers.Registers.{Registers}
use Rattle.gimli_lines_machine.specs.declared.rules.LineRules.{LineRules}
use Rattle.gimli_lines_machine.specs.LineInstructions.{InstructionOf, define_file}
use Rattle.gimli_lines_machine.specs.Machine.{registers_after, next_registers, after_row, gives_row}
use Rattle.gimli_lines_machine.specs.Decoding.{instruction_with}
use Rattle.gimli_lines_machine.proofs.ByteCountLemmas.{after_after}
use Rattle.gimli_lines_machine.proofs.CutBytes.{after_front, after_zero}
use Rattle.gimli_lines_machine.proofs.CutInstructions.{cut-instruction}
use Rattle.gimli_lines_rows.specs.ProgramInstructions.{rules_of, instruction_in, next_instruction}
use Rattle.gimli_lines_rows.specs.ProgramRows.{Row, RemainingRows, TakesNoFile, header_after, header_with, rows_to_come, is_shown_by, state_after, next_step, Path, stays, shows, passes}
use Rattle.gimli_lines_rows.specs.RowSequences.{registers_of, row_under}
use Rattle.gimli_lines_rows.proofs.LineRowSteps.{StepsTo, step_parts, step_smaller, come_after, come_nothing, row_first}

-- ---- headers after instructions

abbrev counts_of : LineHeader → List ℕ
counts_of h = h.standard_opcode_lengths.bytes

rules_with : (takes_files : Bool) (file : FileFacts) (h : LineHeader)
    → (rules_of (header_with takes_files file h) ≡ rules_of h)
    × (counts_of (header_with takes_files file h) ≡ counts_of h)
rules_with true file h = (refl, refl)
rules_with false file h = (refl, refl)

pub rules_after : (takes_files : Bool) (i : InstructionOf FileFacts) (h : LineHeader)
    → (rules_of (header_after takes_files i h) ≡ rules_of h) × (counts_of (header_after takes_files i h) ≡ counts_of h)
rules_after takes_files (define_file file) h = rules_with takes_files file h
rules_after takes_files _ h = (refl, refl)

header_same : (i : InstructionOf FileFacts) (h : LineHeader) → header_after false i h ≡ h
header_same (define_file file) h = refl
header_same _ h = refl

-- ---- an instruction that was read

abbrev next_by : LineRules → List ℕ → ℕ → View → Result (Option (InstructionOf FileFacts) × View) Error
next_by rules counts limit v = until_end (instruction_with file_in limit rules counts) v

abbrev instruction_result : InstructionOf FileFacts → View → Result (Option (InstructionOf FileFacts) × View) Error
instruction_result i w = Ok (Some i, w)

abbrev some_of : InstructionOf FileFacts → Option (InstructionOf FileFacts)
some_of i = Some i

abbrev pub no_more : View → Result (Option (InstructionOf FileFacts) × View) Error
no_more v = Ok (None, v)

abbrev pub more : Result (InstructionOf FileFacts × View) Error → Result (Option (InstructionOf FileFacts) × View) Error
more r = proceed r (λ x. give (Some x))

pub read_parts : (limit : ℕ) (h : LineHeader) (v w : View) (i : InstructionOf FileFacts) → next_instruction limit h v
    ≡ Ok (Some i, w) → (eqb (length v.bytes) 0 ≡ false) × (instruction_in limit h v ≡ Ok (i, w))
read_parts limit h v w i e = by_end (eqb (length v.bytes) 0) refl
  where
    by_end : (b : Bool) → eqb (length v.bytes) 0 ≡ b → (eqb (length v.bytes) 0 ≡ false)
        × (instruction_in limit h v ≡ Ok (i, w))
    by_end true is =
        absurd (no_value (ap (λ (b : Bool). cond b (no_more v) (more (instruction_in limit h v))) (sym is) ∙ e))
      where
        no_value : no_more v ≡ instruction_result i w → ⊥
        no_value k = none_some (value_is none (Some i) v w k)
          where
            none : Option (InstructionOf FileFacts)
            none = None

            none_some : none ≡ Some i → ⊥
            none_some j = cc
    by_end false is =
        let went : more (instruction_in limit h v) ≡ Ok (Some i, w) =
        ap (λ (b : Bool). cond b (no_more v) (more (instruction_in limit h v))) (sym is) ∙ e in
        let b = begins (instruction_in limit h v) (λ x. give (Some x)) (some_of i) w went in
        let same : some_of b.0 ≡ some_of i = value_is (some_of b.0) (some_of i) b.1 w b.3 in
        let item : b.0 ≡ i = cc in (
          is,
          b.2 ∙ ap (λ (x : InstructionOf FileFacts). read x b.1) item
              ∙ ap (read i) (state_is (some_of b.0) (some_of i) b.1 w b.3),
        )

-- the instruction took these bytes, and is read again from any prefix that has them
pub record ReadsInstruction (limit : ℕ) (h : LineHeader) (v w : View) (i : InstructionOf FileFacts) : Type 0 where
  pub count : ℕ
  pub some : 1 ≤ count
  pub fits : count ≤ bytes_left v
  pub rest : w ≡ after count v
  pub again : (n : ℕ) → count ≤ n → next_instruction limit h (prefix n v) ≡ Ok (Some i, after count (prefix n v))

pub reads_cut_step : (limit : ℕ) (h : LineHeader) (v w : View) (i : InstructionOf FileFacts)
    → next_instruction limit h v ≡ Ok (Some i, w) → ReadsInstruction limit h v w i
reads_cut_step limit h v w i e =
    let parts = read_parts limit h v w i e in
    let k = (cut-instruction file_in limit (rules_of h) (counts_of h)).each v w i parts.1 in
    let some : 1 ≤ k.count = k.some in
    let fits : k.count ≤ bytes_left v = k.fits in
    record {
      count = k.count;
      some = some;
      fits = fits;
      rest = k.rest;
      again = λ n le.
          let long : length (take n v.bytes) ≢ 0 = omega (arith, length-take n v.bytes) in
          ap (λ (b : Bool). cond b (no_more (prefix n v)) (more (instruction_in limit h (prefix n v))))
          (ne_eqb (length (take n v.bytes)) 0 long)
          ∙ ap more (k.again n le);
    }

-- ---- paths take bytes

pub record Took (v w : View) : Type 0 where
  pub count : ℕ
  pub fits : count ≤ bytes_left v
  pub rest : w ≡ after count v

took_more : (u v w : View) (k : ℕ) → k ≤ bytes_left u → v ≡ after k u → Took v w → Took u w
took_more u v w k fits at t =
    let left : bytes_left v ≡ bytes_left u - k = ap bytes_left at ∙ length-drop k u.bytes in
    let inner : t.count ≤ bytes_left v = t.fits in
    record { count = k + t.count; fits = omega arith; rest = t.rest ∙ ap (after t.count) at ∙ after_after k t.count u }

step_read : (limit : ℕ) (s : RemainingRows) (b : Bool) (t : RemainingRows) → (p : StepsTo limit s b t) → t.rest ≡ p.rest
step_read limit s b t p = sym (ap (λ (x : RemainingRows). x.rest) p.led_to)

pub path_took : {limit : ℕ} {s u : RemainingRows} {rows : List Row} → Path limit s rows u → Took s.rest u.rest
path_took (stays s) = record { count = 0; fits = omega arith; rest = after_zero s.rest }
path_took {limit} (shows s t u rows e p) =
    let parts = step_parts limit s true t e in
    let k = reads_cut_step limit s.header s.rest parts.rest parts.instruction parts.was_read in
    took_more s.rest t.rest u.rest k.count k.fits (step_read limit s true t parts ∙ k.rest) (path_took p)
path_took {limit} (passes s t u rows e p) =
    let parts = step_parts limit s false t e in
    let k = reads_cut_step limit s.header s.rest parts.rest parts.instruction parts.was_read in
    took_more s.rest t.rest u.rest k.count k.fits (step_read limit s false t parts ∙ k.rest) (path_took p)

-- ---- the same rows

-- a reader of some prefix, under a header
abbrev over_front : LineHeader → Registers → Registers → View → RemainingRows
over_front h r last v = record { header = h; takes_files = false; registers = r; last = last; rest = v }

-- a step, taken under another header of the same rules, over a prefix of k bytes that has the step's
step_again : (limit : ℕ) (s : RemainingRows) (b : Bool) (t : RemainingRows) (h : LineHeader) (r last : Registers)
    (v : View)
    (k m : ℕ) → (p : StepsTo limit s b t) → rules_of h ≡ rules_of s.header → counts_of h ≡ counts_of s.header
    → r ≡ s.registers → v ≡ prefix k s.rest
    → (c : ReadsInstruction limit s.header s.rest p.rest p.instruction) → k ≡ c.count + m
    → (last' : Registers) × (rows_to_come limit (over_front h r last v) ≡ map answer (row_first b h p.after)
    ++ rows_to_come limit (over_front h t.registers last' (prefix m t.rest)))
step_again limit s b t h r last v k m p same_rules same_counts same_registers at c long =
    let i = p.instruction in
    let w = after c.count v in
    let le : c.count ≤ k = omega arith in
    let was_read : next_instruction limit h v ≡ Ok (Some i, w) =
    ap (λ (x : LineRules). next_by x (counts_of h) limit v) same_rules
    ∙ ap (λ (x : List ℕ). next_by (rules_of s.header) x limit v) same_counts
    ∙ ap (next_instruction limit s.header) at ∙ c.again k le
    ∙ ap (λ (x : View). instruction_result i (after c.count x)) (sym at) in
    let was_executed : registers_after (rules_of h) i r ≡ Ok p.after =
    ap (λ (x : LineRules). registers_after x i r) same_rules ∙ ap (registers_after (rules_of s.header) i) same_registers
    ∙ p.was_executed in
    let state = over_front h r last v in
    let next = state_after state i w p.after in
    let registers : next.registers ≡ t.registers =
    ap (λ (x : LineRules). next_registers x i p.after) same_rules ∙ ap (λ (x : RemainingRows). x.registers) p.led_to in
    let m_is : k - c.count ≡ m = omega arith in
    let left : w ≡ prefix m t.rest =
    ap (after c.count) at ∙ after_front c.count k s.rest le
    ∙ ap (prefix (k - c.count)) (sym c.rest ∙ sym (step_read limit s b t p))
    ∙ ap (λ (n : ℕ). prefix n t.rest) m_is in (
      next.last,
      come_after limit state i w p.after was_read was_executed
          ∙ ap (λ (x : LineHeader). map answer (row_first (is_shown_by i p.after) x p.after)
          ++ rows_to_come limit (over_front x next.registers next.last w)) (header_same i h)
          ∙ ap (λ (x : Bool). map answer (row_first x h p.after)
          ++ rows_to_come limit (over_front h next.registers next.last w)) p.was_shown
          ∙ ap (λ (x : Registers). map answer (row_first b h p.after)
          ++ rows_to_come limit (over_front h x next.last w)) registers
          ∙ ap (λ (x : View). map answer (row_first b h p.after)
          ++ rows_to_come limit (over_front h t.registers next.last x)) left,
    )

-- the header after a step has the same rules
step_rules : (limit : ℕ) (s : RemainingRows) (b : Bool) (t : RemainingRows) → (p : StepsTo limit s b t)
    → (rules_of t.header ≡ rules_of s.header) × (counts_of t.header ≡ counts_of s.header)
step_rules limit s b t p =
    let same = rules_after s.takes_files p.instruction s.header in (
      ap (λ (x : RemainingRows). rules_of x.header) (sym p.led_to) ∙ same.0,
      ap (λ (x : RemainingRows). counts_of x.header) (sym p.led_to) ∙ same.1,
    )

pub path_rules : {limit : ℕ} {s u : RemainingRows} {rows : List Row} → Path limit s rows u
    → (rules_of u.header ≡ rules_of s.header) × (counts_of u.header ≡ counts_of s.header)
path_rules (stays s) = (refl, refl)
path_rules {limit} (shows s t u rows e p) =
    let a = step_rules limit s true t (step_parts limit s true t e) in let b = path_rules p in (b.0 ∙ a.0, b.1 ∙ a.1)
path_rules {limit} (passes s t u rows e p) =
    let a = step_rules limit s false t (step_parts limit s false t e) in let b = path_rules p in (b.0 ∙ a.0, b.1 ∙ a.1)

-- on the way still no file is taken
pub path_takes_no_file : {limit : ℕ} {s u : RemainingRows} {rows : List Row} (takes_files : Bool)
    → Path limit s rows u → TakesNoFile takes_files s.header → TakesNoFile takes_files u.header
path_takes_no_file takes_files p (inl is) = inl is
path_takes_no_file {s = s} {u = u} takes_files p (inr new) =
    let same : u.header.encoding.version ≡ s.header.encoding.version =
    ap (λ (rules : LineRules). rules.encoding.version) (path_rules p).0 in
    inr (omega arith)

last_row_of : (limit : ℕ) (s t : RemainingRows) → (p : StepsTo limit s true t) → p.after ≡ t.last
last_row_of limit s t p =
    ap (λ (b : Bool). cond b p.after s.last) (sym p.was_shown) ∙ ap (λ (x : RemainingRows). x.last) p.led_to

pub resumed_rows : {limit : ℕ} {s u : RemainingRows} {rows : List Row} → (path : Path limit s rows u)
    → (h : LineHeader) (r last : Registers) (v : View) (k : ℕ) → rules_of h ≡ rules_of s.header
    → counts_of h ≡ counts_of s.header → r ≡ s.registers → k ≡ (path_took path).count → v ≡ prefix k s.rest
    → rows_to_come limit (over_front h r last v) ≡ map (row_under h) (map registers_of rows)
unfolding path_took took_more
resumed_rows {limit} (stays s) h r last v k same_rules same_counts same_registers long at =
    let none : v ≡ prefix 0 s.rest = at ∙ ap (λ (n : ℕ). prefix n s.rest) long in
    come_nothing limit (over_front h r last v) s.rest none
resumed_rows {limit} (shows s t u rows e p) h r last v k same_rules same_counts same_registers long at =
    let parts = step_parts limit s true t e in
    let c = reads_cut_step limit s.header s.rest parts.rest parts.instruction parts.was_read in
    let m = (path_took p).count in
    let same = step_rules limit s true t parts in
    let step = step_again limit s true t h r last v k m parts same_rules same_counts same_registers at c long in
    step.1
    ∙ ap (λ (x : Registers). row_under h x ∷ rows_to_come limit (over_front h t.registers step.0 (prefix m t.rest)))
    (last_row_of limit s t parts)
    ∙ ap (λ (xs : List (Result Row Error)). row_under h t.last ∷ xs)
    (resumed_rows p h t.registers step.0 (prefix m t.rest) m (same_rules ∙ sym same.0) (same_counts ∙ sym same.1) refl
    refl refl)
resumed_rows {limit} (passes s t u rows e p) h r last v k same_rules same_counts same_registers long at =
    let parts = step_parts limit s false t e in
    let c = reads_cut_step limit s.header s.rest parts.rest parts.instruction parts.was_read in
    let m = (path_took p).count in
    let same = step_rules limit s false t parts in
    let step = step_again limit s false t h r last v k m parts same_rules same_counts same_registers at c long in
    step.1 ∙ resumed_rows p h t.registers step.0 (prefix m t.rest) m (same_rules ∙ sym same.0)
    (same_counts ∙ sym same.1) refl refl refl

-- ---- after a row

and_left : (a b : Bool) → (a && b) ≡ true → a ≡ true
and_left true b e = refl
and_left false b e = absurd cc

-- the registers after a row are cleared
pub row_cleared : (limit : ℕ) (s t : RemainingRows) → next_step limit s ≡ Ok (Some true, t)
    → t.registers ≡ after_row (rules_of t.header) t.last
row_cleared limit s t e =
    let p = step_parts limit s true t e in
    let gives : gives_row p.instruction ≡ true = and_left (gives_row p.instruction) _ p.was_shown in
    let same = step_rules limit s true t p in
    sym (ap (λ (x : RemainingRows). x.registers) p.led_to)
    ∙ ap (λ (b : Bool). cond b (after_row (rules_of s.header) p.after) p.after) gives
    ∙ ap (after_row (rules_of s.header)) (last_row_of limit s t p)
    ∙ ap (λ (x : LineRules). after_row x t.last) (sym same.0)

-- ---- paths take bytes where they show a row

pub path_at_most : {limit : ℕ} {s u : RemainingRows} {rows : List Row} → Path limit s rows u
    → bytes_left u.rest ≤ bytes_left s.rest
path_at_most {s = s} {u = u} p =
    let t = path_took p in
    let left : bytes_left u.rest ≡ bytes_left s.rest - t.count = ap bytes_left t.rest
    ∙ length-drop t.count s.rest.bytes in
    omega arith

pub path_smaller : {limit : ℕ} {s u : RemainingRows} {rows : List Row} → Path limit s rows u → rows ≢ []
    → bytes_left u.rest < bytes_left s.rest
path_smaller (stays s) some = absurd (some refl)
path_smaller {limit} (shows s t u rows e p) some =
    let lt : bytes_left t.rest < bytes_left s.rest = step_smaller limit s true t e in
    let le : bytes_left u.rest ≤ bytes_left t.rest = path_at_most p in
    omega arith
path_smaller {limit} (passes s t u rows e p) some =
    let lt : bytes_left t.rest < bytes_left s.rest = step_smaller limit s false t e in
    let le : bytes_left u.rest ≤ bytes_left t.rest = path_at_most p in
    omega arith
