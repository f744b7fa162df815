-- What a sink has taken on the way of a program.
use Rattle.std.proofs.Common.{◌≡◌, ℕ, ◌-◌, ◌<◌, ◌≤◌, inl, inr, Bool, true, false, not, cond, List, [], ◌∷◌, ◌++◌, map, length, None, Some, Result, Ok, Err, IfErr, refl, sym, ap, subst, ◌∙◌, arith, append_assoc, append-nil}
use Rattle.std.proofs.lemmas.List.{map-append}
use Rattle.std.specs.Result.{IsErrAnd}
use Rattle.gimli_lines_machine.specs.Error.{Error}
use Rattle.gimli_lines_machine.specs.Error.TheVariants.{Memory}
use Rattle.gimli_lines_machine.specs.View.{View, after, bytes_left}
use Rattle.gimli_lines_machine.specs.Repetition.{answer}
use Rattle.gimli_lines_machine.specs.declared.registers.Registers.{Registers}
use Rattle.gimli_lines_header.specs.LineHeaders.{LineHeader}
use Rattle.gimli_lines_machine.specs.declared.rules.LineRules.{LineRules}
use Rattle.gimli_lines_rows.specs.ProgramInstructions.{rules_of}
use Rattle.gimli_lines_rows.specs.ProgramRows.{Row, RemainingRows, TakesNoFile, rows_to_come, last_row, next_step, Path, stays, shows, passes, OneStep}
use Rattle.gimli_lines_rows.specs.NumericSteps.{rows_at}
use Rattle.gimli_lines_rows.specs.RowSinks.{Takes, in_form, GivesRow, with_last, last_header, GivesOnTheWay, GivesRows, RefusedByRows}
use Rattle.gimli_lines_rows.proofs.LineRowSteps.{come_nothing, come_row, step_end, step_fault, step_smaller}
use Rattle.gimli_lines_rows.proofs.RowPaths.{path_comes, path_passes, path_path}
use Rattle.gimli_lines_rows.proofs.ResumedRows.{path_at_most, path_rules}
use Rattle.gimli_lines_rows.proofs.StepsAtOnce.{path_leaves, over_reader}
use Rattle.gimli_lines_rows.proofs.ProgramHeaders.{path_keeps_header, header_at_end}

-- ---- what a sink takes

pub takes_none : {S K : Type 0} (H : S → List K → Type 0) (s : S) → Takes H s s []
takes_none H s = λ rows taken. subst (H s) (sym (append-nil rows)) taken

pub takes_more : {S K : Type 0} (H : S → List K → Type 0) (a b c : S) (xs ys : List K) → Takes H a b xs
    → Takes H b c ys → Takes H a c (xs ++ ys)
takes_more H a b c xs ys first next = λ rows taken.
    subst (H c) (append_assoc rows xs ys) (next (rows ++ xs) (first rows taken))

-- the same of rows in a form
pub takes_rows : {S K : Type 0} (form : Registers → K) (H : S → List K → Type 0) (a b c : S) (xs ys : List Row)
    → Takes H a b (in_form form xs) → Takes H b c (in_form form ys) → Takes H a c (in_form form (xs ++ ys))
takes_rows form H a b c xs ys first next =
    subst (Takes H a c) (sym (map-append (λ (r : Row). form r.registers) xs ys))
    (takes_more H a b c (in_form form xs) (in_form form ys) first next)

-- a sink that then refused a row has taken as many
pub takes_as_many : {S K : Type 0} (H : S → List K → Type 0) (a b c : S) (xs : List K) → Takes H a b xs
    → ((rows : List K) → H b rows → H c rows) → Takes H a c xs
takes_as_many H a b c xs first same = λ rows taken. same (rows ++ xs) (first rows taken)

-- a row that isn't shown is given to none
pub hidden_given : {A S K : Type 0} (form : Registers → K) (H : S → List K → Type 0) (x : A) (r : Registers) (s : S)
    → r.is_hidden ≡ true → GivesRow {A = A} form H (Ok x) r s s
hidden_given {K = K} form H x r s hidden =
    let none : List K = [] in
    subst (λ (b : Bool). Takes H s s (cond (not b) (form r ∷ []) none)) (sym hidden) (takes_none H s)

-- one that is, which the sink takes
pub shown_given : {A S K : Type 0} (form : Registers → K) (H : S → List K → Type 0) (x : A) (r row : Registers)
    (before after : S) → r.is_hidden ≡ false → row ≡ r → Takes H before after (form row ∷ [])
    → GivesRow {A = A} form H (Ok x) r before after
shown_given {K = K} form H x r row before after shown same takes =
    let none : List K = [] in
    subst (λ (b : Bool). Takes H before after (cond (not b) (form r ∷ []) none)) (sym shown)
    (subst (λ (q : Registers). Takes H before after (form q ∷ [])) same takes)

-- ---- a run at once

-- what the sink has taken on the way so far
pub record OnTheWay {S K : Type 0} (limit : ℕ) (form : Registers → K) (H : S → List K → Type 0)
    (old now : RemainingRows) (before after : S) : Type 0 where
  pub rows : List Row
  pub path : Path limit old rows now
  pub takes : Takes H before after (in_form form rows)

pub none_on_the_way : {S K : Type 0} (limit : ℕ) (form : Registers → K) (H : S → List K → Type 0) (s : RemainingRows)
    (b : S) → OnTheWay limit form H s s b b
none_on_the_way limit form H s b = record { rows = []; path = stays s; takes = takes_none H b }

-- one row more
pub one_on_the_way : {S K : Type 0} (limit : ℕ) (form : Registers → K) (H : S → List K → Type 0)
    (old mid new : RemainingRows) (before middle after : S) → OnTheWay limit form H old mid before middle
    → Path limit mid (last_row new ∷ []) new → Takes H middle after (form new.last ∷ [])
    → OnTheWay limit form H old new before after
one_on_the_way limit form H old mid new before middle after p path takes = record {
  rows = p.rows ++ last_row new ∷ [];
  path = path_path p.path path;
  takes = takes_rows form H before middle after p.rows (last_row new ∷ []) p.takes takes;
}

-- a step more, with the row that it shows
pub step_on_the_way : {S K : Type 0} (limit : ℕ) (form : Registers → K) (H : S → List K → Type 0)
    (old mid new : RemainingRows) (before middle after : S) (shown : Bool) (r last : Registers)
    → OnTheWay limit form H old mid before middle → next_step limit mid ≡ Ok (Some shown, new)
    → new.last ≡ cond shown r last → Takes H middle after (cond shown (form r ∷ []) [])
    → OnTheWay limit form H old new before after
step_on_the_way limit form H old mid new before middle after true r last p e is takes =
    one_on_the_way limit form H old mid new before middle after p (shows mid new new [] e (stays new))
    (subst (λ (q : Registers). Takes H middle after (form q ∷ [])) (sym is) takes)
step_on_the_way limit form H old mid new before middle after false r last p e is takes = record {
  rows = p.rows;
  path = path_passes p.path e;
  takes = subst (λ (rows : List Row). Takes H before after (in_form form rows)) (append-nil p.rows)
      (takes_rows form H before middle after p.rows [] p.takes takes);
}

-- no further row
pub way_ends : {A S K : Type 0} (limit : ℕ) (form : Registers → K) (H : S → List K → Type 0) (x : A)
    (old mid new : RemainingRows) (before after : S) (r : Registers) → OnTheWay limit form H old mid before after
    → Path limit mid [] (with_last r new) → GivesOnTheWay limit form H (Ok x) old new before after
way_ends limit form H x old mid new before after r p path = (
  p.rows,
  (r, subst (λ (rows : List Row). Path limit old rows (with_last r new)) (append-nil p.rows) (path_path p.path path)),
  p.takes,
)

-- a row that the sink refused
pub way_refused : (A : Type 0) {S K : Type 0} (limit : ℕ) (form : Registers → K) (H : S → List K → Type 0) (e : Error)
    (old mid new : RemainingRows) (before middle after : S) → e ≡ Memory → OnTheWay limit form H old mid before middle
    → Path limit mid (last_row new ∷ []) new → ((rows : List K) → H middle rows → H after rows)
    → GivesOnTheWay {A = A} limit form H (Err e) old new before after
way_refused A limit form H e old mid new before middle after none p path same = (
  none,
  (p.rows, path_path p.path path, takes_as_many H before middle after (in_form form p.rows) p.takes same),
)

-- no more bytes are left than before, and those after the ones that were read
given_left : {A S K : Type 0} (limit : ℕ) (form : Registers → K) (H : S → List K → Type 0) (r : Result A Error)
    (old new : RemainingRows) (b a : S) → GivesOnTheWay limit form H r old new b a
    → (bytes_left new.rest ≤ bytes_left old.rest)
    × (new.rest ≡ after (bytes_left old.rest - bytes_left new.rest) old.rest)
given_left limit form H (Ok x) old new b a given = (path_at_most given.1.1, path_leaves given.1.1)
given_left limit form H (Err e) old new b a given = (path_at_most given.1.1, path_leaves given.1.1)

-- it fits the bytes before it
pub given_fits : {A S K : Type 0} (limit : ℕ) (form : Registers → K) (H : S → List K → Type 0) (res : Result A Error)
    (h : LineHeader) (r last r1 last1 : Registers) (v w : View) (b a : S) (before left : List ℕ)
    → before ≡ v.bytes → left ≡ w.bytes
    → ((takes_files : Bool) → GivesOnTheWay limit form H res (rows_at h takes_files r last v)
    (rows_at h takes_files r1 last1 w) b a)
    → length left ≤ length before
given_fits limit form H res h r last r1 last1 v w b a before left before_is left_is given =
    let parts = given_left limit form H res (rows_at h true r last v) (rows_at h true r1 last1 w) b a (given true) in
    let fits : bytes_left w ≤ bytes_left v = parts.0 in
    let all : length before ≡ bytes_left v = ap length before_is in
    let rest : length left ≡ bytes_left w = ap length left_is in
    omega arith

-- the run of a reader of rows, over bytes that were borrowed from it
pub given_over : {A S K : Type 0} (limit : ℕ) (form : Registers → K) (H : S → List K → Type 0) (res : Result A Error)
    (b a : S) (s : RemainingRows) (h h1 : LineHeader) (takes_files : Bool)
    (r last r1 last1 : Registers) (v v1 w w1 : View) (before left : List ℕ) → rows_at h1 takes_files r last v1 ≡ s
    → h ≡ h1 → v ≡ v1 → before ≡ v.bytes → left ≡ w.bytes → w1 ≡ after (length before - length left) v1
    → ((takes : Bool) → GivesOnTheWay limit form H res (rows_at h takes r last v) (rows_at h takes r1 last1 w) b a)
    → GivesOnTheWay limit form H res s (rows_at h1 takes_files r1 last1 w1) b a
given_over limit form H res b a s h h1 takes_files r last r1 last1 v v1 w w1 before left from same_header same
    before_is left_is at given =
    let parts = given_left limit form H res (rows_at h true r last v) (rows_at h true r1 last1 w) b a (given true) in
    over_reader (λ (x y : RemainingRows). GivesOnTheWay limit form H res x y b a) s h h1 takes_files r last r1 last1
    v v1 w w1 before left from same_header same before_is left_is at parts.1 (given takes_files)

-- ---- a run to the end

-- rows, and then others, are to come
come_more : (limit : ℕ) (old mid : RemainingRows) (xs ys : List Row) (zs : List (Result Row Error))
    → rows_to_come limit old ≡ map answer xs ++ rows_to_come limit mid → rows_to_come limit mid ≡ map answer ys ++ zs
    → rows_to_come limit old ≡ map answer (xs ++ ys) ++ zs
come_more limit old mid xs ys zs first next =
    first ∙ ap (λ (us : List (Result Row Error)). map answer xs ++ us) next
    ∙ sym (append_assoc (map answer xs) (map answer ys) zs)
    ∙ ap (λ (us : List (Result Row Error)). us ++ zs) (sym (map-append answer xs ys))

-- what the sink has taken so far, and what is still to come
pub record GivenSoFar {S K : Type 0} (limit : ℕ) (form : Registers → K) (H : S → List K → Type 0)
    (old now : RemainingRows) (before after : S) : Type 0 where
  pub rows : List Row
  pub come : rows_to_come limit old ≡ map answer rows ++ rows_to_come limit now
  pub header : last_header limit old ≡ last_header limit now
  pub same_rules : rules_of now.header ≡ rules_of old.header
  pub takes : Takes H before after (in_form form rows)

pub none_given : {S K : Type 0} (limit : ℕ) (form : Registers → K) (H : S → List K → Type 0) (s : RemainingRows)
    (b : S) → GivenSoFar limit form H s s b b
none_given limit form H s b =
    record { rows = []; come = refl; header = refl; same_rules = refl; takes = takes_none H b }

-- further rows, whatever the last row is
given_more : {S K : Type 0} (limit : ℕ) (form : Registers → K) (H : S → List K → Type 0)
    (old mid new : RemainingRows) (before middle after : S) (rows : List Row) (r : Registers)
    → GivenSoFar limit form H old mid before middle → Path limit mid rows (with_last r new)
    → Takes H middle after (in_form form rows) → GivenSoFar limit form H old new before after
given_more limit form H old mid new before middle after rows r p path takes = record {
  rows = p.rows ++ rows;
  come = come_more limit old mid p.rows rows (rows_to_come limit new) p.come (path_comes path);
  header = p.header ∙ path_keeps_header path;
  same_rules = (path_rules path).0 ∙ p.same_rules;
  takes = takes_rows form H before middle after p.rows rows p.takes takes;
}

-- a run at once
pub given_run : {A S K : Type 0} (limit : ℕ) (form : Registers → K) (H : S → List K → Type 0) (x : A)
    (old mid new : RemainingRows) (before middle after : S) → GivenSoFar limit form H old mid before middle
    → GivesOnTheWay limit form H (Ok x) mid new middle after → GivenSoFar limit form H old new before after
given_run limit form H x old mid new before middle after p given =
    given_more limit form H old mid new before middle after given.0 given.1.0 p given.1.1 given.2

-- a step that shows a row, which the sink takes
pub given_shown : {S K : Type 0} (limit : ℕ) (form : Registers → K) (H : S → List K → Type 0)
    (old mid new : RemainingRows) (before middle after : S) → GivenSoFar limit form H old mid before middle
    → next_step limit mid ≡ Ok (Some true, new) → Takes H middle after (form new.last ∷ [])
    → GivenSoFar limit form H old new before after
given_shown limit form H old mid new before middle after p e takes =
    given_more limit form H old mid new before middle after (last_row new ∷ []) new.last p
    (shows mid new new [] e (stays new)) takes

-- a step that shows none
pub given_no_more : {S K : Type 0} (limit : ℕ) (form : Registers → K) (H : S → List K → Type 0)
    (old mid new : RemainingRows) (before after : S) → GivenSoFar limit form H old mid before after
    → next_step limit mid ≡ Ok (Some false, new) → GivenSoFar limit form H old new before after
given_no_more limit form H old mid new before after p e =
    given_more limit form H old mid new before after after [] new.last p (passes mid new new [] e (stays new))
    (takes_none H after)

-- a step after a run leaves fewer bytes
pub given_smaller : {A S K : Type 0} (limit : ℕ) (form : Registers → K) (H : S → List K → Type 0) (x : A)
    (s t u : RemainingRows) (before after : S) (b : Bool) → GivesOnTheWay limit form H (Ok x) s t before after
    → next_step limit t ≡ Ok (Some b, u) → bytes_left u.rest < bytes_left s.rest
given_smaller limit form H x s t u before after b given e =
    let below : bytes_left u.rest < bytes_left t.rest = step_smaller limit t b u e in
    let fits : bytes_left t.rest ≤ bytes_left s.rest = path_at_most given.1.1 in
    omega arith

-- still no file is taken
pub given_no_file : {S K : Type 0} (limit : ℕ) (form : Registers → K) (H : S → List K → Type 0)
    (old now : RemainingRows) (before after : S) (takes_files : Bool) → GivenSoFar limit form H old now before after
    → TakesNoFile takes_files old.header → TakesNoFile takes_files now.header
given_no_file limit form H old now before after takes_files p (inl is) = inl is
given_no_file limit form H old now before after takes_files p (inr new) =
    let same : now.header.encoding.version ≡ old.header.encoding.version =
    ap (λ (rules : LineRules). rules.encoding.version) p.same_rules in
    inr (omega arith)

-- ---- what a run to the end answers

-- all rows were given
pub all_given : {A S K : Type 0} (limit : ℕ) (form : Registers → K) (H : S → List K → Type 0) (x : A)
    (old mid new : RemainingRows) (before after : S) → GivenSoFar limit form H old mid before after
    → next_step limit mid ≡ Ok (None, new) → GivesRows {A = A} limit form H (Ok x) old new before after
all_given limit form H x old mid new before after p e =
    let end = step_end limit mid new e in (
      p.rows,
      p.takes,
      p.come
          ∙ ap (λ (xs : List (Result Row Error)). map answer p.rows ++ xs) end.0
          ∙ append-nil (map answer p.rows),
      ap (rows_to_come limit) (sym end.1) ∙ end.0,
      p.header ∙ header_at_end limit mid new e ∙ ap (λ (s : RemainingRows). s.header) end.1,
    )

-- what is to come after the rows so far
after_rows : {S K : Type 0} (limit : ℕ) (form : Registers → K) (H : S → List K → Type 0) (old mid : RemainingRows)
    (before after : S) (xs : List (Result Row Error)) → (p : GivenSoFar limit form H old mid before after)
    → rows_to_come limit mid ≡ xs → rows_to_come limit old ≡ map answer p.rows ++ xs
after_rows limit form H old mid before after xs p e =
    p.come ∙ ap (λ (ys : List (Result Row Error)). map answer p.rows ++ ys) e

-- what is to come where a row was refused on the way
refused_after : (limit : ℕ) (mid new : RemainingRows) (rows : List Row)
    → Path limit mid (rows ++ last_row new ∷ []) new
    → rows_to_come limit mid ≡ map answer rows ++ Ok (last_row new) ∷ rows_to_come limit new
refused_after limit mid new rows path =
    path_comes path
    ∙ ap (λ (xs : List (Result Row Error)). xs ++ rows_to_come limit new) (map-append answer rows (last_row new ∷ []))
    ∙ append_assoc (map answer rows) (Ok (last_row new) ∷ []) (rows_to_come limit new)

-- an instruction was refused
pub given_to_fault : {A S K : Type 0} (limit : ℕ) (form : Registers → K) (H : S → List K → Type 0)
    (r : Result A Error) (old mid new : RemainingRows) (before after : S) (d : Error) → IsErrAnd r (λ e. e ≡ d)
    → GivenSoFar limit form H old mid before after → OneStep limit (Err d) mid new
    → GivesRows limit form H r old new before after
given_to_fault limit form H (Ok x) old mid new before after d is p one = absurd is
given_to_fault limit form H (Err e) old mid new before after d is p one = (
  p.rows,
  p.takes,
  (λ ne.
      let fault = one.0 (λ none. ne (is ∙ none)) in (
        after_rows limit form H old mid before after (Err e ∷ []) p
            (step_fault limit mid d fault.0 ∙ ap (λ (x : Error). Err x ∷ []) (sym is)),
        come_nothing limit new mid.rest (ap (λ (t : RemainingRows). t.rest) fault.1),
      )),
  (λ none. inl (after_rows limit form H old mid before after (rows_to_come limit new) p
      (ap (rows_to_come limit) (sym (one.1 (sym is ∙ none)))))),
)

-- the sink refused a row of a run
pub given_to_refusal : {A : Type 0} (B : Type 0) {S K : Type 0} (limit : ℕ) (form : Registers → K)
    (H : S → List K → Type 0)
    (r : Result A Error) (old mid new : RemainingRows) (before middle after : S) (d : Error) → IsErrAnd r (λ e. e ≡ d)
    → GivenSoFar limit form H old mid before middle → GivesOnTheWay {A = B} limit form H (Err d) mid new middle after
    → GivesRows limit form H r old new before after
given_to_refusal B limit form H (Ok x) old mid new before middle after d is p given = absurd is
given_to_refusal B limit form H (Err e) old mid new before middle after d is p given = (
  p.rows ++ given.1.0,
  takes_rows form H before middle after p.rows given.1.0 p.takes given.1.2,
  (λ ne. absurd (ne (is ∙ given.0))),
  (λ same. inr (come_more limit old mid p.rows given.1.0 (Ok (last_row new) ∷ rows_to_come limit new) p.come
      (refused_after limit mid new given.1.0 given.1.1))),
)

-- the sink refused the row of a step
pub given_to_sink : {A S K : Type 0} (limit : ℕ) (form : Registers → K) (H : S → List K → Type 0)
    (r : Result A Error) (old mid new : RemainingRows) (before middle after : S) (d : Error) → IsErrAnd r (λ e. e ≡ d)
    → d ≡ Memory → GivenSoFar limit form H old mid before middle → next_step limit mid ≡ Ok (Some true, new)
    → ((rows : List K) → H middle rows → H after rows) → GivesRows limit form H r old new before after
given_to_sink limit form H (Ok x) old mid new before middle after d is none p e same = absurd is
given_to_sink limit form H (Err x) old mid new before middle after d is none p e same = (
  p.rows,
  takes_as_many H before middle after (in_form form p.rows) p.takes same,
  (λ ne. absurd (ne (is ∙ none))),
  (λ memory. inr (after_rows limit form H old mid before middle (Ok (last_row new) ∷ rows_to_come limit new) p
      (come_row limit mid new e))),
)

-- ---- the same where nothing but the sink takes memory

pub refused_by_run : {A : Type 0} (B : Type 0) {S K : Type 0} (limit : ℕ) (form : Registers → K)
    (H : S → List K → Type 0)
    (r : Result A Error) (old mid new : RemainingRows) (before middle after : S) (d : Error) → IsErrAnd r (λ e. e ≡ d)
    → GivenSoFar limit form H old mid before middle → GivesOnTheWay {A = B} limit form H (Err d) mid new middle after
    → IfErr r (λ e. RefusedByRows limit e old new)
refused_by_run B limit form H (Ok x) old mid new before middle after d is p given = absurd is
refused_by_run B limit form H (Err e) old mid new before middle after d is p given = (
  p.rows ++ given.1.0,
  inr (come_more limit old mid p.rows given.1.0 (Ok (last_row new) ∷ rows_to_come limit new) p.come
      (refused_after limit mid new given.1.0 given.1.1)),
)

pub refused_by_step : {A S K : Type 0} (limit : ℕ) (form : Registers → K) (H : S → List K → Type 0)
    (r : Result A Error) (old mid new : RemainingRows) (before after : S) (d : Error) → IsErrAnd r (λ e. e ≡ d)
    → GivenSoFar limit form H old mid before after → next_step limit mid ≡ Err d
    → IfErr r (λ e. RefusedByRows limit e old new)
refused_by_step limit form H (Ok x) old mid new before after d is p fault = absurd is
refused_by_step limit form H (Err e) old mid new before after d is p fault = (
  p.rows,
  inl (after_rows limit form H old mid before after (Err e ∷ []) p
      (step_fault limit mid d fault ∙ ap (λ (x : Error). Err x ∷ []) (sym is))),
)

pub refused_by_sink : {A S K : Type 0} (limit : ℕ) (form : Registers → K) (H : S → List K → Type 0)
    (r : Result A Error) (old mid new : RemainingRows) (before middle : S) (d : Error) → IsErrAnd r (λ e. e ≡ d)
    → GivenSoFar limit form H old mid before middle → next_step limit mid ≡ Ok (Some true, new)
    → IfErr r (λ e. RefusedByRows limit e old new)
refused_by_sink limit form H (Ok x) old mid new before middle d is p e = absurd is
refused_by_sink limit form H (Err x) old mid new before middle d is p e = (
  p.rows,
  inr (after_rows limit form H old mid before middle (Ok (last_row new) ∷ rows_to_come limit new) p
      (come_row limit mid new e)),
)
