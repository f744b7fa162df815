-- What loops over rows keep of sequences.
use Rattle.std.proofs.Common.{◌≡◌, ◌≢◌, ℕ, ◌-◌, ◌<◌, ◌≤◌, ◌+◌, Bool, true, false, cond, List, [], ◌∷◌, ◌++◌, map, Option, Some, None, Result, Ok, Err, refl, sym, ap, subst, ◌∙◌, arith, append_assoc, append-nil, length-drop}
use Rattle.std.proofs.lemmas.List.{map-append}
use Rattle.std.specs.Prelude.{unwrap_or}
use Rattle.std.specs.Option.{option_or}
use Rattle.std.specs.Result.{IsErrAnd}
use Rattle.gimli_lines_machine.specs.Error.{Error}
use Rattle.gimli_lines_machine.specs.Error.TheVariants.{Memory}
use Rattle.gimli_lines_machine.specs.View.{View, prefix, bytes_left}
use Rattle.gimli_lines_machine.specs.Readers.{Holds}
use Rattle.gimli_lines_header.specs.LineHeaders.{LineHeader}
use Rattle.gimli_lines_machine.specs.declared.registers.Registers.{Registers}
use Rattle.gimli_lines_machine.specs.Machine.{start, after_row}
use Rattle.gimli_lines_rows.specs.ProgramInstructions.{rules_of}
use Rattle.gimli_lines_machine.specs.Repetition.{answer}
use Rattle.gimli_lines_rows.specs.ProgramRows.{Row, RemainingRows, last_row, next_step, NextRow, ToNextRow, Path}
use Rattle.gimli_lines_rows.specs.RowSequences.{RowSequence, registers_of, pieces_after, pieces, start_of, end_of, program_rows, IsSequence, AreSequences, SequencesOf, StartIs, NoEnd, EndsOnce, NextPiece, NoPiece, NextSequence}
use Rattle.gimli_lines_rows.proofs.RowPaths.{path_comes, path_path}
use Rattle.gimli_lines_rows.proofs.LineRowSteps.{step_end}
use Rattle.gimli_lines_rows.proofs.ResumedRows.{path_took, path_rules, path_smaller, resumed_rows}

abbrev Rows : Type 0
Rows = List Registers

-- ---- rows without an end, and with one

abbrev pieces_with : Bool → Registers → Rows → Rows → List Rows
pieces_with b r before rest = cond b ((before ++ r ∷ []) ∷ pieces_after [] rest) (pieces_after (before ++ r ∷ []) rest)

pub no_end_none : NoEnd []
no_end_none before more = ap (λ (xs : Rows). pieces_after xs more) (sym (append-nil before))

-- the rows so far, and one more
after_all : (rows : Rows) (r : Registers) → NoEnd rows → (before more : Rows)
    → pieces_after before ((rows ++ r ∷ []) ++ more) ≡ pieces_after (before ++ rows) (r ∷ more)
after_all rows r none before more = ap (pieces_after before) (append_assoc rows (r ∷ []) more) ∙ none before (r ∷ more)

pub no_end_more : (rows : Rows) (r : Registers) → NoEnd rows → r.end_sequence ≡ false → NoEnd (rows ++ r ∷ [])
no_end_more rows r none is before more =
    after_all rows r none before more
    ∙ ap (λ (b : Bool). pieces_with b r (before ++ rows) more) is
    ∙ ap (λ (xs : Rows). pieces_after xs more) (append_assoc before rows (r ∷ []))

pub ends_once : (rows : Rows) (r : Registers) → NoEnd rows → r.end_sequence ≡ true → EndsOnce (rows ++ r ∷ [])
ends_once rows r none is before more =
    after_all rows r none before more
    ∙ ap (λ (b : Bool). pieces_with b r (before ++ rows) more) is
    ∙ ap (λ (xs : Rows). xs ∷ pieces_after [] more) (append_assoc before rows (r ∷ []))

-- ---- ends

pub start_more : (rows : Rows) (r : Registers) (o : Option ℕ) → StartIs o rows → r.end_sequence ≡ false
    → StartIs (option_or o (Some r.address)) (rows ++ r ∷ [])
start_more [] r o h is = (is, ap (λ (x : Option ℕ). option_or x (Some r.address)) h)
start_more (s ∷ rows) r o h is = (h.0, ap (λ (x : Option ℕ). option_or x (Some r.address)) h.1)

pub start_at_end : (rows : Rows) (r : Registers) (o : Option ℕ) → StartIs o rows → r.end_sequence ≡ true
    → unwrap_or o 0 ≡ start_of (rows ++ r ∷ [])
start_at_end [] r o h is = ap (λ (x : Option ℕ). unwrap_or x 0) h ∙ ap (λ (b : Bool). cond b 0 r.address) (sym is)
start_at_end (s ∷ rows) r o h is =
    ap (λ (x : Option ℕ). unwrap_or x 0) h.1 ∙ ap (λ (b : Bool). cond b 0 s.address) (sym h.0)

pub end_at_end : (rows : Rows) (r : Registers) → end_of (rows ++ r ∷ []) ≡ r.address
end_at_end [] r = refl
end_at_end (s ∷ []) r = refl
end_at_end (s ∷ t ∷ rows) r = end_at_end (t ∷ rows) r

-- ---- one sequence

-- the rows so far of a sequence, from the state where it began to the present one
pub record SearchesFrom (limit : ℕ) (start_address : Option ℕ) (old now : RemainingRows) : Type 0 where
  pub rows : List Row
  pub path : Path limit old rows now
  pub none_ends : NoEnd (map registers_of rows)
  pub starts : StartIs start_address (map registers_of rows)

pub searched_none : (limit : ℕ) (s : RemainingRows) → Path limit s [] s → SearchesFrom limit None s s
searched_none limit s p = record { rows = []; path = p; none_ends = no_end_none; starts = refl }

registers_more : (rows : List Row) (r : Row) → map registers_of (rows ++ r ∷ []) ≡ map registers_of rows ++ r.registers
    ∷ []
registers_more rows r = map-append registers_of rows (r ∷ [])

pub searched_more : (limit : ℕ) (o : Option ℕ) (old mid new : RemainingRows) → SearchesFrom limit o old mid
    → Path limit mid (last_row new ∷ []) new → new.last.end_sequence ≡ false
    → SearchesFrom limit (option_or o (Some new.last.address)) old new
searched_more limit o old mid new s p is =
    let same = registers_more s.rows (last_row new) in
    record {
      rows = s.rows ++ last_row new ∷ [];
      path = path_path s.path p;
      none_ends = subst NoEnd (sym same) (no_end_more (map registers_of s.rows) new.last s.none_ends is);
      starts = subst (StartIs (option_or o (Some new.last.address))) (sym same)
          (start_more (map registers_of s.rows) new.last o s.starts is);
    }

-- the bytes of a path
pub path_holds : {limit : ℕ} {s u : RemainingRows} {rows : List Row} → Path limit s rows u → Holds s.rest u.rest
path_holds {s = s} {u = u} p =
    let t = path_took p in
    let fits : t.count ≤ bytes_left s.rest = t.fits in
    let place : u.rest.first ≡ s.rest.first + t.count = ap (λ (v : View). v.first) t.rest in
    let left : bytes_left u.rest ≡ bytes_left s.rest - t.count = ap bytes_left t.rest
    ∙ length-drop t.count s.rest.bytes in
    (omega arith, omega arith)

pub path_count : {limit : ℕ} {s u : RemainingRows} {rows : List Row} → (p : Path limit s rows u)
    → u.rest.first - s.rest.first ≡ (path_took p).count
path_count {s = s} {u = u} p =
    let t = path_took p in
    let place : u.rest.first ≡ s.rest.first + t.count = ap (λ (v : View). v.first) t.rest in
    omega arith

-- the piece of a row that ends it
pub piece_found : (limit : ℕ) (o : Option ℕ) (old mid new : RemainingRows) (q : RowSequence)
    → SearchesFrom limit o old mid → Path limit mid (last_row new ∷ []) new
    → new.registers ≡ after_row (rules_of new.header) new.last
    → new.last.end_sequence ≡ true → q.start ≡ unwrap_or o 0 → q.end ≡ new.last.address
    → q.instructions ≡ prefix (new.rest.first - old.rest.first) old.rest → NextPiece limit q old new
piece_found limit o old mid new q s p clear is starts ends taken =
    let same = registers_more s.rows (last_row new) in
    record {
      rows = s.rows ++ last_row new ∷ [];
      path = path_path s.path p;
      piece = subst EndsOnce (sym same) (ends_once (map registers_of s.rows) new.last s.none_ends is);
      starts = starts ∙ start_at_end (map registers_of s.rows) new.last o s.starts is ∙ ap start_of (sym same);
      ends = ends ∙ sym (end_at_end (map registers_of s.rows) new.last) ∙ ap end_of (sym same);
      instructions = taken;
      begins = clear ∙ ap (λ (b : Bool). cond b (start (rules_of new.header)) (row_kept new.last)) is;
    }
  where
    row_kept : Registers → Registers
    row_kept r = record r { basic_block = false; prologue_end = false; epilogue_begin = false; discriminator = 0 }

pub piece_none : (limit : ℕ) (o : Option ℕ) (old mid new : RemainingRows) → SearchesFrom limit o old mid
    → Path limit mid [] new
    → next_step limit new ≡ Ok (None, new) → NoPiece limit old new
piece_none limit o old mid new s p ended =
    let same : s.rows ++ [] ≡ s.rows = append-nil s.rows in
    record {
      rows = s.rows;
      path = subst (λ (rows : List Row). Path limit old rows new) same (path_path s.path p);
      none_ends = s.none_ends;
      at_end = ended;
    }

answers_joined : (xs ys : List Row) (end : List (Result Row Error)) → map answer xs ++ (map answer ys ++ end)
    ≡ map answer (xs ++ ys) ++ end
answers_joined xs ys end = sym (append_assoc (map answer xs) (map answer ys) end)
    ∙ ap (λ (zs : List (Result Row Error)). zs ++ end) (sym (map-append answer xs ys))

-- a fault on the way
pub piece_fault : (limit : ℕ) (r : Result (Option RowSequence) Error) (o : Option ℕ) (old mid new : RemainingRows)
    (d : Error) → IsErrAnd r (λ e. e ≡ d) → SearchesFrom limit o old mid → NextRow limit (Err d) mid new
    → NextSequence limit r old new
piece_fault limit (Ok x) o old mid new d h s next = absurd h
piece_fault limit (Err e) o old mid new d h s next = λ ne. (
  s.rows,
  path_comes s.path ∙ ap (λ (xs : List (Result Row Error)). map answer s.rows ++ xs) ((next.0 (λ is. ne (h ∙ is))).0
      ∙ ap (λ (x : Error). Err x ∷ []) (sym h)),
)

-- ---- all sequences

-- sequences that are resumed alike under every header of these rules
abbrev pub AreResumed : ℕ → LineHeader → List Rows → List RowSequence → Type 0
AreResumed limit h0 [] [] = Unit {0}
AreResumed limit h0 (p ∷ ps) (q ∷ qs) =
    ((h : LineHeader) → rules_of h ≡ rules_of h0 → h.standard_opcode_lengths.bytes ≡ h0.standard_opcode_lengths.bytes
    → IsSequence limit h p q)
    × AreResumed limit h0 ps qs
AreResumed limit h0 [] (q ∷ qs) = ⊥
AreResumed limit h0 (p ∷ ps) [] = ⊥

resumed_more : (limit : ℕ) (h0 : LineHeader) (ps : List Rows) (qs : List RowSequence) (p : Rows) (q : RowSequence)
    → AreResumed limit h0 ps qs → AreResumed limit h0 (p ∷ []) (q ∷ [])
    → AreResumed limit h0 (ps ++ p ∷ []) (qs ++ q ∷ [])
resumed_more limit h0 [] [] p q all one = one
resumed_more limit h0 (a ∷ ps) (b ∷ qs) p q all one = (all.0, resumed_more limit h0 ps qs p q all.1 one)
resumed_more limit h0 [] (b ∷ qs) p q all one = absurd all
resumed_more limit h0 (a ∷ ps) [] p q all one = absurd all

sequences_under : (limit : ℕ) (h0 h : LineHeader) (ps : List Rows) (qs : List RowSequence) → rules_of h ≡ rules_of h0
    → h.standard_opcode_lengths.bytes ≡ h0.standard_opcode_lengths.bytes → AreResumed limit h0 ps qs
    → AreSequences limit h ps qs
sequences_under limit h0 h [] [] same counts all = tt
sequences_under limit h0 h (p ∷ ps) (q ∷ qs) same counts all =
    (all.0 h same counts, sequences_under limit h0 h ps qs same counts all.1)
sequences_under limit h0 h [] (q ∷ qs) same counts all = absurd all
sequences_under limit h0 h (p ∷ ps) [] same counts all = absurd all

-- the sequences so far
pub record FindsSequences (limit : ℕ) (old now : RemainingRows) (qs : List RowSequence) : Type 0 where
  pub rows : List Row
  pub path : Path limit old rows now
  pub pieces_found : List Rows
  pub cuts : (more : Rows) → pieces_after [] (map registers_of rows ++ more) ≡ pieces_found ++ pieces_after [] more
  pub each : AreResumed limit old.header pieces_found qs
  pub begins : now.registers ≡ start (rules_of now.header)

pub sequences_none : (limit : ℕ) (s : RemainingRows) → Path limit s [] s → s.registers ≡ start (rules_of s.header)
    → FindsSequences limit s s []
sequences_none limit s p begins =
    record { rows = []; path = p; pieces_found = []; cuts = λ more. refl; each = tt; begins = begins }

-- a piece is resumed under every header of the rules
piece_resumed : (limit : ℕ) (old mid new : RemainingRows) (q : RowSequence) → (f : NextPiece limit q mid new)
    → rules_of mid.header ≡ rules_of old.header → mid.header.standard_opcode_lengths.bytes
    ≡ old.header.standard_opcode_lengths.bytes → mid.registers ≡ start (rules_of mid.header) → (h : LineHeader)
    → rules_of h ≡ rules_of old.header → h.standard_opcode_lengths.bytes ≡ old.header.standard_opcode_lengths.bytes
    → IsSequence limit h (map registers_of f.rows) q
piece_resumed limit old mid new q f same counts begins h same_h counts_h =
    let rules : rules_of h ≡ rules_of mid.header = same_h ∙ sym same in
    record {
      starts = f.starts;
      ends = f.ends;
      resumes = resumed_rows f.path h (start (rules_of h)) (start (rules_of h)) q.instructions
          (new.rest.first - mid.rest.first)
          rules (counts_h ∙ sym counts) (ap start rules ∙ sym begins) (path_count f.path) f.instructions;
    }

pub sequences_more : (limit : ℕ) (old mid new : RemainingRows) (qs rs : List RowSequence) (q : RowSequence)
    → FindsSequences limit old mid qs → NextPiece limit q mid new → rs ≡ qs ++ q ∷ [] → FindsSequences limit old new rs
sequences_more limit old mid new qs rs q all f pushed =
    let ours = map registers_of all.rows in
    let theirs = map registers_of f.rows in
    let same = path_rules all.path in
    record {
      rows = all.rows ++ f.rows;
      path = path_path all.path f.path;
      pieces_found = all.pieces_found ++ theirs ∷ [];
      cuts = λ more.
          ap (λ (xs : Rows). pieces_after [] (xs ++ more)) (map-append registers_of all.rows f.rows)
          ∙ ap (pieces_after []) (append_assoc ours theirs more)
          ∙ all.cuts (theirs ++ more)
          ∙ ap (λ (xs : List Rows). all.pieces_found ++ xs) (f.piece [] more)
          ∙ sym (append_assoc all.pieces_found (theirs ∷ []) (pieces_after [] more));
      each = subst (AreResumed limit old.header (all.pieces_found ++ theirs ∷ [])) (sym pushed)
          (resumed_more limit old.header all.pieces_found qs theirs q all.each
          (piece_resumed limit old mid new q f same.0 same.1 all.begins, tt));
      begins = f.begins;
    }

-- the end of the program
pub pieces_found_all : {A : Type 0} (limit : ℕ) (see : A → LineHeader × List RowSequence) (x : A) (h : LineHeader)
    (mid new : RemainingRows) (qs : List RowSequence) → FindsSequences limit (program_rows h) mid qs
    → NoPiece limit mid new → (see x).0 ≡ new.header → (see x).1 ≡ qs → SequencesOf limit see (Ok x) h
pieces_found_all limit see x h mid new qs all f header sequences =
    let ours = map registers_of all.rows in
    let theirs = map registers_of f.rows in
    let path : Path limit (program_rows h) (all.rows ++ f.rows) new = path_path all.path f.path in
    let same = path_rules path in
    let rest : pieces_after [] theirs ≡ [] = ap (pieces_after []) (sym (append-nil theirs)) ∙ f.none_ends [] [] in
    let found : pieces (map registers_of (all.rows ++ f.rows)) ≡ all.pieces_found =
    ap (pieces_after []) (map-append registers_of all.rows f.rows) ∙ all.cuts theirs
    ∙ ap (λ (xs : List Rows). all.pieces_found ++ xs) rest ∙ append-nil all.pieces_found in
    let here = sequences_under limit (program_rows h).header new.header all.pieces_found qs same.0 same.1 all.each in (
      all.rows ++ f.rows,
      path_comes path ∙ ap (λ (xs : List (Result Row Error)). map answer (all.rows ++ f.rows) ++ xs)
          ((step_end limit new new f.at_end).0) ∙ append-nil (map answer (all.rows ++ f.rows)),
      (new, path, f.at_end, header),
      subst (λ (g : LineHeader). AreSequences limit g (pieces (map registers_of (all.rows ++ f.rows))) (see x).1)
          (sym header)
          (subst (λ (ps : List Rows). AreSequences limit new.header ps (see x).1) (sym found)
          (subst (AreSequences limit new.header all.pieces_found) (sym sequences) here)),
    )

-- a fault after the sequences so far
pub sequences_fault : {A : Type 0} (limit : ℕ) (see : A → LineHeader × List RowSequence) (r : Result A Error)
    (h : LineHeader) (mid new : RemainingRows) (qs : List RowSequence) (d : Error) → IsErrAnd r (λ e. e ≡ d)
    → FindsSequences limit (program_rows h) mid qs → NextSequence limit (Err d) mid new → SequencesOf limit see r h
sequences_fault limit see (Ok x) h mid new qs d is all next = absurd is
sequences_fault limit see (Err e) h mid new qs d is all next = λ ne.
    let f = next (λ same. ne (is ∙ same)) in (
      all.rows ++ f.0,
      path_comes all.path ∙ ap (λ (xs : List (Result Row Error)). map answer all.rows ++ xs)
          (f.1 ∙ ap (λ (x : Error). map answer f.0 ++ Err x ∷ []) (sym is))
          ∙ answers_joined all.rows f.0 (Err e ∷ []),
    )

-- ---- measures

-- a row was shown
pub row_smaller : (limit : ℕ) (s u : RemainingRows) → Path limit s (last_row u ∷ []) u
    → bytes_left u.rest < bytes_left s.rest
row_smaller limit s u p = path_smaller p (λ none. absurd cc)

some_rows : (rows : List Row) → EndsOnce (map registers_of rows) → rows ≢ []
some_rows [] once = absurd (none_some (once [] []))
  where
    none_some : pieces_after [] [] ≡ [] ∷ [] → ⊥
    none_some k = cc
some_rows (r ∷ rows) once = λ none. absurd cc

pub piece_smaller : (limit : ℕ) (q : RowSequence) (old new : RemainingRows) → NextPiece limit q old new
    → bytes_left new.rest < bytes_left old.rest
piece_smaller limit q old new f = path_smaller f.path (some_rows f.rows f.piece)

-- ---- what calls answered

pub path_to_row : (limit : ℕ) (old new : RemainingRows) (b : Bool) → b ≡ true → ToNextRow limit (Ok b) old new
    → Path limit old (last_row new ∷ []) new × (new.registers ≡ after_row (rules_of new.header) new.last)
path_to_row limit old new b is h = subst (λ (x : Bool). ToNextRow limit (Ok x) old new) is h

pub path_to_end : (limit : ℕ) (old new : RemainingRows) (b : Bool) → b ≡ false → ToNextRow limit (Ok b) old new
    → Path limit old [] new × (next_step limit new ≡ Ok (None, new))
path_to_end limit old new b is h = subst (λ (x : Bool). ToNextRow limit (Ok x) old new) is h

abbrev view_ok : View → Result View Error
view_ok v = Ok v

pub up_to_is : (before rest old new field : View) → before ≡ old → rest ≡ new
    → view_ok (prefix (rest.first - before.first) before) ≡ Ok field → field ≡ prefix (new.first - old.first) old
up_to_is before rest old new field same rest_is e =
    let is : prefix (rest.first - before.first) before ≡ field = cc in
    sym is ∙ ap (λ (v : View). prefix (rest.first - v.first) v) same
    ∙ ap (λ (v : View). prefix (v.first - old.first) old) rest_is

pub next_some : (limit : ℕ) (o : Option RowSequence) (q : RowSequence) (old new : RemainingRows) → o ≡ Some q
    → NextSequence limit (Ok o) old new → NextPiece limit q old new
next_some limit o q old new is h = subst (λ (x : Option RowSequence). NextSequence limit (Ok x) old new) is h

pub next_ended : (limit : ℕ) (o : Option RowSequence) (old new : RemainingRows) → o ≡ None
    → NextSequence limit (Ok o) old new → NoPiece limit old new
next_ended limit o old new is h = subst (λ (x : Option RowSequence). NextSequence limit (Ok x) old new) is h

abbrev rows_ok : RemainingRows → Result RemainingRows Error
rows_ok s = Ok s

pub rows_are : (s t : RemainingRows) → rows_ok s ≡ Ok t → s ≡ t
rows_are s t e = cc

pub memory_refused : {A : Type 0} (limit : ℕ) (see : A → LineHeader × List RowSequence) (r : Result A Error)
    (h : LineHeader) → IsErrAnd r (λ e. e ≡ Memory) → SequencesOf limit see r h
memory_refused limit see (Ok x) h is = absurd is
memory_refused limit see (Err e) h is = λ ne. absurd (ne is)
