-- From the steps of the program to what it prints.
use Rattle.std.proofs.Common.{◌≡◌, ◌∙◌, Bool, true, false, List, [], ℕ, Option, Some, None, Result, Ok, Err, map, Global, String, string_bytes, inl, inr, refl, sym, ap, subst, true≢false}
use Rattle.std.specs.Prelude.{◌||◌, Vec, option_map}
use Rattle.std.specs.Io.KnownBytes.{Appends}
use Rattle.std.proofs.lemmas.Simd.{map-map}
use Rattle.addr2line_context.specs.Error.{Error}
use Rattle.addr2line_split.specs.Range.{Range}
use Rattle.addr2line_loader.specs.LoadedFiles.{LoadedFile}
use Rattle.linemap_meaning.specs.AnswerTexts.{word_address}
use Rattle.linemap_output.specs.ErrorLine.{EndsAtFault, Fails, error_line}
use Rattle.linemap_output.specs.declared.ended.Ended.{Ended}
use Rattle.linemap_output.specs.declared.options.Options.{Options}
use Rattle.linemap_output.specs.declared.writing.WriteFault.{WriteFault}
use Rattle.linemap_output.specs.declared.writing.WriteFault.TheVariants.{BrokenPipe, Failed}
use Rattle.linemap_output.proofs.WritingLemmas.{appends_nothing}
use Rattle.linemap_lookup.specs.LineReads.{AsksLines}
use Rattle.linemap_lookup.specs.LookupAnswers.{Answer, LookupState}
use Rattle.linemap_lookup.specs.LookupRuns.{AnswersAll, AnswersSome, ReportsStop, Stops, StopsAmong, Streams, WritesAddresses}
use Rattle.linemap_output.specs.Outcome.{Outcome}
use Rattle.linemap_lookup.specs.Programs.{Asks, LacksMemory, LacksMemoryFor, LacksMemoryForAll, Prints, Question, RefusesOrLacksMemory, Runs, all_memory_line, answers_outcome, words_of}

-- ---- flags

or_true : (a b : Bool) → b ≡ true → (a || b) ≡ true
or_true true b is = refl
or_true false b is = is

fault_writes : (fault : WriteFault) (old new : Option (List ℕ)) (e : Ended) → EndsAtFault fault old new e
    → e.write ≡ true
fault_writes Failed old new e ends = ends.2
fault_writes BrokenPipe old new e ends = ap (λ (x : Ended). x.write) ends.1

-- a program that stops has set a flag
no_stop : (x : Answer) (old new : Streams) (ended e : Ended) → Stops x old new ended e → e.memory ≡ false
    → e.write ≡ false → ⊥
no_stop x old new ended e stops memory write = at stops.reports
  where
    at : ReportsStop stops.mid new.err stops.last → ⊥
    at (inl ends) =
        true≢false
        (sym (ap (λ (y : Ended). y.memory) stops.end ∙ or_true stops.noted.memory stops.last.memory ends.1) ∙ memory)
    at (inr fault) =
        true≢false
        (sym (ap (λ (y : Ended). y.write) stops.end
        ∙ or_true stops.noted.write stops.last.write (fault_writes fault.0 _ _ stops.last fault.1)) ∙ write)

-- ---- refusals

module _ (old new : Option (List ℕ)) (e : Ended) where
  -- the line of a refusal is written, with its text
  pub line_written : (message detail text memory_line : List ℕ) → detail ≡ text
      → Fails (error_line message detail) old new e → e.memory ≡ false
      → RefusesOrLacksMemory (error_line message text) memory_line old new e
  line_written message detail text memory_line is fails memory =
      inr (subst (λ d. Fails (error_line message d) old new e) is fails, memory)

-- a refusal for memory sets the memory flag
memory_set_for_all : (o : Options) (file : LoadedFile) (old new : Option (List ℕ)) (e : Ended)
    → LacksMemoryForAll o file old new e → e.memory ≡ true
memory_set_for_all o file old new e lacks =
    let reported : LacksMemory all_memory_line old new e = lacks.2 in
    reported.1

memory_set : (o : Options) (image : List ℕ) (supplement : Option (List ℕ)) (old new : Option (List ℕ)) (e : Ended)
    → LacksMemoryFor o image supplement old new e → e.memory ≡ true
memory_set o image supplement old new e (inl lacks) = lacks.1
memory_set o image supplement old new e (inr lacks) = memory_set_for_all o lacks.0 old new e lacks.2

module _ {S : Type 0} (answers : S → List ℕ → List ℕ → Result (Option (List ℕ)) Error → S → Type 0)
    (o : Options) (source : S) (input_old input_new : Option (List ℕ)) where
  -- ---- what is printed

  -- where no flag is set but that of a read, all is printed
  prints_by : (lacks : Option (List ℕ) → Option (List ℕ) → Ended → Type 0)
      (sets : (old new : Option (List ℕ)) (e : Ended) → lacks old new e → e.memory ≡ true)
      (q : Result Question (List ℕ)) (old new : Streams) (e : Ended)
      → Runs answers o source input_old input_new lacks q old new e
      → e.memory ≡ false → e.write ≡ false
      → (p : Outcome) × Prints answers o source input_old input_new q e.read p × Appends old.out new.out p.out
      × Appends old.err new.err p.err × (e.status ≡ p.status)
  prints_by lacks sets q old new e (inl stop) memory write =
      absurd (true≢false (sym (sets old.err new.err e stop.0) ∙ memory))
  prints_by lacks sets (Err line) old new e (inr refused) memory write = (
    record { out = []; err = line; status = 1 },
    refl,
    appends_nothing old.out new.out refused.1,
    refused.0.0.whole write,
    refused.0.0.status,
  )
  prints_by lacks sets (Ok q) old new e (inr (inl all)) memory write =
      let writes = all.writes.writes in (
        answers_outcome all.writes.xs,
        record {
          addresses = all.addresses;
          are_asked = all.are_asked;
          xs = all.writes.xs;
          are_addresses = all.writes.are_addresses;
          after = all.after;
          answer_them = all.writes.answer_them;
          none_refused = sym (ap (λ (x : Ended). x.memory) all.end ∙ writes.flags.memory) ∙ memory;
          is_outcome = refl;
        },
        writes.out,
        writes.err (sym (ap (λ (x : Ended). x.write) all.end) ∙ write),
        ap (λ (x : Ended). x.status) all.end ∙ writes.flags.status,
      )
  prints_by lacks sets (Ok q) old new e (inr (inr some)) memory write =
      absurd (no_stop some.stops.stops.partial _ new _ e some.stops.stops.stops memory write)

  -- that, of an image and its supplement
  pub prints : (image : List ℕ) (supplement : Option (List ℕ)) (q : Result Question (List ℕ)) (old new : Streams)
      (e : Ended) → Runs answers o source input_old input_new (LacksMemoryFor o image supplement) q old new e
      → e.memory ≡ false → e.write ≡ false
      → (p : Outcome) × Prints answers o source input_old input_new q e.read p × Appends old.out new.out p.out
      × Appends old.err new.err p.err × (e.status ≡ p.status)
  prints image supplement = prints_by (LacksMemoryFor o image supplement) (memory_set o image supplement)

  -- and of a file that is loaded
  pub prints_loaded : (file : LoadedFile) (q : Result Question (List ℕ)) (old new : Streams)
      (e : Ended) → Runs answers o source input_old input_new (LacksMemoryForAll o file) q old new e
      → e.memory ≡ false → e.write ≡ false
      → (p : Outcome) × Prints answers o source input_old input_new q e.read p × Appends old.out new.out p.out
      × Appends old.err new.err p.err × (e.status ≡ p.status)
  prints_loaded file = prints_by (LacksMemoryForAll o file) (memory_set_for_all o file)

-- ---- addresses

module _ {S : Type 0} {answers : S → List ℕ → List ℕ → Result (Option (List ℕ)) Error → S → Type 0} {o : Options}
    {section : Option Range} {asks : Bool → List (Option ℕ) → Type 0} {addresses : List (Option ℕ)}
    {before : LookupState S} {old new : Streams} {ended e : Ended} (asked : asks false addresses) where
  -- those that are asked for are all answered
  pub all_answered : {after : LookupState S} → ended.read ≡ false
      → WritesAddresses answers o section addresses before after old new ended e
      → AnswersAll answers o section asks before old new ended e
  all_answered {after} clear writes = record {
    addresses = addresses;
    are_asked = subst (λ is_cut. asks is_cut addresses) (sym (writes.writes.flags.read ∙ clear)) asked;
    after = after;
    noted = e;
    writes = writes;
    end = refl;
  }

  -- or some are
  pub some_answered : StopsAmong answers o section addresses before old new ended e
      → AnswersSome answers o section asks before old new ended e
  some_answered stops = record { addresses = addresses; is_cut = false; are_asked = asked; stops = stops }

-- those of words
pub words_asked : (o : Options) (words : Vec (String Global) Global) (items : List (String Global))
    (input : Option (List ℕ)) → o.words ≡ Some words → items ≡ words.items
    → Asks None (words_of o) input input false (map (λ (w : String Global). word_address (string_bytes w)) items)
words_asked o words items input is same =
    subst
    (λ ws. Asks None ws input input false (map (λ (w : String Global). word_address (string_bytes w)) items))
    (sym (ap (option_map (λ (v : Vec (String Global) Global). map string_bytes v.items)) is))
    (sym (map-map word_address string_bytes items) ∙ ap (λ xs. map word_address (map string_bytes xs)) same, refl, refl)

-- those of lines
pub lines_answered : {S : Type 0} {answers : S → List ℕ → List ℕ → Result (Option (List ℕ)) Error → S → Type 0}
    {o : Options} {section : Option Range} {input_old input_new : Option (List ℕ)} {words : Option (List (List ℕ))}
    {before : LookupState S} {old new : Streams} {ended e : Ended} → words ≡ None
    → AnswersAll answers o section (AsksLines input_old input_new) before old new ended e
    → AnswersAll answers o section (Asks None words input_old input_new) before old new ended e
lines_answered is answered = rw is answered
