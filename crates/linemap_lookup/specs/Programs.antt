-- The program `lookup`: what it prints, and how it ends.
use Rattle.std.specs.Prelude.{◌≡◌, ◌⊎◌, ℕ, ◌-◌, ◌^◌, Bool, true, false, nat_lt, List, [], ◌∷◌, codes, map, Option, Some, None, option_map, Result, Ok, Err, IsOk, if◌then◌else◌}
use Rattle.std.specs.String.{string_bytes}
use Rattle.std.specs.Io.KnownBytes.{Keeps}
use Rattle.gimli_core_base.specs.ErrorText.{error_text}
use Rattle.addr2line_context.specs.Contexts.{Context, stretches}
use Rattle.addr2line_context.specs.Error.{Error}
use Rattle.addr2line_context.specs.Lines.{Stretch}
use Rattle.addr2line_context.specs.Repetition.{Listing}
use Rattle.addr2line_context.specs.Results.{◌>>=◌}
use Rattle.addr2line_split.specs.ElfImages.{Image, section_range}
use Rattle.addr2line_split.specs.LoadErrors.{text_of}
use Rattle.addr2line_split.specs.Range.{Range}
use Rattle.addr2line_loader.specs.LoadedFiles.{LoadedFile, loaded_file, range_of}
use Rattle.linemap_meaning.specs.AnswerTexts.{word_address}
use Rattle.linemap_output.specs.ErrorLine.{Fails, error_line}
use Rattle.linemap_output.specs.Outcome.{Outcome}
use Rattle.linemap_output.specs.declared.ended.Ended.{Ended}
use Rattle.linemap_output.specs.declared.options.Options.{Options}
use Rattle.linemap_lookup.specs.LineReads.{AsksLines}
use Rattle.linemap_lookup.specs.LookupAnswers.{AddressAnswer, AnswersAddresses, LookupState}
use Rattle.linemap_lookup.specs.LookupRuns.{AnswersAll, AnswersSome, Streams, answers_together, no_flags}

-- ---- what is asked about

-- a file that is loaded, the section that addresses count from, and all addresses of the file,
-- where those are asked for
pub record Question : Type 0 where
  pub file : LoadedFile
  pub section : Option Range
  pub all : Option (List ℕ)

-- a value; the error line of a refusal
abbrev pub or_line : {A E : Type 0} → List ℕ → (E → List ℕ) → Result A E → Result A (List ℕ)
or_line message text (Ok x) = Ok x
or_line message text (Err e) = Err (error_line message (text e))

-- the range of a section, or that there is none of this name
abbrev pub range_or_line : List ℕ → Option Range → Result (Option Range) (List ℕ)
range_or_line name None = Err (error_line (codes "cannot find section ") name)
range_or_line name (Some r) = Ok (Some r)

-- the range of the section of a name, if one is asked for
abbrev pub section_if_any : Option (List ℕ) → Image → Result (Option Range) (List ℕ)
section_if_any None image = Ok None
section_if_any (Some name) image =
    range_or_line name (option_map range_of (section_range name image))

-- whether an address is above the last one, if there is one
abbrev pub is_above : Option ℕ → ℕ → Bool
is_above None a = true
is_above (Some last) a = nat_lt last a

-- those addresses that are above the last one, and above all before them
abbrev pub ascending_after : Option ℕ → List ℕ → List ℕ
ascending_after last [] = []
ascending_after last (a ∷ rest) =
    if is_above last a then a ∷ ascending_after (Some a) rest else ascending_after last rest

-- the addresses where stretches begin, in ascending order, or their refusal
abbrev pub begins_of : Listing (Unit {0}) Stretch → Result (List ℕ) Error
begins_of l = do
  end ← l.ending
  Ok (ascending_after None (map (λ s. s.address) l.items))

-- all addresses of a file, if they are asked for
abbrev pub all_if_asked : Bool → Context → Result (Option (List ℕ)) (List ℕ)
all_if_asked false c = Ok None
all_if_asked true c = do
  all ← or_line (codes "failed to find all addresses: ") error_text
      (begins_of (stretches c 0 (2 ^ 64 - 1)))
  Ok (Some all)

-- what is asked about a file, or the error line of the first refusal: of the section, or of all
-- addresses
abbrev pub question_of : Options → LoadedFile → Result Question (List ℕ)
question_of o file = do
  section ← section_if_any (option_map string_bytes o.section) file.image
  all ← all_if_asked o.all file.context.context
  Ok (record { file = file; section = section; all = all })

-- or, before these, that of the image or its supplement
abbrev pub question : Options → List ℕ → Option (List ℕ) → Result Question (List ℕ)
question o image supplement = do
  file ← or_line (codes "failed to load debug info: ") text_of (loaded_file image supplement)
  question_of o file

-- ---- how a refusal is reported

-- the line of a refusal is written
abbrev pub EndsWithLine : List ℕ → Option (List ℕ) → Option (List ℕ) → Ended → Type 0
EndsWithLine line old new e = Fails line old new e × (e.memory ≡ false)

-- the line of a refusal for memory is written, and the memory flag is set
abbrev pub LacksMemory : List ℕ → Option (List ℕ) → Option (List ℕ) → Ended → Type 0
LacksMemory line old new e = Fails line old new e × (e.memory ≡ true)

-- the line of a file or a supplement that is refused for memory
abbrev pub load_memory_line : List ℕ
load_memory_line = error_line (codes "failed to load debug info: ") (codes "L1")

-- the line of all addresses that are refused for memory
abbrev pub all_memory_line : List ℕ
all_memory_line = error_line (codes "failed to find all addresses: ") (codes "E1")

-- a refusal is reported by its own line, or by one for memory
abbrev pub RefusesOrLacksMemory : List ℕ → List ℕ → Option (List ℕ) → Option (List ℕ) → Ended
    → Type 0
RefusesOrLacksMemory line memory_line old new e =
    LacksMemory memory_line old new e ⊎ EndsWithLine line old new e

-- the refusal of what is asked is reported
abbrev pub RefusesBy : {A : Type 0} → Result A (List ℕ) → Option (List ℕ) → Option (List ℕ) → Ended
    → Type 0
RefusesBy asked old new e =
    (line : List ℕ) × (asked ≡ Err line) × EndsWithLine line old new e

-- or one for memory is
abbrev pub RefusesByOrLacksMemory : {A : Type 0} → Result A (List ℕ) → List ℕ → Option (List ℕ)
    → Option (List ℕ) → Ended → Type 0
RefusesByOrLacksMemory asked memory_line old new e =
    LacksMemory memory_line old new e ⊎ RefusesBy asked old new e

-- Memory is refused for what is asked about a file: for all addresses, which are asked for, once
-- the section is found.
abbrev pub LacksMemoryForAll : Options → LoadedFile → Option (List ℕ) → Option (List ℕ) → Ended
    → Type 0
LacksMemoryForAll o file old new e =
    (o.all ≡ true) × IsOk (section_if_any (option_map string_bytes o.section) file.image)
    × LacksMemory all_memory_line old new e

-- or, before these, for the image or its supplement
abbrev pub LacksMemoryFor : Options → List ℕ → Option (List ℕ) → Option (List ℕ)
    → Option (List ℕ) → Ended → Type 0
LacksMemoryFor o image supplement old new e =
    LacksMemory load_memory_line old new e
    ⊎ ((file : LoadedFile) × (loaded_file image supplement ≡ Ok file)
    × LacksMemoryForAll o file old new e)

-- ---- the addresses

-- the words of the options, if there are any
abbrev pub words_of : Options → Option (List (List ℕ))
words_of o = option_map (λ ws. map string_bytes ws.items) o.words

-- The addresses that are asked for: all, those of words, or those of the lines that are read,
-- which end where a read fails.
abbrev pub Asks : Option (List ℕ) → Option (List (List ℕ)) → Option (List ℕ) → Option (List ℕ)
    → Bool → List (Option ℕ) → Type 0
Asks (Some all) words old new is_cut addresses =
    (addresses ≡ map Some all) × (new ≡ old) × (is_cut ≡ false)
Asks None (Some words) old new is_cut addresses =
    (addresses ≡ map word_address words) × (new ≡ old) × (is_cut ≡ false)
Asks None None old new is_cut addresses = AsksLines old new is_cut addresses

-- ---- what is printed

-- the answers, and their error lines
abbrev pub answers_outcome : List AddressAnswer → Outcome
answers_outcome xs = record {
  out = (answers_together xs).text;
  err = (answers_together xs).errors;
  status = 0;
}

module _ {S : Type 0} (answers : S → List ℕ → List ℕ → Result (Option (List ℕ)) Error → S → Type 0)
    (o : Options) (source : S) (input_old input_new : Option (List ℕ)) where
  -- before the first address
  abbrev pub first_state : LoadedFile → LookupState S
  first_state file = record { file = file; source = source }

  -- The answers to the addresses that are asked for, one after the other. Memory is refused for
  -- none of them.
  pub record PrintsAnswers (q : Question) (is_cut : Bool) (p : Outcome) : Type 0 where
    pub addresses : List (Option ℕ)
    pub are_asked : Asks q.all (words_of o) input_old input_new is_cut addresses
    pub xs : List AddressAnswer
    pub are_addresses : map (λ x. x.address) xs ≡ addresses
    pub after : LookupState S
    pub answer_them : AnswersAddresses answers o q.section (first_state q.file) xs after
    pub none_refused : (answers_together xs).is_memory_refused ≡ false
    pub is_outcome : p ≡ answers_outcome xs

  -- those, or the line of a refusal alone
  abbrev pub Prints : Result Question (List ℕ) → Bool → Outcome → Type 0
  Prints (Err line) is_cut p = p ≡ record { out = []; err = line; status = 1 }
  Prints (Ok q) is_cut p = PrintsAnswers q is_cut p

  -- ---- how it ends

  -- All is answered, or some; or there is a refusal, and nothing is printed but its line.
  abbrev pub RunsOn : Result Question (List ℕ) → Streams → Streams → Ended → Type 0
  RunsOn (Err line) old new e = EndsWithLine line old.err new.err e × Keeps old.out new.out
  RunsOn (Ok q) old new e =
      AnswersAll answers o q.section (Asks q.all (words_of o) input_old input_new)
      (first_state q.file) old new no_flags e
      ⊎ AnswersSome answers o q.section (Asks q.all (words_of o) input_old input_new)
      (first_state q.file) old new no_flags e

  -- or memory is refused before that, in one of the ways that are given
  abbrev pub Runs : (Option (List ℕ) → Option (List ℕ) → Ended → Type 0)
      → Result Question (List ℕ) → Streams → Streams → Ended → Type 0
  Runs lacks_memory q old new e =
      (lacks_memory old.err new.err e × Keeps old.out new.out) ⊎ RunsOn q old new e
