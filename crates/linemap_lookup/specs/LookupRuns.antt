-- What `lookup` writes for addresses, one after the other, and how it stops.
use Rattle.std.specs.Prelude.{◌≡◌, ◌⊎◌, ℕ, Bool, false, ◌||◌, List, [], ◌∷◌, ◌++◌, flat_map, map, Option, Result}
use Rattle.std.specs.List.{list_any}
use Rattle.std.specs.Io.KnownBytes.{Appends}
use Rattle.addr2line_context.specs.Error.{Error}
use Rattle.addr2line_split.specs.Range.{Range}
use Rattle.linemap_output.specs.ErrorLine.{EndsAtFault, EndsOutOfMemory}
use Rattle.linemap_output.specs.WriterBytes.{AppendsPrefix}
use Rattle.linemap_output.specs.declared.ended.Ended.{Ended}
use Rattle.linemap_output.specs.declared.options.Options.{Options}
use Rattle.linemap_output.specs.declared.writing.WriteFault.{WriteFault}
use Rattle.linemap_lookup.specs.LookupAnswers.{AddressAnswer, Answer, AnswersAddress, AnswersAddresses, LookupState}

-- what an output and an error stream hold, where that is known
pub record Streams : Type 0 where
  pub out : Option (List ℕ)
  pub err : Option (List ℕ)

-- ---- one answer

-- nothing went wrong outside, so far
abbrev pub no_flags : Ended
no_flags = record { status = 0; memory = false; read = false; write = false }

-- The flags after an answer: its refusal of memory is recorded, and so is a fault of the error
-- stream.
pub record Records (old new : Ended) (is_memory_refused : Bool) : Type 0 where
  pub memory : new.memory ≡ (old.memory || is_memory_refused)
  pub write : new.write ≡ false → old.write ≡ false
  pub status : new.status ≡ old.status
  pub read : new.read ≡ old.read

-- An answer goes to the output, and its error lines to the error stream, unless that fails.
pub record WritesAnswer (x : Answer) (old new : Streams)
    (ended_old ended_new : Ended) : Type 0 where
  pub out : Appends old.out new.out x.text
  pub err : ended_new.write ≡ false → Appends old.err new.err x.errors
  pub flags : Records ended_old ended_new x.is_memory_refused

-- an end, with the flags that were set before
abbrev pub with_flags : Ended → Ended → Ended
with_flags earlier last = record {
  status = last.status;
  memory = earlier.memory || last.memory;
  read = earlier.read || last.read;
  write = earlier.write || last.write;
}

-- out of memory, or a fault of the output, and its error line
abbrev pub ReportsStop : Option (List ℕ) → Option (List ℕ) → Ended → Type 0
ReportsStop old new e =
    EndsOutOfMemory old new e ⊎ ((fault : WriteFault) × EndsAtFault fault old new e)

-- A prefix of an answer is written, and its error lines; then why there is no more.
pub record Stops (x : Answer) (old new : Streams) (ended e : Ended) : Type 0 where
  pub mid : Option (List ℕ)
  pub noted : Ended
  pub last : Ended
  pub out : AppendsPrefix old.out new.out x.text
  pub err : noted.write ≡ false → Appends old.err mid x.errors
  pub flags : Records ended noted x.is_memory_refused
  pub reports : ReportsStop mid new.err last
  pub end : e ≡ with_flags noted last

-- ---- addresses

-- no answer
abbrev pub nothing : Answer
nothing = record { text = []; errors = []; is_memory_refused = false }

-- the answers of some addresses, one after the other
abbrev pub answers_together : List AddressAnswer → Answer
answers_together xs = record {
  text = flat_map (λ x. x.answer.text) xs;
  errors = flat_map (λ x. x.answer.errors) xs;
  is_memory_refused = list_any (λ x. x.answer.is_memory_refused) xs;
}

module _ {S : Type 0} (answers : S → List ℕ → List ℕ → Result (Option (List ℕ)) Error → S → Type 0)
    (o : Options) (section : Option Range) where
  -- An address is answered, and its answer is written.
  pub record WritesAddress (a : Option ℕ) (before after : LookupState S) (old new : Streams)
      (ended_old ended_new : Ended) : Type 0 where
    pub answer : Answer
    pub answers_it : AnswersAddress answers o section before
        (record { address = a; answer = answer }) after
    pub writes : WritesAnswer answer old new ended_old ended_new

  -- Addresses are answered one after the other, and their answers are written.
  pub record WritesAddresses (addresses : List (Option ℕ)) (before after : LookupState S)
      (old new : Streams) (ended_old ended_new : Ended) : Type 0 where
    pub xs : List AddressAnswer
    pub are_addresses : map (λ x. x.address) xs ≡ addresses
    pub answer_them : AnswersAddresses answers o section before xs after
    pub writes : WritesAnswer (answers_together xs) old new ended_old ended_new

  -- this is the answer of the first address
  abbrev pub AnswersFirst : List (Option ℕ) → LookupState S → Answer → Type 0
  AnswersFirst [] before x = ⊥
  AnswersFirst (a ∷ rest) before x =
      (after : LookupState S)
      × AnswersAddress answers o section before (record { address = a; answer = x }) after

  -- The program stops before the answer of the first address is written whole.
  pub record StopsBefore (addresses : List (Option ℕ)) (before : LookupState S) (old new : Streams)
      (ended e : Ended) : Type 0 where
    pub partial : Answer
    pub is_answer : (partial ≡ nothing) ⊎ AnswersFirst addresses before partial
    pub stops : Stops partial old new ended e

  -- The first addresses are answered and their answers written; then the program stops.
  pub record StopsAmong (addresses : List (Option ℕ)) (before : LookupState S) (old new : Streams)
      (ended_old e : Ended) : Type 0 where
    pub first : List (Option ℕ)
    pub rest : List (Option ℕ)
    pub are_addresses : addresses ≡ first ++ rest
    pub state : LookupState S
    pub streams : Streams
    pub ended : Ended
    pub written : WritesAddresses first before state old streams ended_old ended
    pub stops : StopsBefore rest state streams new ended e

  -- ---- what is asked for

  module _ (asks : Bool → List (Option ℕ) → Type 0) where
    -- All addresses are answered that are asked for, until a read fails.
    pub record AnswersAll (before : LookupState S) (old new : Streams) (ended_old e : Ended)
        : Type 0 where
      pub addresses : List (Option ℕ)
      pub are_asked : asks e.read addresses
      pub after : LookupState S
      pub noted : Ended
      pub writes : WritesAddresses addresses before after old new ended_old noted
      pub end : e ≡ record noted { read = e.read }

    -- Some of them are answered, and then the program stops.
    pub record AnswersSome (before : LookupState S) (old new : Streams) (ended_old e : Ended)
        : Type 0 where
      pub addresses : List (Option ℕ)
      pub is_cut : Bool
      pub are_asked : asks is_cut addresses
      pub stops : StopsAmong addresses before old new ended_old e
