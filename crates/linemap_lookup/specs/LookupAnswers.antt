-- What `lookup` answers for an address, by what is found for it in a loaded file and by the answers
-- of a source of split files.
use Rattle.std.specs.Prelude.{◌≡◌, ℕ, ◌+◌, ◌-◌, Bool, true, false, ◌||◌, nat_lt, List, [], ◌++◌, codes, Option, Some, None, option_map, unwrap_or, Result, Ok, Err, if◌then◌else◌}
use Rattle.std.specs.List.{FoldsTo}
use Rattle.gimli_core_base.specs.ErrorText.{error_text}
use Rattle.addr2line_context.specs.Calls.{ReturnsOrNoMemory}
use Rattle.addr2line_context.specs.Contexts.{location}
use Rattle.addr2line_context.specs.Error.{Error}
use Rattle.addr2line_context.specs.Error.TheVariants.{Memory}
use Rattle.addr2line_context.specs.Frames.{Frame}
use Rattle.addr2line_context.specs.Lines.{Location}
use Rattle.addr2line_split.specs.ElfSymbols.{symbol_at}
use Rattle.addr2line_split.specs.Range.{Range}
use Rattle.addr2line_loader.specs.LoadedFiles.{LoadedFile, symbol_name}
use Rattle.addr2line_loader.specs.SourceAnswers.{SourceFindsFrames}
use Rattle.linemap_output.specs.ErrorLine.{error_line}
use Rattle.linemap_output.specs.declared.options.Options.{Options}
use Rattle.linemap_lookup.specs.AddressTexts.{address_text, hexadecimal, location_text_if_any}
use Rattle.linemap_lookup.specs.FrameTexts.{frames_text}
use Rattle.linemap_lookup.specs.FirstFrames.{AreFirstFrames}

-- what is printed, to the output and to the error stream, and whether memory was refused
pub record Answer : Type 0 where
  pub text : List ℕ
  pub errors : List ℕ
  pub is_memory_refused : Bool

-- ---- refusals

-- what was found; nothing where that was refused
abbrev pub found_or : {A : Type 0} → A → Result A Error → A
found_or nothing (Ok x) = x
found_or nothing (Err e) = nothing

-- the error line of a refusal for an address
abbrev pub refusal_line : List ℕ → ℕ → Error → List ℕ
refusal_line message a e = error_line message (hexadecimal a ++ (codes ": " ++ error_text e))

abbrev pub refusal_line_if_any : {A : Type 0} → List ℕ → ℕ → Result A Error → List ℕ
refusal_line_if_any message a (Ok x) = []
refusal_line_if_any message a (Err e) = refusal_line message a e

abbrev pub is_memory : Error → Bool
is_memory Memory = true
is_memory e = false

abbrev pub is_memory_refused : {A : Type 0} → Result A Error → Bool
is_memory_refused (Ok x) = false
is_memory_refused (Err e) = is_memory e

-- ---- what is found

-- the line of a place, and the refusal of the place if it was refused
abbrev pub place_answer : Options → ℕ → Result (Option Location) Error → Answer
place_answer o a found = record {
  text = location_text_if_any o (found_or None found) ++ codes "\n";
  errors = refusal_line_if_any (codes "failed to find location for ") a found;
  is_memory_refused = is_memory_refused found;
}

-- the error line of a frame for which memory was refused
abbrev pub next_refusal_line : ℕ → Bool → List ℕ
next_refusal_line a false = []
next_refusal_line a true = refusal_line (codes "failed to get next frame for ") a Memory

-- the frames that were read, with the refusal of all or of the next one
abbrev pub frames_answer : Options → ℕ → Option (List ℕ) → Result (List Frame) Error → List Frame
    → Bool → Answer
frames_answer o a symbol found frames is_refused = record {
  text = frames_text o symbol frames;
  errors = refusal_line_if_any (codes "failed to find frames for ") a found
      ++ next_refusal_line a is_refused;
  is_memory_refused = is_memory_refused found || is_refused;
}

-- functions are asked for, or the calls that are inlined there
abbrev pub asks_frames : Options → Bool
asks_frames o = o.functions || o.inlines

-- what is printed where nothing is looked up
abbrev pub no_answer : Options → Answer
no_answer o = record {
  text = if asks_frames o then frames_text o None [] else location_text_if_any o None ++ codes "\n";
  errors = [];
  is_memory_refused = false;
}

-- ---- one address

-- a loaded file and a source, both after the same lookups
pub record LookupState (S : Type 0) : Type 0 where
  pub file : LoadedFile
  pub source : S

-- the address that is looked up, if there is one: an address below the size of a section counts
-- from the section's begin
abbrev pub looked_up : Option Range → Option ℕ → Option ℕ
looked_up section None = None
looked_up None (Some a) = Some a
looked_up (Some r) (Some a) = if nat_lt a (r.end - r.begin) then Some (r.begin + a) else None

-- an answer with its address before it, which is 0 if it can't be read; in the form of
-- `llvm-symbolizer` an empty line follows
abbrev pub with_address : Options → Option ℕ → Answer → Answer
with_address o address x =
    record x {
      text =
          address_text o (unwrap_or address 0)
          ++ (x.text ++ (if o.llvm then codes "\n" else []));
    }

-- an address as it was written, if it can be read, and its answer
pub record AddressAnswer : Type 0 where
  pub address : Option ℕ
  pub answer : Answer

-- The answer is that of a place, which is found or refused. Nothing changes.
pub record AnswersPlace {S : Type 0} (o : Options) (a : ℕ) (before : LookupState S) (x : Answer)
    (after : LookupState S) : Type 0 where
  pub found : Result (Option Location) Error
  pub finds : ReturnsOrNoMemory found (location before.file.context.context a)
  pub same : after ≡ before
  pub answer : x ≡ place_answer o a found

-- The answer is that of frames, which are found or refused.
pub record AnswersFrames {S : Type 0}
    (answers : S → List ℕ → List ℕ → Result (Option (List ℕ)) Error → S → Type 0)
    (o : Options) (a : ℕ) (before : LookupState S) (x : Answer) (after : LookupState S) : Type 0
  where
    pub found : Result (List Frame) Error
    pub finds : SourceFindsFrames answers a (λ fs. fs) before.file before.source found after.file
        after.source
    pub frames : List Frame
    pub is_refused : Bool
    pub are_first : AreFirstFrames (found_or [] found) frames is_refused
    pub answer : x ≡ frames_answer o a (option_map symbol_name (symbol_at a before.file.symbols))
        found frames is_refused

module _ {S : Type 0} (answers : S → List ℕ → List ℕ → Result (Option (List ℕ)) Error → S → Type 0)
    (o : Options) where
  -- by frames or by a place
  abbrev pub AnswersLookup : Bool → ℕ → LookupState S → Answer → LookupState S → Type 0
  AnswersLookup true a before x after = AnswersFrames answers o a before x after
  AnswersLookup false a before x after = AnswersPlace o a before x after

  -- an address that is looked up, or none
  abbrev pub AnswersIfAny : Option ℕ → LookupState S → Answer → LookupState S → Type 0
  AnswersIfAny None before x after = (x ≡ no_answer o) × (after ≡ before)
  AnswersIfAny (Some a) before x after = AnswersLookup (asks_frames o) a before x after

  -- The answer is that of what is looked up, with the address before it.
  pub record AnswersAddress (section : Option Range) (before : LookupState S) (x : AddressAnswer)
      (after : LookupState S) : Type 0 where
    pub found : Answer
    pub finds : AnswersIfAny (looked_up section x.address) before found after
    pub answer : x.answer ≡ with_address o x.address found

  -- one address after the other
  abbrev pub AnswersAddresses : Option Range → LookupState S → List AddressAnswer → LookupState S
      → Type 0
  AnswersAddresses section before xs after = FoldsTo (AnswersAddress section) before xs after
