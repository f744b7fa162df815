-- Lookups of frames whose loads are answered by the split files of a source (DWARF 5, 7.3.2).
use Rattle.std.specs.Prelude.{◌≡◌, ◌≢◌, ◌⊎◌, ℕ, List, Option, Result, Ok, Err}
use Rattle.std.specs.List.{FoldsTo}
use Rattle.addr2line_context.specs.ContextCosts.{frame_looks, AsksForFrames}
use Rattle.addr2line_context.specs.ContextNames.{naming_in}
use Rattle.addr2line_context.specs.Contexts.{FileContext}
use Rattle.addr2line_context.specs.DwarfFiles.{DwarfFile}
use Rattle.addr2line_context.specs.Error.{Error}
use Rattle.addr2line_context.specs.Error.TheVariants.{Memory}
use Rattle.addr2line_context.specs.FirstAnswers.{FirstAnswers, PendingLoad, Lookup, output, pending}
use Rattle.addr2line_context.specs.Frames.{Frame}
use Rattle.addr2line_context.specs.LookupCosts.{AtMostLooks}
use Rattle.addr2line_context.specs.Lookups.{frames, answer_load}
use Rattle.addr2line_context.specs.PassedUnits.{KeepsAskedFunctions}
use Rattle.addr2line_context.specs.ResolvedUnits.{ResolvedUnit}
use Rattle.addr2line_context.specs.SettledLookups.{frames_in}
use Rattle.addr2line_context.specs.FrameLoads.{IsDone, DecidesFrames}
use Rattle.addr2line_context.specs.declared.frame_loads.DecidedFrames.{DecidedFrames}
use Rattle.addr2line_split.specs.SplitLoading.{GetsFile}
use Rattle.addr2line_loader.specs.LoadedFiles.{LoadedFile}
use Rattle.addr2line_loader.specs.ResolvedFiles.{ResolvedFile, ReadsForFrames, answered_context}

-- the first answers to loads, and a source, both after the same calls
pub record LoadState (S : Type 0) : Type 0 where
  pub answers : FirstAnswers
  pub source : S

-- the frames of an address under first answers
abbrev pub frames_by_answers : FileContext → ℕ → FirstAnswers → Lookup (Result (List Frame) Error)
frames_by_answers c a answers = frames c (naming_in c) answers a

module _ {S : Type 0} (answers : S → List ℕ → List ℕ → Result (Option (List ℕ)) Error → S → Type 0)
    (c : FileContext) (a : ℕ) where
  -- The lookup waits for a load, whose answer is the file that the source has for it, or none.
  pub record AnswersLoad (before : LoadState S) (file : Option DwarfFile) (after : LoadState S)
      : Type 0 where
    pub wait : PendingLoad
    pub waits : frames_by_answers c a before.answers ≡ pending wait
    pub gets : GetsFile answers wait.load before.source (Ok file) after.source
    pub answers_are : after.answers ≡ (answer_load c before.answers wait.number file).1

  -- one load after the other
  abbrev pub AnswersLoads : LoadState S → List (Option DwarfFile) → LoadState S → Type 0
  AnswersLoads before files after = FoldsTo AnswersLoad before files after

  -- nothing was asked, or the source was asked for the file of one load, which isn't answered
  abbrev pub MayAsk : LoadState S → LoadState S → Type 0
  MayAsk before after =
      (after.answers ≡ before.answers)
      × ((after.source ≡ before.source)
      ⊎ ((wait : PendingLoad) × (file : Result (Option DwarfFile) Error)
      × (frames_by_answers c a before.answers ≡ pending wait)
      × GetsFile answers wait.load before.source file after.source))

  -- What the lookup finds once its loads are answered; it waits for no other.
  pub record Finds (before : LoadState S) (found : Result (List Frame) Error) (after : LoadState S)
      : Type 0 where
    pub files : List (Option DwarfFile)
    pub loads : AnswersLoads before files after
    pub is_found : frames_by_answers c a after.answers ≡ output found

  -- Out of memory: some of the loads are answered, and nothing else is.
  pub record Stops (before after : LoadState S) : Type 0 where
    pub files : List (Option DwarfFile)
    pub last : LoadState S
    pub loads : AnswersLoads before files last
    pub asks : MayAsk last after

  -- One load is answered, or out of memory: then it is answered, or nothing is.
  abbrev pub AnswersOneOrNoMemory : LoadState S → Result (Unit {0}) Error → LoadState S → Type 0
  AnswersOneOrNoMemory before (Ok done) after =
      (file : Option DwarfFile) × AnswersLoad before file after
  AnswersOneOrNoMemory before (Err e) after =
      (e ≡ Memory)
      × (MayAsk before after ⊎ ((file : Option DwarfFile) × AnswersLoad before file after))

  -- all loads are answered, and the lookup is decided in these units; it waits for no other
  pub record Decides (us : List ResolvedUnit) (before : LoadState S) (decided : DecidedFrames)
      (after : LoadState S) : Type 0 where
    pub files : List (Option DwarfFile)
    pub loads : AnswersLoads before files after
    pub decides : DecidesFrames us (frames_by_answers c a after.answers) decided

  -- or out of memory
  abbrev pub DecidesOrNoMemory : List ResolvedUnit → LoadState S → Result DecidedFrames Error
      → LoadState S → Type 0
  DecidesOrNoMemory us before (Ok decided) after = Decides us before decided after
  DecidesOrNoMemory us before (Err e) after = (e ≡ Memory) × Stops before after

  -- what the lookup finds, or out of memory; `see` is what a contract sees of frames
  abbrev pub FindsAsOrNoMemory : {F : Type 0} → (F → List Frame) → LoadState S → Result F Error
      → LoadState S → Type 0
  FindsAsOrNoMemory see before (Ok found) after = Finds before (Ok (see found)) after
  FindsAsOrNoMemory see before (Err e) after =
      (e ≢ Memory → Finds before (Err e) after) × (e ≡ Memory → Stops before after)

-- a file after some calls, and a source after them
abbrev pub load_state : {S : Type 0} → LoadedFile → S → LoadState S
load_state file source = record { answers = file.answers; source = source }

-- A lookup of frames in a file leaves it with more first answers, and else as it was.
pub record SourceFindsFrames {S F : Type 0}
    (answers : S → List ℕ → List ℕ → Result (Option (List ℕ)) Error → S → Type 0) (a : ℕ)
    (see : F → List Frame) (old : LoadedFile) (source : S) (result : Result F Error)
    (new : LoadedFile) (source_after : S) : Type 0 where
  pub same : new ≡ record old { answers = new.answers }
  pub finds : FindsAsOrNoMemory answers old.context a see (load_state old source) result
      (load_state new source_after)

-- The same with what is kept of the file's units. Unless it is out of memory, the functions of the
-- units that the lookup asks are kept, but of one whose load needs an answer. Where the frames are
-- found without an answer, it takes no more looks at what is kept than a lookup in a context.
pub record AfterFrames {S F : Type 0}
    (answers : S → List ℕ → List ℕ → Result (Option (List ℕ)) Error → S → Type 0) (a : ℕ)
    (see : F → List Frame) (old : ResolvedFile) (source : S) (result : Result F Error)
    (new : ResolvedFile) (source_after : S) : Type 0 where
  pub found : SourceFindsFrames answers a see old.file source result new.file source_after
  pub units : ReadsForFrames (answered_context new.file) a old.units new.units
  pub asked : result ≢ Err Memory
      → KeepsAskedFunctions (AsksForFrames (answered_context new.file) a) new.units
  pub cost : IsDone (frames_in (answered_context old.file) a)
      → AtMostLooks (frame_looks (answered_context old.file) a) old.units new.units
