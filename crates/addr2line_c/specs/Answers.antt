-- What calls do with an open file, and what they write.
use Rattle.std.specs.Prelude.{◌≡◌, ◌≢◌, ◌⊎◌, ◌<◌, ◌≤◌, ℕ, Bool, true, false, ℤ, List, [], ◌∷◌, ◌++◌, length, map, slice_get, Option, Some, None, option_map, option_and_then, Result, Ok, Err}
use Rattle.std.specs.Borrow.{Bor}
use Rattle.addr2line_context.specs.Error.{Error}
use Rattle.addr2line_context.specs.Error.TheVariants.{Memory}
use Rattle.addr2line_context.specs.DwarfFiles.{DwarfFile}
use Rattle.addr2line_context.specs.FirstAnswers.{SplitLoad}
use Rattle.addr2line_context.specs.Frames.{Frame}
use Rattle.addr2line_context.specs.Lines.{Location, Stretch}
use Rattle.addr2line_context.specs.LoadAnswers.{AnswersOrNoMemory}
use Rattle.addr2line_context.specs.Lookups.{answer_load}
use Rattle.addr2line_context.specs.OwnedPlaces.{stretch_of}
use Rattle.addr2line_context.specs.RangeWalks.{stretches_left}
use Rattle.addr2line_context.specs.Repetition.{Listing, no_items, prepend}
use Rattle.addr2line_context.specs.declared.owned_places.OwnedStretch.{OwnedStretch}
use Rattle.addr2line_split.specs.ElfSymbols.{NamedSymbol}
use Rattle.addr2line_split.specs.SplitLoading.{file_for}
use Rattle.addr2line_loader.specs.DecompressedFiles.{decompressed_or_same}
use Rattle.addr2line_loader.specs.ResolvedFiles.{AfterPlace}
use Rattle.addr2line_loader.specs.SourceAnswers.{SourceFindsFrames}
use Rattle.addr2line_c.specs.COutputs.{has, location_out, location_written, or_empty, range_out, range_written}
use Rattle.addr2line_c.specs.Copies.{frame_of}
use Rattle.addr2line_c.specs.Numbers.{done_number, error_number}
use Rattle.addr2line_c.specs.ShownFrames.{ShownFrame, name_text, shown_frame}
use Rattle.addr2line_c.specs.Sources.{answers_none, no_files}
use Rattle.addr2line_c.specs.declared.c_types.A2lLoad.{A2lLoad}
use Rattle.addr2line_c.specs.declared.c_types.A2lLocation.{A2lLocation}
use Rattle.addr2line_c.specs.declared.c_types.A2lRange.{A2lRange}
use Rattle.addr2line_c.specs.declared.c_types.A2lSection.{A2lSection}
use Rattle.addr2line_c.specs.declared.c_types.A2lSymbol.{A2lSymbol}
use Rattle.addr2line_c.specs.declared.numbers.TheConstants.{OK, PAST_END, WRONG_FILE}
use Rattle.addr2line_c.specs.declared.open_file.OpenFile.{OpenFile}

-- ---- places, symbols and sections

-- the fields of a location that was found
abbrev pub WritesPlace : Result (Option Location) Error → A2lLocation → Type 0
WritesPlace (Ok (Some l)) out = location_written out ≡ location_out l
WritesPlace _ out = ⊥

-- What a lookup of a place leaves: the loader is as `Loader::find_location` leaves it, and the rest
-- of the file as it was.
pub record LeavesPlace {A : Type 0} (address : ℕ) (result : Result A Error) (old left : OpenFile)
    : Type 0 where
  pub loader : AfterPlace address result old.loader left.loader
  pub same : left ≡ record old { loader = left.loader }

-- the name of a symbol, raw or demangled, and its address
abbrev pub WritesSymbol : ℕ → Option NamedSymbol → A2lSymbol → Type 0
WritesSymbol names (Some s) out =
    (out.name.now ≡ name_text names None s.name) × (out.address ≡ s.address)
WritesSymbol names None out = ⊥

-- the symbol that a call lends, if there is one
abbrev pub LendsSymbol : ℕ → Option NamedSymbol → Option A2lSymbol → Type 0
LendsSymbol names symbol (Some out) = WritesSymbol names symbol out
LendsSymbol names symbol None = symbol ≡ None

-- where a section begins and ends
abbrev pub WritesSection : Option (ℕ × ℕ) → A2lSection → Type 0
WritesSection (Some ends) out = (out.begin ≡ ends.0) × (out.end ≡ ends.1)
WritesSection None out = ⊥

-- ---- frames

-- the frames that were found are shown, unless they were refused, or out of memory
abbrev pub ShowsOrNoMemory : ℕ → Result (List Frame) Error → Result (Unit {0}) Error
    → List ShownFrame → Type 0
ShowsOrNoMemory names (Ok frames) (Ok done) shown = shown ≡ map (shown_frame names) frames
ShowsOrNoMemory names (Ok frames) (Err e) shown = e ≡ Memory
ShowsOrNoMemory names (Err e) (Ok done) shown = ⊥
ShowsOrNoMemory names (Err e) (Err refusal) shown = refusal ≡ e

-- The frames of an address are found, each load that the lookup waits for being answered by no
-- file, and kept.
pub record KeepsFrames (address names : ℕ) (old new : OpenFile) (done : Result (Unit {0}) Error)
    : Type 0 where
  pub found : Result (List Frame) Error
  pub finds : SourceFindsFrames answers_none address (λ frames. frames) old.loader.file no_files
      found new.loader.file no_files
  pub shows : ShowsOrNoMemory names found done (map frame_of new.frames.items)
  pub same : new ≡ record old { loader = new.loader; frames = new.frames }

-- ---- stretches

-- the stretches that are left of the walk of a file
abbrev pub left_of : OpenFile → Listing (Unit {0}) Stretch
left_of f = stretches_left f.loader.file.context.context.units f.walk

-- Stretches are read: the file is the same, and so is all but the walk and what is kept of it.
pub record SameButWalk (old new : OpenFile) : Type 0 where
  pub file : new.loader.file ≡ old.loader.file
  pub same : new ≡ record old { loader = new.loader; walk = new.walk; stretches = new.stretches }

-- One more stretch is kept, the first of those that were left, if one was left; else nothing
-- changes.
abbrev pub NextIsKept : OpenFile → OpenFile → Result Bool Error → Type 0
NextIsKept old new (Ok true) =
    (x : Stretch)
    × (map stretch_of new.stretches.items ≡ map stretch_of old.stretches.items ++ x ∷ [])
    × (left_of old ≡ prepend (x ∷ []) (left_of new))
NextIsKept old new (Ok false) =
    (new.stretches ≡ old.stretches) × (left_of old ≡ no_items (Ok tt))
    × (left_of new ≡ left_of old)
NextIsKept old new (Err e) =
    (new.stretches.items ≡ old.stretches.items) × (e ≢ Memory → left_of old ≡ no_items (Err e))
    × (left_of new ≡ left_of old)

-- what a call does that keeps one more stretch, if one is left
pub record KeepsNext (old new : OpenFile) (result : Result Bool Error) : Type 0 where
  pub same : SameButWalk old new
  pub next : NextIsKept old new result

-- none is kept only where there is no room, none was left, or the first is refused
abbrev pub StretchesEnd : ℕ → OpenFile → OpenFile → Result (Unit {0}) Error → Type 0
StretchesEnd count old new (Ok done) =
    new.stretches.items ≡ [] → 0 < count → left_of old ≡ no_items (Ok tt)
StretchesEnd count old new (Err e) =
    (new.stretches.items ≡ []) × (e ≢ Memory → left_of old ≡ no_items (Err e))

-- The first of the stretches that were left are kept, no more than asked for, and the walk goes on
-- after them.
pub record KeepsStretches (count : ℕ) (old new : OpenFile) (result : Result (Unit {0}) Error)
    : Type 0 where
  pub same : SameButWalk old new
  pub first : left_of old ≡ prepend (map stretch_of new.stretches.items) (left_of new)
  pub room : length new.stretches.items ≤ count
  pub end : StretchesEnd count old new result

-- the first of the stretches that are left, no more than asked for; none only where none is asked
-- for or left
pub record AreNext (count : ℕ) (old : OpenFile) (stretches : List OwnedStretch) : Type 0 where
  pub rest : Listing (Unit {0}) Stretch
  pub first : left_of old ≡ prepend (map stretch_of stretches) rest
  pub room : length stretches ≤ count
  pub end : stretches ≡ [] → 0 < count → left_of old ≡ no_items (Ok tt)

-- they are lent, or the first is refused
abbrev pub LendsNext : ℕ → OpenFile → Result (Bor (List OwnedStretch)) Error → Type 0
LendsNext count old (Ok s) = AreNext count old s.now
LendsNext count old (Err e) = e ≢ Memory → left_of old ≡ no_items (Err e)

-- the stretches that are lent
abbrev pub lent : Result (Bor (List OwnedStretch)) Error → List OwnedStretch
lent (Ok s) = s.now
lent (Err e) = []

-- What a call that lends stretches leaves: these are kept, and the walk goes on after them.
pub record LeavesNext (result : Result (Bor (List OwnedStretch)) Error) (old left : OpenFile)
    : Type 0 where
  pub same : SameButWalk old left
  pub kept : left.stretches.items ≡ lent result
  pub rest : left_of old ≡ prepend (map stretch_of (lent result)) (left_of left)

-- at least one stretch is written, and these are the first of those that were left
pub record WritesStretches (old : OpenFile) (count : ℕ) (out : List A2lRange) : Type 0 where
  pub stretches : List Stretch
  pub rest : Listing (Unit {0}) Stretch
  pub first : left_of old ≡ prepend stretches rest
  pub count_is : length stretches ≡ count
  pub some : 0 < count
  pub written : (i : ℕ) → i < count
      → option_map range_written (slice_get out i) ≡ option_map range_out (slice_get stretches i)

-- some are written, none was left, or the first is refused
abbrev pub GivesStretches : OpenFile → ℤ → ℕ → List A2lRange → Type 0
GivesStretches old result count out =
    ((result ≡ OK) × WritesStretches old count out)
    ⊎ ((result ≡ PAST_END) × (left_of old ≡ no_items (Ok tt)))
    ⊎ ((e : Error) × (result ≡ error_number e) × (e ≢ Memory → left_of old ≡ no_items (Err e)))

-- ---- split files

-- the fields of a load
pub record WritesLoad (load : SplitLoad) (out : A2lLoad) : Type 0 where
  pub directory : out.directory.now ≡ or_empty (option_map (λ v. v.bytes) load.comp_dir)
  pub name : out.name.now ≡ or_empty (option_map (λ v. v.bytes) load.path)
  pub id : out.id ≡ load.dwo_id
  pub has_directory : out.has_directory ≡ has load.comp_dir
  pub has_name : out.has_name ≡ has load.path

-- the bytes of a split file, decompressed, if they can be, or as they are
abbrev pub bytes_by : Bool → List ℕ → List ℕ
bytes_by true bytes = decompressed_or_same bytes
bytes_by false bytes = bytes

-- the split file of a load that some bytes are; none for a load without a name
abbrev pub split_file_of : Bool → SplitLoad → List ℕ → Option DwarfFile
split_file_of decompress load bytes =
    option_and_then (λ name. file_for load (Some (bytes_by decompress bytes))) load.path

-- the unit of a token is decided by a file, or was before; or out of memory
pub record Decides (token : ℕ) (file : Option DwarfFile) (old new : OpenFile) (result : ℤ)
    : Type 0 where
  pub done : Result (Unit {0}) Error
  pub answers : AnswersOrNoMemory done old.loader.file.answers new.loader.file.answers
      (answer_load old.loader.file.context old.loader.file.answers token file)
  pub number : result ≡ done_number done
  pub file_is : new.loader.file
      ≡ record old.loader.file { answers = new.loader.file.answers }
  pub same : new ≡ record old { loader = new.loader }

-- it is, if there is a file; else nothing changes
abbrev pub DecidesIfAny : ℕ → Option DwarfFile → OpenFile → OpenFile → ℤ → Type 0
DecidesIfAny token (Some file) old new result = Decides token (Some file) old new result
DecidesIfAny token None old new result = (result ≡ WRONG_FILE) × (new ≡ old)

-- an answer by some bytes to a load with the token of its unit, if there is one
abbrev pub AnswersLoad : List ℕ → Option (SplitLoad × ℕ) → OpenFile → OpenFile → ℤ → Type 0
AnswersLoad bytes None old new result = (result ≡ PAST_END) × (new ≡ old)
AnswersLoad bytes (Some load) old new result =
    DecidesIfAny load.1 (split_file_of old.decompresses load.0 bytes) old new result
    ⊎ ((result ≡ error_number Memory) × (new ≡ old))

-- an answer by no file
abbrev pub SkipsLoad : Option (SplitLoad × ℕ) → OpenFile → OpenFile → ℤ → Type 0
SkipsLoad None old new result = (result ≡ PAST_END) × (new ≡ old)
SkipsLoad (Some load) old new result = Decides load.1 None old new result
