-- The next of the remaining frames, and those after it.
use Rattle.std.proofs.Common.{◌≡◌, ◌≢◌, ℕ, List, [], ◌∷◌, ◌++◌, Option, Some, None, Result, Ok, Err, refl, sym, ap, ◌∙◌}
use Rattle.std.specs.Prelude.{OnOk, OnErr}
use Rattle.gimli_units_entries.specs.Error.{Error}
use Rattle.gimli_units_entries.specs.Error.TheVariants.{Memory, UnexpectedEof, BadUnsignedLeb128, BadSignedLeb128, UnknownReservedLength, UnsupportedOffset, UnsupportedAddressSize, AbbreviationTagZero, AttributeNameZero, AttributeFormZero, InvalidAbbreviationChildren, DuplicateAbbreviationCode, InvalidAbbreviationCode, UnknownForm, InvalidImplicitConst, UnknownVersion, UnsupportedUnitType, UnsupportedSegmentSize, OffsetOutOfBounds, NoEntryAtGivenOffset, MissingUnitDie, AddressOverflow, UnknownRangeListsEntry, UnknownLocListsEntry, MinimumInstructionLengthZero, MaximumOperationsPerInstructionZero, LineRangeZero, OpcodeBaseZero, MissingFileEntryFormatPath, ExpectedStringAttributeValue, BadUtf8, OffsetSumOverflow, NoSuchUnit}
use Rattle.gimli_units_entries.specs.Calls.{ReturnsOrNoMemory}
use Rattle.gimli_units_entries.specs.View.{View}
use Rattle.addr2line_ranges.specs.Lines.{Location}
use Rattle.addr2line_ranges.specs.InlinedCalls.{Call}
use Rattle.addr2line_ranges.specs.Frames.{Frame, FunctionAt, call_site, frame, frames_in}
use Rattle.addr2line_functions.specs.BorrowedFrames.{frames_at_place}
use Rattle.addr2line_functions.specs.CallNumbers.{calls_of_numbers}
use Rattle.addr2line_functions.specs.NextFrames.{NextOf}

module _ (language : Option ℕ) (files : List (List ℕ)) where
  -- the innermost call has the place, and the frames further out that of the call
  pub frames_last : (here : Option Location) (offset : ℕ) (name : Option View) (cs : List Call) (c : Call)
      → frames_in language files here offset name (cs ++ c ∷ [])
      ≡ frame language c.offset c.name here
      ∷ frames_in language files (Some (call_site files c)) offset name cs
  frames_last here offset name [] c = refl
  frames_last here offset name (d ∷ cs) c =
      ap (λ fs. fs ++ frame language offset name (Some (call_site files d)) ∷ [])
      (frames_last here d.offset d.name cs c)

  -- the frame of the last call is the next
  pub call_next : (here : Option Location) (f : FunctionAt) (numbers before : List ℕ) (c : Call)
      → calls_of_numbers f.calls.calls numbers ≡ calls_of_numbers f.calls.calls before ++ c ∷ []
      → frames_at_place language files here (Some f) numbers
      ≡ frame language c.offset c.name here
      ∷ frames_at_place language files (Some (call_site files c)) (Some f) before
  call_next here f numbers before c is =
      ap (frames_in language files here f.offset f.calls.name) is
      ∙ frames_last here f.offset f.calls.name (calls_of_numbers f.calls.calls before) c

  -- where the function is the one that is there
  pub call_next_in : (here : Option Location) (o : Option FunctionAt) (f : FunctionAt) (numbers before : List ℕ)
      (c : Call) → o ≡ Some f
      → calls_of_numbers f.calls.calls numbers ≡ calls_of_numbers f.calls.calls before ++ c ∷ []
      → frames_at_place language files here o numbers
      ≡ frame language c.offset c.name here
      ∷ frames_at_place language files (Some (call_site files c)) o before
  call_next_in here o f numbers before c some is =
      ap (λ x. frames_at_place language files here x numbers) some
      ∙ call_next here f numbers before c is
      ∙ ap (λ x. frame language c.offset c.name here
      ∷ frames_at_place language files (Some (call_site files c)) x before) (sym some)

-- a result that is a frame
abbrev ok_frame : Frame → Result (Option Frame) Error
ok_frame f = Ok (Some f)

-- no other refusal than out of memory
only_memory : (e : Error) → (e ≢ Memory → ⊥) → e ≡ Memory
only_memory Memory h = refl
only_memory (UnexpectedEof x) h = absurd (h (λ s. cc))
only_memory BadUnsignedLeb128 h = absurd (h (λ s. cc))
only_memory BadSignedLeb128 h = absurd (h (λ s. cc))
only_memory (UnknownReservedLength x) h = absurd (h (λ s. cc))
only_memory UnsupportedOffset h = absurd (h (λ s. cc))
only_memory (UnsupportedAddressSize x) h = absurd (h (λ s. cc))
only_memory AbbreviationTagZero h = absurd (h (λ s. cc))
only_memory AttributeNameZero h = absurd (h (λ s. cc))
only_memory AttributeFormZero h = absurd (h (λ s. cc))
only_memory (InvalidAbbreviationChildren x) h = absurd (h (λ s. cc))
only_memory (DuplicateAbbreviationCode x) h = absurd (h (λ s. cc))
only_memory (InvalidAbbreviationCode x) h = absurd (h (λ s. cc))
only_memory (UnknownForm x) h = absurd (h (λ s. cc))
only_memory InvalidImplicitConst h = absurd (h (λ s. cc))
only_memory (UnknownVersion x) h = absurd (h (λ s. cc))
only_memory (UnsupportedUnitType x) h = absurd (h (λ s. cc))
only_memory UnsupportedSegmentSize h = absurd (h (λ s. cc))
only_memory OffsetOutOfBounds h = absurd (h (λ s. cc))
only_memory (NoEntryAtGivenOffset x) h = absurd (h (λ s. cc))
only_memory MissingUnitDie h = absurd (h (λ s. cc))
only_memory AddressOverflow h = absurd (h (λ s. cc))
only_memory (UnknownRangeListsEntry x) h = absurd (h (λ s. cc))
only_memory (UnknownLocListsEntry x) h = absurd (h (λ s. cc))
only_memory MinimumInstructionLengthZero h = absurd (h (λ s. cc))
only_memory MaximumOperationsPerInstructionZero h = absurd (h (λ s. cc))
only_memory LineRangeZero h = absurd (h (λ s. cc))
only_memory OpcodeBaseZero h = absurd (h (λ s. cc))
only_memory MissingFileEntryFormatPath h = absurd (h (λ s. cc))
only_memory ExpectedStringAttributeValue h = absurd (h (λ s. cc))
only_memory BadUtf8 h = absurd (h (λ s. cc))
only_memory OffsetSumOverflow h = absurd (h (λ s. cc))
only_memory NoSuchUnit h = absurd (h (λ s. cc))

-- what stays the same has the same frames
pub same_left : {A : Type 0} (r : Result (Option Frame) Error) (see : A → List Frame) (new old : A)
    → OnErr r (new ≡ old) → OnErr r (see new ≡ see old)
same_left (Ok x) see new old same = tt
same_left (Err e) see new old same = ap see same

-- a frame that was made, where the others remain
pub made_next : (r : Result (Option Frame) Error) (f : Frame) (old new later : List Frame)
    → ReturnsOrNoMemory r (ok_frame f) → OnOk r (new ≡ later) → OnErr r (new ≡ old) → old ≡ f ∷ later
    → NextOf (λ x. x) r old new
made_next (Ok (Some x)) f old new later is ok err first =
    let one : f ≡ x = cc in first ∙ ap (λ y. y ∷ later) one ∙ ap (λ l. x ∷ l) (sym ok)
made_next (Ok None) f old new later is ok err first = absurd cc
made_next (Err e) f old new later is ok err first =
    (only_memory e (λ m. let never = is m in absurd cc), err)
