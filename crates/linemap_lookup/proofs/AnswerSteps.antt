-- The buffers of an answer after one part, and then another.
use Rattle.std.proofs.Common.{◌≡◌, ◌∙◌, Bool, true, false, List, [], ◌++◌, ℕ, Option, Some, None, Result, Ok, Err, refl, sym, ap, subst, append-nil, append_assoc}
use Rattle.std.specs.Prelude.{◌||◌, codes, if◌then◌else◌, option_map, unwrap_or}
use Rattle.std.specs.String.{string_bytes}
use Rattle.addr2line_context.specs.Error.{Error}
use Rattle.addr2line_context.specs.Error.TheVariants.{Memory}
use Rattle.addr2line_context.specs.Frames.{Frame}
use Rattle.addr2line_loader.specs.LoadedFiles.{LoadedFile, symbol_name}
use Rattle.addr2line_loader.specs.SourceAnswers.{SourceFindsFrames}
use Rattle.addr2line_split.specs.ElfSymbols.{symbol_at}
use Rattle.addr2line_split.specs.Range.{Range}
use Rattle.linemap_output.specs.declared.options.Options.{Options}
use Rattle.linemap_lookup.specs.AddressTexts.{address_text, location_text_if_any}
use Rattle.linemap_lookup.specs.FrameTexts.{frames_text}
use Rattle.linemap_lookup.specs.FirstFrames.{AreFirstFrames, PrintsFrames}
use Rattle.linemap_lookup.specs.AnswerBuffers.{Grows, GrowsByFound, GrowsByFrames, GrowsByLookup, GrowsByPlace, GrowsByRefusal, answer_in}
use Rattle.linemap_lookup.specs.LookupAnswers.{Answer, AnswersAddress, AnswersLookup, LookupState, asks_frames, frames_answer, looked_up, no_answer, place_answer, refusal_line, with_address}
use Rattle.linemap_lookup.specs.declared.answer.AnswerBuffer.{AnswerBuffer}

pub or_false : (b : Bool) → (b || false) ≡ b
or_false true = refl
or_false false = refl

-- text alone
abbrev pub text_alone : List ℕ → Answer
text_alone t = record { text = t; errors = []; is_memory_refused = false }

pub grows_text : (old new : AnswerBuffer) (t : List ℕ) → string_bytes new.text ≡ string_bytes old.text ++ t
    → new.errors ≡ old.errors → new.is_memory_refused ≡ old.is_memory_refused → Grows old new (text_alone t)
grows_text old new t text errors memory = record {
  text = text;
  errors = ap string_bytes errors ∙ sym (append-nil (string_bytes old.errors));
  memory = memory ∙ sym (or_false old.is_memory_refused);
}

-- an answer, and then text
pub grows_more : (old mid new : AnswerBuffer) (x : Answer) (t : List ℕ) → Grows old mid x
    → string_bytes new.text ≡ string_bytes mid.text ++ t → new.errors ≡ mid.errors
    → new.is_memory_refused ≡ mid.is_memory_refused → Grows old new (record x { text = x.text ++ t })
grows_more old mid new x t grows text errors memory = record {
  text = text ∙ ap (λ s. s ++ t) grows.text ∙ append_assoc (string_bytes old.text) x.text t;
  errors = ap string_bytes errors ∙ grows.errors;
  memory = memory ∙ grows.memory;
}

-- ---- frames

-- frames that were all read
pub found_all : (o : Options) (a : ℕ) (symbol : Option (List ℕ)) (all : List Frame) (old new : AnswerBuffer)
    (is_refused : Bool) → PrintsFrames o symbol all is_refused (string_bytes old.text) (string_bytes new.text)
    → is_refused ≡ false → new.errors ≡ old.errors → new.is_memory_refused ≡ old.is_memory_refused
    → GrowsByFound o a symbol all old new
found_all o a symbol all old new is_refused prints none errors memory = record {
  frames = prints.frames;
  is_refused = false;
  are_first = subst (AreFirstFrames all prints.frames) none prints.are_first;
  grows = grows_text old new (frames_text o symbol prints.frames) prints.text errors memory;
}

-- frames, and then the refusal of the next one
pub found_some : (o : Options) (a : ℕ) (symbol : Option (List ℕ)) (all : List Frame) (old mid new : AnswerBuffer)
    (is_refused : Bool) → PrintsFrames o symbol all is_refused (string_bytes old.text) (string_bytes mid.text)
    → is_refused ≡ true → mid.errors ≡ old.errors → mid.is_memory_refused ≡ old.is_memory_refused
    → GrowsByRefusal mid new (codes "failed to get next frame for ") a Memory
    → GrowsByFound o a symbol all old new
found_some o a symbol all old mid new is_refused prints some errors memory refused = record {
  frames = prints.frames;
  is_refused = true;
  are_first = subst (AreFirstFrames all prints.frames) some prints.are_first;
  grows = record {
    text = refused.text ∙ append-nil (string_bytes mid.text) ∙ prints.text;
    errors =
        refused.errors
        ∙ ap (λ e. string_bytes e ++ refusal_line (codes "failed to get next frame for ") a Memory) errors;
    memory = refused.memory ∙ ap (λ m. m || true) memory;
  };
}

-- the refusal of all frames, and then what stands for none
pub refused_all : (o : Options) (a : ℕ) (symbol : Option (List ℕ)) (e : Error) (old mid new : AnswerBuffer)
    → GrowsByRefusal old mid (codes "failed to find frames for ") a e
    → string_bytes new.text ≡ string_bytes mid.text ++ frames_text o symbol [] → new.errors ≡ mid.errors
    → new.is_memory_refused ≡ mid.is_memory_refused → Grows old new (frames_answer o a symbol (Err e) [] false)
refused_all o a symbol e old mid new refused text errors memory =
    let more = grows_more old mid new _ _ refused text errors memory in
    record {
      text = more.text;
      errors =
          more.errors ∙ ap (λ l. string_bytes old.errors ++ l)
          (sym (append-nil (refusal_line (codes "failed to find frames for ") a e)));
      memory = more.memory ∙ ap (λ m. old.is_memory_refused || m) (sym (or_false _));
    }

module _ {S : Type 0} {answers : S → List ℕ → List ℕ → Result (Option (List ℕ)) Error → S → Type 0} {o : Options} where
  -- the frames that a lookup finds
  pub frames_found : {F : Type 0} {a : ℕ} {see : F → List Frame} {symbol : Option (List ℕ)}
      {file file_after : LoadedFile} {source source_after : S} {found : Result F Error} {f : F}
      {old new : AnswerBuffer} → found ≡ Ok f
      → SourceFindsFrames answers a see file source found file_after source_after
      → GrowsByFound o a symbol (see f) old new
      → GrowsByFrames answers o a symbol file source old new file_after source_after
  frames_found {see} {f} is finds grows =
      let ok = rw is at finds in
      record {
        found = Ok (see f);
        finds = record { same = ok.same; finds = ok.finds };
        frames = grows.frames;
        is_refused = grows.is_refused;
        are_first = grows.are_first;
        grows = grows.grows;
      }

  -- or its refusal
  pub frames_refused : {F : Type 0} {a : ℕ} {see : F → List Frame} {symbol : Option (List ℕ)}
      {file file_after : LoadedFile} {source source_after : S} {found : Result F Error} {e : Error}
      {old new : AnswerBuffer} → found ≡ Err e
      → SourceFindsFrames answers a see file source found file_after source_after
      → Grows old new (frames_answer o a symbol (Err e) [] false)
      → GrowsByFrames answers o a symbol file source old new file_after source_after
  frames_refused {e} is finds grows =
      let err = rw is at finds in
      record {
        found = Err e;
        finds = record { same = err.same; finds = err.finds };
        frames = [];
        is_refused = false;
        are_first = record { rest = []; whole = refl; ends = λ _. refl };
        grows = grows;
      }

  -- ---- one address

  pub by_frames : {a : ℕ} {before after : LookupState S} {old new : AnswerBuffer} → asks_frames o ≡ true
      → GrowsByFrames answers o a (option_map symbol_name (symbol_at a before.file.symbols)) before.file before.source
      old new after.file after.source
      → GrowsByLookup answers o (Some a) before old new after
  by_frames {a} {before} {after} asks grows =
      let symbol = option_map symbol_name (symbol_at a before.file.symbols) in
      let x = frames_answer o a symbol grows.found grows.frames grows.is_refused in
      record {
        found = x;
        finds =
            subst (λ b. AnswersLookup answers o b a before x after) (sym asks)
            (record {
              found = grows.found;
              finds = grows.finds;
              frames = grows.frames;
              is_refused = grows.is_refused;
              are_first = grows.are_first;
              answer = refl;
            });
        grows = grows.grows;
      }

  pub by_place : {a : ℕ} {before : LookupState S} {file : LoadedFile} {old new : AnswerBuffer}
      → asks_frames o ≡ false → file ≡ before.file → GrowsByPlace o a before.file old new
      → GrowsByLookup answers o (Some a) before old new (record before { file = file })
  by_place {a} {before} {file} asks same grows =
      let x = place_answer o a grows.found in
      record {
        found = x;
        finds =
            subst (λ b. AnswersLookup answers o b a before x (record before { file = file })) (sym asks)
            (record {
              found = grows.found;
              finds = grows.finds;
              same = ap (λ (f : LoadedFile). record before { file = f }) same;
              answer = refl;
            });
        grows = grows.grows;
      }

  pub by_none : {before : LookupState S} {file : LoadedFile} {old new : AnswerBuffer} → file ≡ before.file
      → Grows old new (no_answer o) → GrowsByLookup answers o None before old new (record before { file = file })
  by_none {before} same grows = record {
    found = no_answer o;
    finds = (refl, ap (λ (f : LoadedFile). record before { file = f }) same);
    grows = grows;
  }

  -- the address before the answer, and the end after it
  pub whole_answer : {section : Option Range} {before after : LookupState S} (address : Option ℕ)
      (b0 b1 b2 b3 : AnswerBuffer) (n : ℕ) → string_bytes b0.text ≡ [] → string_bytes b0.errors ≡ []
      → b0.is_memory_refused ≡ false → n ≡ unwrap_or address 0
      → string_bytes b1.text ≡ string_bytes b0.text ++ address_text o n → b1.errors ≡ b0.errors
      → b1.is_memory_refused ≡ b0.is_memory_refused
      → GrowsByLookup answers o (looked_up section address) before b1 b2 after
      → string_bytes b3.text ≡ string_bytes b2.text ++ (if o.llvm then codes "\n" else [])
      → b3.errors ≡ b2.errors → b3.is_memory_refused ≡ b2.is_memory_refused
      → AnswersAddress answers o section before (answer_in address b3) after
  whole_answer address b0 b1 b2 b3 n no_text no_errors no_memory is text1 errors1 memory1 grows text3 errors3 memory3 =
      let end = if o.llvm then codes "\n" else [] in
      let first : string_bytes b1.text ≡ address_text o (unwrap_or address 0) =
      text1 ∙ ap (λ t. t ++ address_text o n) no_text ∙ ap (address_text o) is in
      let text : string_bytes b3.text ≡ address_text o (unwrap_or address 0) ++ (grows.found.text ++ end) =
      text3 ∙ ap (λ t. t ++ end) (grows.grows.text ∙ ap (λ t. t ++ grows.found.text) first)
      ∙ append_assoc (address_text o (unwrap_or address 0)) grows.found.text end in
      let errors : string_bytes b3.errors ≡ grows.found.errors =
      ap string_bytes errors3 ∙ grows.grows.errors
      ∙ ap (λ t. t ++ grows.found.errors) (ap string_bytes errors1 ∙ no_errors) in
      let memory : b3.is_memory_refused ≡ grows.found.is_memory_refused =
      memory3 ∙ grows.grows.memory ∙ ap (λ m. m || grows.found.is_memory_refused) (memory1 ∙ no_memory) in
      record {
        found = grows.found;
        finds = grows.finds;
        answer =
            ap (λ t. record {
              text = t;
              errors = string_bytes b3.errors;
              is_memory_refused = b3.is_memory_refused;
            }) text
            ∙ ap (λ e. record {
              text = (with_address o address grows.found).text;
              errors = e;
              is_memory_refused = b3.is_memory_refused;
            }) errors
            ∙ ap (λ m. record {
              text = (with_address o address grows.found).text;
              errors = grows.found.errors;
              is_memory_refused = m;
            }) memory;
      }

-- ---- nothing

pub nothing_frames : (o : Options) (old new : AnswerBuffer) → asks_frames o ≡ true
    → string_bytes new.text ≡ string_bytes old.text ++ frames_text o None [] → new.errors ≡ old.errors
    → new.is_memory_refused ≡ old.is_memory_refused → Grows old new (no_answer o)
nothing_frames o old new asks text errors memory =
    grows_text old new (no_answer o).text
    (text ∙ ap (λ b. string_bytes old.text
    ++ (if b then frames_text o None [] else location_text_if_any o None ++ codes "\n")) (sym asks)) errors memory

pub nothing_place : (o : Options) (old new : AnswerBuffer) → asks_frames o ≡ false
    → string_bytes new.text ≡ string_bytes old.text ++ (location_text_if_any o None ++ codes "\n")
    → new.errors ≡ old.errors → new.is_memory_refused ≡ old.is_memory_refused → Grows old new (no_answer o)
nothing_place o old new asks text errors memory =
    grows_text old new (no_answer o).text
    (text ∙ ap (λ b. string_bytes old.text
    ++ (if b then frames_text o None [] else location_text_if_any o None ++ codes "\n")) (sym asks)) errors memory
