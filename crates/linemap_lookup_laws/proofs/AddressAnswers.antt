-- What is answered for addresses by an image that answers a table.
use Rattle.std.proofs.Common.{◌≡◌, ℕ, Bool, true, false, List, [], ◌∷◌, ◌++◌, map, Option, Some, None, option_map, Result, Ok, Err, refl, sym, ap, subst, ◌∙◌, append-nil, true≢false}
use Rattle.std.specs.Prelude.{◌≢◌, codes, flat_map, if◌then◌else◌, unwrap_or}
use Rattle.std.specs.List.{list_any}
use Rattle.std.proofs.lemmas.Bool.{or_parts}
use Rattle.linemap_image.specs.ImageAnswers.{FileAnswers}
use Rattle.linemap_image.specs.LookupAgreement.{lookup_location}
use Rattle.linemap_image.specs.Meaning.{frames_at, location_at}
use Rattle.linemap_image.specs.TableParts.{UnitPart}
use Rattle.linemap_lookup.specs.AddressTexts.{address_text, location_text_if_any}
use Rattle.linemap_lookup.specs.Calls.{ReturnsOrNoMemory}
use Rattle.linemap_lookup.specs.ContextNames.{naming_in}
use Rattle.linemap_lookup.specs.Contexts.{Context, FileContext, location}
use Rattle.linemap_lookup.specs.ElfSymbols.{NamedSymbol, symbol_at}
use Rattle.linemap_lookup.specs.Error.{Error}
use Rattle.linemap_lookup.specs.Error.TheVariants.{Memory}
use Rattle.linemap_lookup.specs.FirstAnswers.{FirstAnswers, Lookup, output}
use Rattle.linemap_lookup.specs.FirstFrames.{AreFirstFrames}
use Rattle.linemap_lookup.specs.Frames.{Frame}
use Rattle.linemap_lookup.specs.FrameTexts.{frames_text}
use Rattle.linemap_lookup.specs.Lines.{Location}
use Rattle.linemap_lookup.specs.LoadedFiles.{LoadedFile, symbol_name}
use Rattle.linemap_lookup.specs.LookupAnswers.{AddressAnswer, Answer, AnswersAddress, AnswersAddresses, AnswersFrames, AnswersIfAny, AnswersLookup, AnswersPlace, LookupState, asks_frames, found_or, frames_answer, is_memory, is_memory_refused, looked_up, next_refusal_line, place_answer}
use Rattle.linemap_lookup.specs.LookupRuns.{answers_together}
use Rattle.linemap_lookup.specs.Options.{Options}
use Rattle.linemap_lookup.specs.Range.{Range}
use Rattle.linemap_lookup.specs.SourceAnswers.{FindsAsOrNoMemory, LoadState, frames_by_answers, load_state}
use Rattle.linemap_lookup_laws.specs.TableTexts.{table_answer_text, table_found_text, table_frames_text, table_place_text, table_text}
use Rattle.linemap_lookup_laws.proofs.FrameLanguages.{no_language}
use Rattle.linemap_lookup_laws.proofs.FrameAgreement.{frames_agree}

-- ---- results

same_value : {A E : Type 0} (r : Result A E) (x y : A) → r ≡ Ok x → r ≡ Ok y → x ≡ y
same_value r x y is other = cc

not_both : {A E : Type 0} (r : Result A E) (x : A) (e : E) → r ≡ Ok x → r ≡ Err e → ⊥
not_both r x e is other = absurd cc

same_output : {A E : Type 0} (l : Lookup (Result A E)) (x y : A) → l ≡ output (Ok x) → l ≡ output (Ok y) → x ≡ y
same_output l x y is other = cc

no_refusal : {A E : Type 0} (l : Lookup (Result A E)) (x : A) (e : E) → l ≡ output (Ok x) → l ≡ output (Err e) → ⊥
no_refusal l x e is other = absurd cc

other_refusal : (e : Error) → is_memory e ≡ false → e ≢ Memory
other_refusal e enough is = true≢false (sym (ap is_memory is) ∙ enough)

-- this text is answered, and no error line
pub record Says (x : Answer) (text : List ℕ) : Type 0 where
  pub text_is : x.text ≡ text
  pub no_errors : x.errors ≡ []

module _ {S : Type 0} (answers : S → List ℕ → List ℕ → Result (Option (List ℕ)) Error → S → Type 0)
    (o : Options) (image : List ℕ) (us : List UnitPart) (file : FileAnswers image us) where
  -- what is loaded of the image, after any lookups
  pub record IsLoaded (f : LoadedFile) : Type 0 where
    pub context_is : f.context ≡ file.loaded.context
    pub no_symbols : f.symbols ≡ []

  abbrev table_context : FileContext
  table_context = record { file = file.loaded.context.file; context = file.answers.found }

  its_context : (f : LoadedFile) → IsLoaded f → f.context ≡ table_context
  its_context f is =
      is.context_is
      ∙ ap (λ (c : Context). record { file = file.loaded.context.file; context = c }) file.context_is

  -- ---- a place

  place_found : (f : LoadedFile) (a : ℕ) → IsLoaded f
      → location f.context.context a ≡ Ok (option_map lookup_location (location_at us a))
  place_found f a is =
      ap (λ (c : FileContext). location c.context a) (its_context f is) ∙ file.answers.places a

  place_said : (a : ℕ) (f : LoadedFile) (found : Result (Option Location) Error) → IsLoaded f
      → ReturnsOrNoMemory found (location f.context.context a) → is_memory_refused found ≡ false
      → Says (place_answer o a found) (table_place_text o (location_at us a) ++ codes "\n")
  place_said a f (Ok l) is finds enough = record {
    text_is = ap (λ (place : Option Location). location_text_if_any o place ++ codes "\n")
        (same_value (location f.context.context a) l _ finds (place_found f a is));
    no_errors = refl;
  }
  place_said a f (Err e) is finds enough =
      absurd (not_both (location f.context.context a) _ e (place_found f a is) (finds (other_refusal e enough)))

  by_place : (a : ℕ) (before after : LookupState S) (found : Answer) → IsLoaded before.file
      → AnswersPlace o a before found after → found.is_memory_refused ≡ false
      → Says found (table_place_text o (location_at us a) ++ codes "\n") × IsLoaded after.file
  by_place a before after found is h enough = (
    subst (λ (x : Answer). Says x (table_place_text o (location_at us a) ++ codes "\n")) (sym h.answer)
        (place_said a before.file h.found is h.finds
        (sym (ap (λ (x : Answer). x.is_memory_refused) h.answer) ∙ enough)),
    subst (λ (s : LookupState S). IsLoaded s.file) (sym h.same) is,
  )

  -- ---- frames

  frames_found : (a : ℕ) (f : LoadedFile) (first : FirstAnswers) → IsLoaded f
      → frames_by_answers f.context a first ≡ output (Ok (file.answers.frames_are first a).list)
  frames_found a f first is =
      ap (λ (c : FileContext). frames_by_answers c a first) (its_context f is)
      ∙ (file.answers.frames_are first a).are_frames

  frames_text_is : (a : ℕ) (f : LoadedFile) (first : FirstAnswers) (fs : List Frame) → IsLoaded f
      → frames_by_answers f.context a first ≡ output (Ok fs)
      → frames_text o None fs ≡ table_frames_text o (frames_at us a)
  frames_text_is a f first fs is finds =
      let found = file.answers.frames_are first a in
      let same : found.list ≡ fs =
      same_output (frames_by_answers f.context a first) found.list fs (frames_found a f first is) finds in
      ap (frames_text o None) (sym same)
      ∙ frames_agree o (frames_at us a) found.list found.agree
      (no_language table_context (naming_in table_context) first a found.list file.answers.has_no_language
      found.are_frames)

  frames_said : (a : ℕ) (f : LoadedFile) (before after : LoadState S) (found : Result (List Frame) Error)
      (fs : List Frame) (is_refused : Bool) → IsLoaded f
      → FindsAsOrNoMemory answers f.context a (λ fs. fs) before found after
      → AreFirstFrames (found_or [] found) fs is_refused → is_memory_refused found ≡ false → is_refused ≡ false
      → Says (frames_answer o a None found fs is_refused) (table_frames_text o (frames_at us a))
  frames_said a f before after (Ok all) fs is_refused is finds first enough none =
      let whole : fs ≡ all =
      sym (append-nil fs) ∙ ap (λ (rest : List Frame). fs ++ rest) (sym (first.ends none)) ∙ first.whole in
      record {
        text_is = ap (frames_text o None) whole ∙ frames_text_is a f after.answers all is finds.is_found;
        no_errors = ap (next_refusal_line a) none;
      }
  frames_said a f before after (Err e) fs is_refused is finds first enough none =
      absurd (no_refusal (frames_by_answers f.context a after.answers) _ e (frames_found a f after.answers is)
      (finds.0 (other_refusal e enough)).is_found)

  by_frames : (a : ℕ) (before after : LookupState S) (found : Answer) → IsLoaded before.file
      → AnswersFrames answers o a before found after → found.is_memory_refused ≡ false
      → Says found (table_frames_text o (frames_at us a)) × IsLoaded after.file
  by_frames a before after found is h enough =
      let no_symbol : option_map symbol_name (symbol_at a before.file.symbols) ≡ None =
      ap (λ (ss : List NamedSymbol). option_map symbol_name (symbol_at a ss)) is.no_symbols in
      let found_is : found ≡ frames_answer o a None h.found h.frames h.is_refused =
      h.answer ∙ ap (λ symbol. frames_answer o a symbol h.found h.frames h.is_refused) no_symbol in
      let parts =
      or_parts (is_memory_refused h.found) h.is_refused
      (sym (ap (λ (x : Answer). x.is_memory_refused) found_is) ∙ enough) in (
        subst (λ (x : Answer). Says x (table_frames_text o (frames_at us a))) (sym found_is)
            (frames_said a before.file (load_state before.file before.source) (load_state after.file after.source)
            h.found h.frames h.is_refused is h.finds.finds h.are_first parts.0 parts.1),
        record {
          context_is = ap (λ (f : LoadedFile). f.context) h.finds.same ∙ is.context_is;
          no_symbols = ap (λ (f : LoadedFile). f.symbols) h.finds.same ∙ is.no_symbols;
        },
      )

  -- ---- one address

  by_lookup : (asks : Bool) (a : ℕ) (before after : LookupState S) (found : Answer) → IsLoaded before.file
      → AnswersLookup answers o asks a before found after → found.is_memory_refused ≡ false
      → Says found
      (if asks then table_frames_text o (frames_at us a) else table_place_text o (location_at us a) ++ codes "\n")
      × IsLoaded after.file
  by_lookup true a before after found is h enough = by_frames a before after found is h enough
  by_lookup false a before after found is h enough = by_place a before after found is h enough

  found_said : (a : Option ℕ) (before after : LookupState S) (found : Answer) → IsLoaded before.file
      → AnswersIfAny answers o a before found after → found.is_memory_refused ≡ false
      → Says found (table_found_text o us a) × IsLoaded after.file
  found_said None before after found is h enough = (
    record { text_is = ap (λ (x : Answer). x.text) h.0; no_errors = ap (λ (x : Answer). x.errors) h.0 },
    subst (λ (s : LookupState S). IsLoaded s.file) (sym h.1) is,
  )
  found_said (Some a) before after found is h enough =
      by_lookup (asks_frames o) a before after found is h enough

  module _ (section : Option Range) where
    address_said : (before after : LookupState S) (x : AddressAnswer) → IsLoaded before.file
        → AnswersAddress answers o section before x after → x.answer.is_memory_refused ≡ false
        → Says x.answer (table_answer_text o us section x.address) × IsLoaded after.file
    address_said before after x is h enough =
        let said =
        found_said (looked_up section x.address) before after h.found is h.finds
        (sym (ap (λ (y : Answer). y.is_memory_refused) h.answer) ∙ enough) in (
          record {
            text_is =
                ap (λ (y : Answer). y.text) h.answer
                ∙ ap (λ text. address_text o (unwrap_or x.address 0)
                ++ (text ++ (if o.llvm then codes "\n" else []))) said.0.text_is;
            no_errors = ap (λ (y : Answer). y.errors) h.answer ∙ said.0.no_errors;
          },
          said.1,
        )

    -- one after the other
    pub addresses_said : (xs : List AddressAnswer) (before after : LookupState S) → IsLoaded before.file
        → AnswersAddresses answers o section before xs after
        → list_any (λ (x : AddressAnswer). x.answer.is_memory_refused) xs ≡ false
        → Says (answers_together xs) (table_text o us section (map (λ (x : AddressAnswer). x.address) xs))
    addresses_said [] before after is h enough = record { text_is = refl; no_errors = refl }
    addresses_said (x ∷ xs) before after is h enough =
        let parts =
        or_parts x.answer.is_memory_refused (list_any (λ (y : AddressAnswer). y.answer.is_memory_refused) xs) enough in
        let here = address_said before h.0 x is h.1 parts.0 in
        let rest = addresses_said xs h.0 after here.1 h.2 parts.1 in
        record {
          text_is =
              ap (λ text. text ++ flat_map (λ (y : AddressAnswer). y.answer.text) xs) here.0.text_is
              ∙ ap (λ text. table_answer_text o us section x.address ++ text) rest.text_is;
          no_errors =
              ap (λ errors. errors ++ flat_map (λ (y : AddressAnswer). y.answer.errors) xs) here.0.no_errors
              ∙ rest.no_errors;
        }
