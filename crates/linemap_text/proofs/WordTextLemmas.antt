-- The answers to words, from a context that answers a table.
use Rattle.std.proofs.Common.{◌≡◌, ◌≤◌, ◌^◌, ◌∙◌, ℕ, Bool, List, [], ◌∷◌, ◌++◌, Option, Some, None, option_map, Result, Ok, Err, refl, sym, ap, subst}
use Rattle.std.specs.Prelude.{option_and_then, IsOk}
use Rattle.addr2line_context.specs.Error.{Error}
use Rattle.addr2line_context.specs.Contexts.{Context, context, location}
use Rattle.linemap_emit.specs.AnswerTexts as table_text
use Rattle.linemap_emit.specs.Meaning as table
use Rattle.linemap_emit.specs.TableParts.{UnitPart}
use Rattle.linemap_emit.specs.LookupAgreement.{lookup_location}
use Rattle.linemap_emit.specs.RecordedTableLaws.{AnswersTable}
use Rattle.linemap_emit.specs.EmittedSections.{SectionBytes, HoldBytes}
use Rattle.linemap_emit.specs.SectionAnswers.{AreAnswers}
use Rattle.linemap_text.specs.WordTexts.{NeverRefuses, text_of_place, text_of_answer, text_of_address, words_text}
use Rattle.linemap_text.specs.WordLaws.{AnswersWords, WordsAnswered, file_of}

-- the same place of any context
place_text_agrees : (l : Option table.Location)
    → text_of_place (option_map lookup_location l) ≡ table_text.location_text l
place_text_agrees None = refl
place_text_agrees (Some l) = refl

one_value : {A : Type 0} (r : Result A Error) (x y : A) → r ≡ Ok x → r ≡ Ok y → x ≡ y
one_value r x y p q = cc

no_refusal : {A : Type 0} (r : Result A Error) (x : A) (e : Error) → r ≡ Ok x → r ≡ Err e → ⊥
no_refusal r x e p q = cc

module _ (us : List UnitPart) (c : Context)
    (places : (a : ℕ) → location c a ≡ Ok (option_map lookup_location (table.location_at us a))) where
  address_text : (a : Option ℕ) → text_of_address c a
      ≡ table_text.location_text (option_and_then (table.location_at us) a)
  address_text None = refl
  address_text (Some a) = ap text_of_answer (places a) ∙ place_text_agrees (table.location_at us a)

  pub words_text_is : (words : List (List ℕ)) → words_text c words ≡ table_text.ask_text us words
  words_text_is [] = refl
  words_text_is (w ∷ ws) =
      ap (λ t. (t ++ 10 ∷ []) ++ words_text c ws) (address_text (table_text.word_address w))
      ∙ ap (λ t. (table_text.word_text us w ++ 10 ∷ []) ++ t) (words_text_is ws)

  pub never_refused : NeverRefuses c
  never_refused a e is = no_refusal (location c a) _ e (places a) is

-- the sections of emitted bytes hold them
answers_hold : (limit : ℕ) (is_big : Bool) (bytes : SectionBytes) → HoldBytes is_big bytes (file_of limit is_big bytes)
answers_hold limit is_big bytes = record {
  abbrev_first = 0;
  info_first = 0;
  line_first = 0;
  line_str_first = 0;
  ranges_first = 0;
  rnglists_first = 0;
  str_first = 0;
  abbrev_is = refl;
  info_is = refl;
  line_is = refl;
  line_str_is = refl;
  ranges_is = refl;
  rnglists_is = refl;
  str_is = refl;
  no_aranges = refl;
  is_main = refl;
  is_alone = refl;
}

pub words_answered : WordsAnswered
words_answered limit is_big bytes us le are =
    let t : AnswersTable (file_of limit is_big bytes) us =
    are (file_of limit is_big bytes) le (answers_hold limit is_big bytes) in (
      t.found,
      t.is_context,
      record { never_refuses = never_refused us t.found t.places; texts = words_text_is us t.found t.places },
    )

-- the same of the context that was read
pub words_answered_by : (limit : ℕ) (is_big : Bool) (bytes : SectionBytes) (us : List UnitPart) (c : Context)
    → 2 ^ 31 ≤ limit → AreAnswers is_big bytes us → context (file_of limit is_big bytes) ≡ Ok c → AnswersWords c us
words_answered_by limit is_big bytes us c le are is =
    let w = words_answered limit is_big bytes us le are in
    subst (λ x. AnswersWords x us) (one_value (context (file_of limit is_big bytes)) w.0 c w.1 is) w.2

-- there is a context
pub is_read : (limit : ℕ) (is_big : Bool) (bytes : SectionBytes) (us : List UnitPart) → 2 ^ 31 ≤ limit
    → AreAnswers is_big bytes us → IsOk (context (file_of limit is_big bytes))
is_read limit is_big bytes us le are =
    let w = words_answered limit is_big bytes us le are in
    subst IsOk (sym w.1) refl
