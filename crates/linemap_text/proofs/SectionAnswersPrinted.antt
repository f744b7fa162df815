-- What the answers from a table's sections are.
use Rattle.std.proofs.Common.{◌≡◌, ◌∙◌, ◌<◌, ◌^◌, ℕ, Bool, false, List, [], Option, Result, Ok, Err, refl, sym, ap, subst, lit≤}
use Rattle.std.specs.Prelude.{IsOk, OnOk, if◌then◌else◌, codes}
use Rattle.std.specs.Io.KnownBytes.{Appends}
use Rattle.std.proofs.lemmas.Bool.{lt-ltb}
use Rattle.addr2line_context.specs.DwarfFiles.{DwarfFile}
use Rattle.addr2line_context.specs.Contexts.{Context, context}
use Rattle.linemap_emit.specs.AnswerTexts.{ask_text}
use Rattle.linemap_emit.specs.TableParts.{UnitPart}
use Rattle.linemap_emit.specs.TableWeight.{table_weight}
use Rattle.linemap_output.specs.ErrorLine.{emission_line}
use Rattle.linemap_output.specs.WriterBytes.{AppendsPrefix}
use Rattle.linemap_emit.specs.TableInText.{table_in}
use Rattle.linemap_emit.specs.EmittedSections.{SectionBytes}
use Rattle.linemap_emit.specs.SectionAnswers.{AreAnswers}
use Rattle.linemap_text.specs.WordLaws.{AnswersWords, file_of}
use Rattle.linemap_text.proofs.WordTextLemmas.{words_answered_by, is_read}
use Rattle.linemap_text.specs.Ask.{ask_outcome, outcome_of, refusal}

-- ---- the context

-- the file of emitted sections, in the order of a target
file_is : (b c : Bool) (bytes : SectionBytes) (s : DwarfFile) → s ≡ file_of (2 ^ 64) b bytes → b ≡ c → c ≡ false
    → s ≡ file_of (2 ^ 64) false bytes
file_is b c bytes s is same little = is ∙ ap (λ x. file_of (2 ^ 64) x bytes) (same ∙ little)

-- there is a context over them
pub context_from : (b c : Bool) (bytes : SectionBytes) (us : List UnitPart) (s : DwarfFile)
    → s ≡ file_of (2 ^ 64) b bytes → b ≡ c → c ≡ false → AreAnswers false bytes us → IsOk (context s)
context_from b c bytes us s is same little are =
    subst (λ y. IsOk (context y)) (sym (file_is b c bytes s is same little))
    (is_read (2 ^ 64) false bytes us (lit≤ tt) are)

-- which answers words as the table does
pub answers_from : (b c : Bool) (bytes : SectionBytes) (us : List UnitPart) (s : DwarfFile) (x : Context)
    → s ≡ file_of (2 ^ 64) b bytes → b ≡ c → c ≡ false → AreAnswers false bytes us → context s ≡ Ok x
    → AnswersWords x us
answers_from b c bytes us s x is same little are found =
    words_answered_by (2 ^ 64) false bytes us x (lit≤ tt) are
    (subst (λ y. context y ≡ Ok x) (file_is b c bytes s is same little) found)

-- ---- what is printed

-- for a table below the limit of weights
outcome_light : (text : List ℕ) (words : List (List ℕ)) (us : List UnitPart) → table_in text ≡ Ok us
    → table_weight us < 2 ^ 31 → ask_outcome text words ≡ record { out = ask_text us words; err = []; status = 0 }
outcome_light text words us is light =
    ap (λ r. outcome_of r words) is
    ∙ ap (λ b. if b then record { out = ask_text us words; err = []; status = 0 }
    else refusal (emission_line (codes "M2"))) (lt-ltb (table_weight us) (2 ^ 31) light)

on_ok : {T E : Type 0} (r : Result T E) (P Q : Type 0) → (P → Q) → OnOk r P → OnOk r Q
on_ok (Ok x) P Q f p = f p
on_ok (Err e) P Q f p = tt

pub outcome_whole : {T E : Type 0} (r : Result T E) (a b : Option (List ℕ)) (text : List ℕ) (words : List (List ℕ))
    (us : List UnitPart) → table_in text ≡ Ok us → table_weight us < 2 ^ 31
    → OnOk r (Appends a b (ask_text us words))
    → OnOk r (Appends a b (ask_outcome text words).out × ((ask_outcome text words).err ≡ [])
    × ((ask_outcome text words).status ≡ 0))
outcome_whole r a b text words us is light done =
    subst (λ p. OnOk r (Appends a b p.out × (p.err ≡ []) × (p.status ≡ 0))) (sym (outcome_light text words us is light))
    (on_ok r (Appends a b (ask_text us words))
    (Appends a b (ask_text us words) × (◌≡◌ {A = List ℕ} [] []) × (◌≡◌ {A = ℕ} 0 0)) (λ d. (d, refl, refl)) done)

pub outcome_prefix : (a b : Option (List ℕ)) (text : List ℕ) (words : List (List ℕ)) (us : List UnitPart)
    → table_in text ≡ Ok us → table_weight us < 2 ^ 31
    → AppendsPrefix a b (ask_text us words) → AppendsPrefix a b (ask_outcome text words).out
outcome_prefix a b text words us is light done =
    subst (λ p. AppendsPrefix a b p.out) (sym (outcome_light text words us is light)) done
