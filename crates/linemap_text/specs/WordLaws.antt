-- The answers from the debug information of a table are those of the table.
use Rattle.std.specs.Prelude.{◌≡◌, ℕ, ◌≤◌, ◌^◌, Bool, List, Ok}
use Rattle.addr2line_context.specs.DwarfFiles.{DwarfFile}
use Rattle.addr2line_context.specs.Contexts.{Context, context}
use Rattle.linemap_emit.specs.AnswerTexts.{ask_text}
use Rattle.linemap_emit.specs.TableParts.{UnitPart}
use Rattle.addr2line_context.specs.SectionLoading.{loaded_file}
use Rattle.linemap_emit.specs.EmittedSections.{SectionBytes}
use Rattle.linemap_emit.specs.SectionBytesById.{bytes_of}
use Rattle.linemap_emit.specs.SectionAnswers.{AreAnswers}
use Rattle.linemap_text.specs.WordTexts.{NeverRefuses, words_text}
use Rattle.linemap_emit.specs.BytesAt.{bytes_at}

-- the words are answered as the table answers them, and no address is refused
pub record AnswersWords (c : Context) (us : List UnitPart) : Type 0 where
  pub never_refuses : NeverRefuses c
  pub texts : (words : List (List ℕ)) → words_text c words ≡ ask_text us words

-- a file with the sections with these bytes,
abbrev pub file_of : ℕ → Bool → SectionBytes → DwarfFile
file_of limit is_big bytes = loaded_file limit (λ id. bytes_at is_big 0 (bytes_of id bytes))

-- Over sections that answer a table there is a context, where offsets are below a limit of at least
-- 2^31, and it answers words as the table does.
abbrev pub WordsAnswered : Type 0
WordsAnswered =
    (limit : ℕ) (is_big : Bool) (bytes : SectionBytes) (us : List UnitPart)
    → 2 ^ 31 ≤ limit → AreAnswers is_big bytes us
    → (c : Context) × (context (file_of limit is_big bytes) ≡ Ok c) × AnswersWords c us
