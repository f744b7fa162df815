-- Texts that were added.
use Rattle.std.proofs.Common.{◌≡◌, ℕ, ◌<◌, List, length, subst}
use Rattle.std.proofs.lemmas.Option.{slice_get_within}
use Rattle.gimli_lines_write_tables.specs.StringSections.{with_text, text_index}
use Rattle.gimli_lines_write_tables.proofs.SectionTexts.{text_at_index}
use Rattle.gimli_lines_write_tables.proofs.TextTableLemmas.{with_text-again}
use Rattle.linemap_emit_units.specs.InlinedNames.{IsAmong}

-- a text that was added is one of them
pub place_below : (texts : List (List ℕ)) (t : List ℕ) → text_index texts t < length (with_text texts t)
place_below texts t = slice_get_within (with_text texts t) (text_index texts t) t (text_at_index texts t)

-- a text that is among others adds nothing
pub again_among : (texts : List (List ℕ)) (t : List ℕ) → IsAmong texts t → with_text texts t ≡ texts
again_among = with_text-again

-- and it has a place among them
pub place_among : (texts : List (List ℕ)) (t : List ℕ) → IsAmong texts t → text_index texts t < length texts
place_among texts t among =
    subst (λ l. text_index texts t < length l) (with_text-again texts t among) (place_below texts t)
