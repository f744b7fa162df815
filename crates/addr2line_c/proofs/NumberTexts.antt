-- Both texts of what a call returned are those of that number where it isn't below 0.
use Rattle.std.proofs.Common.{◌≡◌, ℕ, ℤ, List, Option, ap, ◌∙◌}
use Rattle.core.specs.Int.{FitsUnsignedBits}
use Rattle.core.specs.Prelude.{pos, negsuc, unsigned_abs}
use Rattle.addr2line_c.specs.RefusalTexts.{both, code_text, sentence_text, texts_of}

pub both_texts : (z : ℤ) (n : ℕ) (code sentence : Option (List ℕ)) → FitsUnsignedBits 32 z × (n ≡ unsigned_abs z)
    → code ≡ code_text n → sentence ≡ sentence_text n → both code sentence ≡ texts_of z
both_texts (pos m) n code sentence is of_code of_sentence =
    ap (λ text. both text sentence) (of_code ∙ ap code_text is.1)
    ∙ ap (both (code_text m)) (of_sentence ∙ ap sentence_text is.1)
both_texts (negsuc m) n code sentence is of_code of_sentence = absurd is.0
