use Rattle.std.proofs.Common.{ℕ, List, Option, take, option_map, ap, sym, ◌∙◌, Bor}
use Rattle.addr2line_elf.specs.ElfTexts.{text_before_zero, is_text}
use Rattle.addr2line_elf.proofs.TextLemmas.{text_within}
use Rattle.addr2line_elf.proofs.texts.begins_with_text.Goals as goal

pub returns-in-Some : goal.returns-in-Some
returns-in-Some c =
    let bytes = c.args.bytes.now in
    let text = c.args.text.now in
    c.eq.ensures
    ∙ ap (λ (o : Option (Bor (List ℕ))). is_text (option_map (λ t. t.now) o) text) (sym c.in-Some.is)
    ∙ ap (λ (o : Option (List ℕ)). is_text o text) c.text_before_zero.ensures
    ∙ ap (λ (k : ℕ). is_text (text_before_zero (take k bytes)) text) c.min-len.ensures
    ∙ text_within bytes text

pub returns-in-None : goal.returns-in-None
returns-in-None c =
    let bytes = c.args.bytes.now in
    let text = c.args.text.now in
    ap (λ (o : Option (Bor (List ℕ))). is_text (option_map (λ t. t.now) o) text) (sym c.in-None.is)
    ∙ ap (λ (o : Option (List ℕ)). is_text o text) c.text_before_zero.ensures
    ∙ ap (λ (k : ℕ). is_text (text_before_zero (take k bytes)) text) c.min-len.ensures
    ∙ text_within bytes text
