use Rattle.std.proofs.Common.{ℕ, drop, map}
use Rattle.std.specs.Global.{Vec}
use Rattle.gimli_lines_write_tables.proofs.SectionWrites.{TextsLeft}
use Rattle.gimli_lines_write_tables.proofs.string_tables.write_texts.Given as goal

abbrev pub invariant-loop-text : goal.invariant-loop-text
invariant-loop-text g l =
    TextsLeft (g.W.Writer.contents l.initial.w) (g.W.Writer.contents l.w) (map (λ (t : Vec ℕ). t.items) l.texts)
    (map (λ (t : Vec ℕ). t.items) (drop l.text-index l.texts))
