use Rattle.std.proofs.Common.{◌≡◌, map, take, string_bytes}
use Rattle.linemap_words.proofs.matches.copies_of.Given as goal

-- the copies are those of the texts so far
abbrev pub invariant-loop-text : goal.invariant-loop-text
invariant-loop-text l = map string_bytes l.copies.items ≡ map (λ text. text.now) (take l.text-index l.texts)
