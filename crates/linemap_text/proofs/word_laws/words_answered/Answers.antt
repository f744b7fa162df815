use Rattle.linemap_text.proofs.WordTextLemmas.{words_answered}
use Rattle.linemap_text.proofs.word_laws.words_answered.Goals as goal

pub returns : goal.returns
returns c = words_answered
