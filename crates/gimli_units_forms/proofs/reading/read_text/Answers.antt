use Rattle.gimli_core_abbrev.proofs.ViewCuts.{text_is}
use Rattle.gimli_units_forms.proofs.reading.read_text.Goals as goal

pub returns-clause-value : goal.returns-clause-value
returns-clause-value g c = text_is _ _ _ _ _ c.in_ok-length.ensures c.in_ok-text.ensures.value c.advance.ensures

pub returns-clause-free : goal.returns-clause-free
returns-clause-free g c = λ _. text_is _ _ _ _ _ c.in_ok-length.ensures c.in_ok-text.ensures.value c.advance.ensures
