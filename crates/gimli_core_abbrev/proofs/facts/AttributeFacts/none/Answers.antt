use Rattle.std.proofs.Common.{◌≡◌, ℕ, ◌+◌, ◌*◌, [], Option, Some, refl, ap, sym, subst, arith}
use Rattle.gimli_core_readers.specs.FormatSizes.{word_size}
use Rattle.gimli_core_abbrev.specs.DeclarationFacts.{KnowsWidths}
use Rattle.gimli_core_abbrev.specs.FormWidths.{no_widths, sum_of_first}
use Rattle.gimli_core_abbrev.proofs.facts.AttributeFacts.none.Goals as goal

abbrev some : ℕ → Option ℕ
some n = Some n

no_bytes : (a w : ℕ) → some 0 ≡ some (0 + 0 * a + 0 * w)
no_bytes a w = let same : 0 ≡ 0 + 0 * a + 0 * w = omega arith in ap some same

knows_none : KnowsWidths no_widths 15 []
unfolding sum_of_first
knows_none = record {
  widths = λ e. record { count = refl; sum = no_bytes e.address_size (word_size e.format) };
  room = λ _. refl;
  ended = λ less. absurd (omega (arith, less));
}

pub returns-clause-knows : goal.returns-clause-knows
returns-clause-knows c = record {
  ranges = refl;
  widths = subst (λ w. KnowsWidths w 15 []) (sym c.none.ensures) knows_none;
}
