-- A context whose units have no split parts has no loads.
use Rattle.std.proofs.Common.{◌≡◌, ℕ, List, [], ◌∷◌, map, All, Option, None, Ok, refl, ap, ◌∙◌}
use Rattle.std.specs.List.{filter_map, cons_option}
use Rattle.std.proofs.lemmas.List.Elements.{All-head, All-tail}
use Rattle.addr2line_context.specs.Contexts.{ContextUnit, FileContext, ranges_of}
use Rattle.addr2line_context.specs.FirstAnswers.{FirstAnswer, FirstAnswers, Lookup, output, recorded_answer, decision, load_of_id}
use Rattle.addr2line_context.specs.Lookups.{decision_of, unit_in, load_in, loads, map_output, one_each}
use Rattle.addr2line_context.specs.OptionalValues.{if_any}
use Rattle.addr2line_context.specs.Pairs.{Pair, covering_pairs}
use Rattle.linemap_emit.proofs.LookupsWithoutLoads.{all_covering}

-- no unit of another file has its functions
abbrev pub IsWhole : ContextUnit → Type 0
IsWhole u = u.facts.dwo_id ≡ None

module _ (c : FileContext) (answers : FirstAnswers) (a : ℕ) where
  abbrev asked : Pair ContextUnit → Lookup FirstAnswer
  asked p = map_output (λ first. first) (decision_of c answers p.number p.unit)

  needs_none : (p : Pair ContextUnit) → IsWhole p.unit → asked p ≡ output (Ok None)
  needs_none p whole =
      ap (λ (id : Option ℕ). map_output (λ (first : FirstAnswer). first)
      (decision p.number (if_any (load_of_id (unit_in c p.unit)) id) (recorded_answer answers p.number))) whole

  none_in : (ps : List (Pair ContextUnit)) → All (λ p. IsWhole p.unit) ps → filter_map load_in (map asked ps) ≡ []
  none_in [] whole = refl
  none_in (p ∷ ps) whole =
      ap (λ (l : Lookup FirstAnswer). cons_option (load_in l) (filter_map load_in (map asked ps)))
      (needs_none p (All-head (λ (q : Pair ContextUnit). IsWhole q.unit) p ps whole))
      ∙ none_in ps (All-tail (λ (q : Pair ContextUnit). IsWhole q.unit) p ps whole)

  pub no_loads : All IsWhole c.context.units → loads c answers a ≡ []
  no_loads whole =
      ap one_each (none_in (covering_pairs ranges_of c.context.units a)
      (all_covering ranges_of IsWhole c.context.units a whole))
