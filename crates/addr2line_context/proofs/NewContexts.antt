-- The units of a context that was made just now: they are those of its file, and have no answers.
use Rattle.std.proofs.Common.{◌≡◌, List, [], ◌∷◌, length, map, Option, Some, None, Result, Ok, Err, refl, sym, ap, ◌∙◌, subst}
use Rattle.std.specs.List.{filter_map}
use Rattle.std.proofs.lemmas.List.{length-map}
use Rattle.std.proofs.lemmas.List.Elements.{All-nil, All-cons}
use Rattle.addr2line_lookups.specs.Error.{Error}
use Rattle.addr2line_lookups.specs.Repetition.{fault_of}
use Rattle.addr2line_lookups.specs.Results.{and_then, unless, each}
use Rattle.addr2line_lookups.specs.DwarfFiles.{DwarfFile}
use Rattle.addr2line_lookups.specs.UnitFacts.{UnitFacts, in_file}
use Rattle.addr2line_lookups.specs.FirstAnswers.{no_answers}
use Rattle.addr2line_lookups.specs.Contexts.{ContextUnit, context_unit, facts_of_code_unit, headers_of}
use Rattle.addr2line_lookups.specs.ResolvedUnits.{AnsweredUnit, ResolvedUnit, value_of_unit, plain_unit, without_answer, new_unit, new_units}
use Rattle.addr2line_lookups.specs.AnsweredUnits.{answers_of, IsOfFile, AreOfFile}

-- ---- units that were made

module _ (file : DwarfFile) where
  abbrev IsNew : AnsweredUnit → Type 0
  IsNew v = (v.file ≡ file) × (v.first ≡ None)

  abbrev pub AreNew : List AnsweredUnit → Type 0
  AreNew [] = Unit {0}
  AreNew (v ∷ vs) = IsNew v × AreNew vs

  abbrev IfNew : Result (List AnsweredUnit) Error → Type 0
  IfNew r = (vs : List AnsweredUnit) → r ≡ Ok vs → AreNew vs

  one_is_new : (r : Result ContextUnit Error) (rest : Result (List AnsweredUnit) Error) → IfNew rest
      → IfNew (and_then (and_then r (λ c. Ok (without_answer file c))) (λ y. and_then rest (λ ys. Ok (y ∷ ys))))
  one_is_new (Err e) rest h vs is = absurd cc
  one_is_new (Ok c) (Err e) h vs is = absurd cc
  one_is_new (Ok c) (Ok ws) h vs is =
      let same : without_answer file c ∷ ws ≡ vs = cc in subst AreNew same ((refl, refl), h ws refl)

  each_is_new : (xs : List UnitFacts) → IfNew (each (λ u. new_unit (in_file file u)) xs)
  each_is_new [] vs is = let same : [] ≡ vs = cc in subst AreNew same tt
  each_is_new (x ∷ xs) vs is =
      one_is_new (context_unit (in_file file x)) (each (λ u. new_unit (in_file file u)) xs) (each_is_new xs) vs is

  unless_fault : (fault : Option Error) (r : Result (List AnsweredUnit) Error) → IfNew r
      → IfNew (and_then r (λ us. unless fault (Ok us)))
  unless_fault None (Ok ws) h vs is = let same : ws ≡ vs = cc in subst AreNew same (h ws refl)
  unless_fault (Some e) (Ok ws) h vs is = absurd cc
  unless_fault None (Err e) h vs is = absurd cc
  unless_fault (Some d) (Err e) h vs is = absurd cc

  new_are_new : IfNew (new_units file)
  new_are_new =
      let facts = filter_map (facts_of_code_unit file) (headers_of file).items in
      unless_fault (fault_of (headers_of file)) (each (λ u. new_unit (in_file file u)) facts) (each_is_new facts)

  of_file : (vs : List AnsweredUnit) → AreNew vs → AreOfFile file vs
  of_file [] h = All-nil (IsOfFile file)
  of_file (v ∷ vs) h = All-cons (IsOfFile file) v vs h.0.0 (of_file vs h.1)

  none_of : (vs : List AnsweredUnit) → AreNew vs → answers_of vs ≡ no_answers (length vs)
  none_of [] h = refl
  none_of (v ∷ vs) h = ap (λ o. o ∷ answers_of vs) h.0.1 ∙ ap (λ l. None ∷ l) (none_of vs h.1)

  -- ---- the context

  module _ (us : List ResolvedUnit) (made : new_units file ≡ Ok (map value_of_unit us)) where
    pub new_of_file : AreOfFile file (map value_of_unit us)
    new_of_file = of_file (map value_of_unit us) (new_are_new (map value_of_unit us) made)

    pub new_without_answers : answers_of (map value_of_unit us) ≡ no_answers (length (map plain_unit us))
    new_without_answers =
        none_of (map value_of_unit us) (new_are_new (map value_of_unit us) made)
        ∙ ap no_answers (length-map us value_of_unit ∙ sym (length-map us plain_unit))
