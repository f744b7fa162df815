-- Loads of a context and answers to them, by its units.
use Rattle.std.proofs.Common.{◌≡◌, ℕ, List, map, Option, Result, sym, ap, ◌∙◌, subst}
use Rattle.std.proofs.lemmas.Simd.{map-map}
use Rattle.addr2line_lookups.specs.Error.{Error}
use Rattle.addr2line_lookups.specs.DwarfFiles.{DwarfFile}
use Rattle.addr2line_lookups.specs.UnitFacts.{UnitFacts}
use Rattle.addr2line_lookups.specs.FirstAnswers.{FirstAnswers}
use Rattle.addr2line_lookups.specs.Lookups.{one_each, loads, answer_load}
use Rattle.addr2line_lookups.specs.NumberedRanges.{covering_ranges}
use Rattle.addr2line_lookups.specs.ContextUnits.{ordered_ranges}
use Rattle.addr2line_lookups.specs.ResolvedUnits.{ResolvedUnit, value_of_unit, plain_unit}
use Rattle.addr2line_lookups.proofs.NewUnits.{unit_of}
use Rattle.addr2line_context.specs.AnsweredContexts.{AnsweredContext}
use Rattle.addr2line_lookups.specs.AnsweredUnits.{AreOfFile, answers_of}
use Rattle.addr2line_lookups.specs.LoadAnswers.{AnswersOrNoMemory, answer_at}
use Rattle.addr2line_lookups.specs.Preloads.{loads_at}
use Rattle.addr2line_lookups.proofs.ContextOfUnits.{context_of_units}
use Rattle.addr2line_context.proofs.ContextParts.{file_context_with, context_with}
use Rattle.addr2line_lookups.proofs.PendingUnits.{loads_of_units}
use Rattle.addr2line_lookups.proofs.AnsweredLoads.{answers_of_units, answers_left, plain_left}

module _ (file : DwarfFile) (us : List ResolvedUnit) (s : List UnitFacts)
    (of_file : AreOfFile file (map value_of_unit us)) where
  -- the units, without what is kept
  plain_of_values : map unit_of (map value_of_unit us) ≡ map plain_unit us
  plain_of_values = map-map unit_of value_of_unit us

  -- the loads of a context
  pub loads_of_context : (a : ℕ) (c : AnsweredContext) → context_with file us s ≡ c
      → loads c.plain c.answers a
      ≡ one_each (loads_at (map value_of_unit us) (covering_ranges a (ordered_ranges (map plain_unit us))))
  loads_of_context a c is =
      ap (λ (x : AnsweredContext). loads x.plain x.answers a) (sym is)
      ∙ ap (λ units. loads (context_of_units file units s) (answers_of (map value_of_unit us)) a) (sym plain_of_values)
      ∙ loads_of_units file (map value_of_unit us) of_file s a
      ∙ ap (λ units. one_each (loads_at (map value_of_unit us) (covering_ranges a (ordered_ranges units))))
      plain_of_values

  module _ (us' : List ResolvedUnit) (result : Result (Unit {0}) Error) (n : ℕ) (answer : Option DwarfFile)
      (h : AnswersOrNoMemory result (map value_of_unit us) (map value_of_unit us')
      (answer_at (map value_of_unit us) n answer))
      (c : AnsweredContext) (is : context_with file us s ≡ c) where
    abbrev meaning_in : AnsweredContext → Result (Unit {0}) Error × FirstAnswers
    meaning_in x = answer_load x.plain x.answers n answer

    by_units : meaning_in c
        ≡ ((answer_at (map value_of_unit us) n answer).0, answers_of (answer_at (map value_of_unit us) n answer).1)
    by_units =
        ap meaning_in (sym is)
        ∙ ap (λ units. answer_load (context_of_units file units s) (answers_of (map value_of_unit us)) n answer)
        (sym plain_of_values)
        ∙ answers_of_units file (map value_of_unit us) of_file s answer n

    -- an answer in a context
    pub answer_of_context : AnswersOrNoMemory result c.answers (answers_of (map value_of_unit us')) (meaning_in c)
    answer_of_context =
        let P : FirstAnswers → Type 0 =
        λ old. AnswersOrNoMemory result old (answers_of (map value_of_unit us')) (meaning_in c) in
        subst P (ap (λ (x : AnsweredContext). x.answers) is)
        (subst (AnswersOrNoMemory result (answers_of (map value_of_unit us)) (answers_of (map value_of_unit us')))
        (sym by_units)
        (answers_left answers_of result (map value_of_unit us) (map value_of_unit us')
        (answer_at (map value_of_unit us) n answer) h))

    -- leaves the rest of it as it was
    pub same_plain_context : file_context_with file us' s ≡ c.plain
    same_plain_context =
        ap (λ units. context_of_units file units s) (plain_left us us' result n answer h)
        ∙ ap (λ (x : AnsweredContext). x.plain) is

    -- one for a decided unit is never out of memory
    pub decided_in_context : answer_at (map value_of_unit us) n answer ≡ (result, map value_of_unit us')
        → meaning_in c ≡ (result, answers_of (map value_of_unit us'))
    decided_in_context decided = by_units ∙ ap (λ r. (r.0, answers_of r.1)) decided
