-- The first load of an address in a context, and what an answer to it leaves.
use Rattle.std.proofs.Common.{◌≡◌, ◌≢◌, inl, inr, ℕ, ◌+◌, ◌<◌, ◌≤◌, List, [], ◌∷◌, length, map, Option, Some, None, option_map, Result, Ok, Err, refl, sym, ap, ◌∙◌, subst, arith}
use Rattle.std.specs.Prelude.{OnOk, IfErr}
use Rattle.std.proofs.lemmas.List.{length-map}
use Rattle.addr2line_lookups.specs.Error.{Error}
use Rattle.addr2line_lookups.specs.Error.TheVariants.{Memory}
use Rattle.addr2line_lookups.specs.DwarfFiles.{DwarfFile}
use Rattle.addr2line_lookups.specs.UnitFacts.{UnitFacts}
use Rattle.addr2line_lookups.specs.FirstAnswers.{SplitLoad, FirstAnswers, PendingLoad}
use Rattle.addr2line_lookups.specs.Lookups.{one_each, answer_load}
use Rattle.addr2line_lookups.specs.NumberedRanges.{covering_ranges}
use Rattle.addr2line_lookups.specs.ContextUnits.{ordered_ranges}
use Rattle.addr2line_lookups.specs.ResolvedUnits.{ResolvedUnit, value_of_unit, plain_unit}
use Rattle.addr2line_lookups.specs.AnsweredUnits.{first_of, answers_of, AreOfFile}
use Rattle.addr2line_lookups.specs.LoadAnswers.{AnswersOrNoMemory, answer_at}
use Rattle.addr2line_lookups.specs.Preloads.{loads_at, first_number, first_load}
use Rattle.addr2line_context.specs.AnsweredContexts.{AnsweredContext}
use Rattle.addr2line_context.specs.Outcomes.{IsMemoryAlone}
use Rattle.addr2line_context.specs.SettledLookups.{loads_in, answers_with_first, after_answer, LeavesAnswer, LoadOf}
use Rattle.addr2line_context.proofs.ContextParts.{context_with}
use Rattle.addr2line_context.proofs.ContextLoads.{loads_of_context, answer_of_context, same_plain_context}
use Rattle.addr2line_context.proofs.AnsweredFirst.{fewer_loads}

-- a load, if there is one
abbrev pub ok_load : Option SplitLoad → Result (Option SplitLoad) Error
ok_load l = Ok l

module _ (file : DwarfFile) (us : List ResolvedUnit) (s : List UnitFacts)
    (of_file : AreOfFile file (map value_of_unit us)) (a : ℕ) (c : AnsweredContext)
    (is : context_with file us s ≡ c) where
  abbrev unit_loads : List PendingLoad
  unit_loads = loads_at (map value_of_unit us) (covering_ranges a (ordered_ranges (map plain_unit us)))

  loads_are : loads_in c a ≡ one_each unit_loads
  loads_are = loads_of_context file us s of_file a c is

  none_by : (ps : List PendingLoad) → None ≡ first_number ps → one_each ps ≡ []
  none_by [] h = refl
  none_by (p ∷ ps) h = absurd cc

  none_of : (ps : List PendingLoad) → one_each ps ≡ [] → ps ≡ []
  none_of [] h = refl
  none_of (p ∷ ps) h = absurd cc

  -- there are none where none is the first
  none_pending : None ≡ first_number unit_loads → loads_in c a ≡ []
  none_pending first = loads_are ∙ none_by unit_loads first

  -- where there are none, the units have none
  pub none_of_units : loads_in c a ≡ [] → unit_loads ≡ []
  none_of_units none = none_of unit_loads (sym loads_are ∙ none)

  -- ---- the first load

  load_by : (ps : List PendingLoad) (l : SplitLoad) → first_load ps ≡ Some l → LoadOf (one_each ps) (Ok l)
  load_by [] l h = absurd cc
  load_by (p ∷ ps) l h = let same : p.load ≡ l = cc in ap Ok same

  no_load_by : (ps : List PendingLoad) → first_load ps ≡ None → 0 < length (one_each ps) → ⊥
  no_load_by [] h some = omega (arith, some)
  no_load_by (p ∷ ps) h some = absurd cc

  memory_by : (ps : List PendingLoad) (e : Error) → (e ≢ Memory → ⊥) → 0 < length (one_each ps)
      → LoadOf (one_each ps) (Err e)
  memory_by [] e h some = absurd (omega (arith, some))
  memory_by (p ∷ ps) e h some = λ m. absurd (h m)

  -- the first of the units' loads is this, if it is one
  abbrev pub FoundIs : Option SplitLoad → Type 0
  FoundIs o = ok_load (first_load unit_loads) ≡ Ok (option_map (λ x. x) o)

  pub load_found : (o : Option SplitLoad) (l : SplitLoad) → o ≡ Some l → FoundIs o → LoadOf (loads_in c a) (Ok l)
  load_found o l is h =
      let found : FoundIs (Some l) = subst FoundIs is h in
      let same : first_load unit_loads ≡ Some l = cc in
      subst (λ ps. LoadOf ps (Ok l)) (sym loads_are) (load_by unit_loads l same)

  pub no_load_found : (o : Option SplitLoad) → o ≡ None → FoundIs o → 0 < length (loads_in c a) → ⊥
  no_load_found o is h some =
      let found : FoundIs None = subst FoundIs is h in
      let same : first_load unit_loads ≡ None = cc in
      no_load_by unit_loads same (subst (λ ps. 0 < length ps) loads_are some)

  refused_not : (o : Option SplitLoad) (e : Error) → ok_load o ≡ Err e → ⊥
  refused_not o e h = cc

  pub load_refused : (e : Error) → (e ≢ Memory → ok_load (first_load unit_loads) ≡ Err e) → 0 < length (loads_in c a)
      → LoadOf (loads_in c a) (Err e)
  load_refused e h some =
      subst (λ ps. LoadOf ps (Err e)) (sym loads_are)
      (memory_by unit_loads e (λ m. refused_not (first_load unit_loads) e (h m))
      (subst (λ ps. 0 < length ps) loads_are some))

  -- ---- an answer to it

  module _ (answer : Option DwarfFile) where
    -- where there is no load
    pub none_answered : None ≡ first_number unit_loads → c ≡ after_answer c a answer
    none_answered first =
        sym (ap (λ ps. record c { answers = answers_with_first c ps answer }) (none_pending first))

    pub none_fewer : None ≡ first_number unit_loads → 0 < length (loads_in c a)
        → length (loads_in c a) + 1 ≤ length (loads_in c a)
    none_fewer first some =
        let none = ap length (none_pending first) in absurd (omega (arith, some, none))

    module _ (n : ℕ) (first : Some n ≡ first_number unit_loads) (new : List ResolvedUnit)
        (answered : Result (Unit {0}) Error)
        (h : AnswersOrNoMemory answered (map value_of_unit us) (map value_of_unit new)
        (answer_at (map value_of_unit us) n answer)) where
      abbrev left : AnsweredContext
      left = context_with file new s

      abbrev meaning : Result (Unit {0}) Error × FirstAnswers
      meaning = answer_load c.plain c.answers n answer

      abbrev recorded : FirstAnswers → AnsweredContext
      recorded answers = record c { answers = answers }

      answers_by : (ps : List PendingLoad) → Some n ≡ first_number ps
          → answers_with_first c (one_each ps) answer ≡ meaning.1
      answers_by [] is = absurd cc
      answers_by (p ∷ ps) is =
          let same : p.number ≡ n = cc in ap (λ m. (answer_load c.plain c.answers m answer).1) same

      after_is : after_answer c a answer ≡ recorded meaning.1
      after_is =
          ap (λ ps. recorded (answers_with_first c ps answer)) loads_are ∙ ap recorded (answers_by unit_loads first)

      left_is : left ≡ recorded (answers_of (map value_of_unit new))
      left_is =
          ap (λ plain. record { plain = plain; answers = answers_of (map value_of_unit new) })
          (same_plain_context file us s of_file new answered n answer h c is)

      answers_are : AnswersOrNoMemory answered c.answers (answers_of (map value_of_unit new)) meaning
      answers_are = answer_of_context file us s of_file new answered n answer h c is

      left_by : AnswersOrNoMemory answered c.answers (answers_of (map value_of_unit new)) meaning
          → LeavesAnswer c a answer left
      left_by (inl same) = inl (left_is ∙ ap recorded (sym (ap (λ r. r.1) same)) ∙ sym after_is)
      left_by (inr none) = inr (left_is ∙ ap recorded none.1)

      pub answer_left : LeavesAnswer c a answer left
      answer_left = left_by answers_are

      is_after : AnswersOrNoMemory answered c.answers (answers_of (map value_of_unit new)) meaning
          → answered ≢ Err Memory → left ≡ after_answer c a answer
      is_after (inl same) some = left_is ∙ ap recorded (sym (ap (λ r. r.1) same)) ∙ sym after_is
      is_after (inr none) some = absurd (some none.0)

      pub answered_ok : (r : Result (Unit {0}) Error) → IsMemoryAlone answered r
          → OnOk r (left ≡ after_answer c a answer)
      answered_ok (Ok x) some = is_after answers_are some
      answered_ok (Err e) some = tt

      pub answered_refusal : (r : Result (Unit {0}) Error) → IsMemoryAlone answered r → IfErr r (λ e. e ≡ Memory)
      answered_refusal (Ok x) some = tt
      answered_refusal (Err e) some = some.1

      enough : length c.answers ≡ length c.plain.context.units
      enough =
          ap (λ (x : AnsweredContext). length x.answers) (sym is)
          ∙ length-map (map value_of_unit us) first_of ∙ length-map us value_of_unit ∙ sym (length-map us plain_unit)
          ∙ ap (λ (x : AnsweredContext). length x.plain.context.units) is

      pub answered_fewer : (r : Result (Unit {0}) Error) → IsMemoryAlone answered r
          → OnOk r (0 < length (loads_in left a) → length (loads_in left a) + 1 ≤ length (loads_in c a))
      answered_fewer (Ok x) some = fewer_loads c a answer enough left (is_after answers_are some)
      answered_fewer (Err e) some = tt
