-- Loads by their numbers, read from what lends them.
use Rattle.std.proofs.Common.{◌≡◌, inl, inr, ℕ, ◌<◌, ◌≤◌, ℤ, List, length, slice_get, slice_index_or, Option, Some, None, IfSome, refl, sym, ap, ◌∙◌, subst}
use Rattle.std.proofs.lemmas.Option.{slice_get-get_or, slice_get_past}
use Rattle.addr2line_context.specs.DwarfFiles.{DwarfFile}
use Rattle.addr2line_context.specs.Error.TheVariants.{Memory}
use Rattle.addr2line_context.specs.FirstAnswers.{SplitLoad}
use Rattle.addr2line_c.specs.Answers.{AnswersLoad, Decides, DecidesIfAny, SkipsLoad, WritesLoad, split_file_of}
use Rattle.addr2line_c.specs.Numbers.{error_number, some_number}
use Rattle.addr2line_c.specs.declared.c_types.A2lLoad.{A2lLoad}
use Rattle.addr2line_c.specs.declared.numbers.TheConstants.{PAST_END, WRONG_FILE}
use Rattle.addr2line_c.specs.declared.open_file.OpenFile.{OpenFile}

pub at_number : {A : Type 0} (loads lent : List A) (number : ℕ) (load : A) → lent ≡ loads
    → load ≡ slice_index_or lent number load → number < length lent → slice_get loads number ≡ Some load
at_number loads lent number load same is within =
    ap (λ xs. slice_get xs number) (sym same) ∙ slice_get-get_or lent number load within ∙ ap Some (sym is)

pub past_them : {A : Type 0} (loads lent : List A) (number : ℕ) → lent ≡ loads → length lent ≤ number
    → slice_get loads number ≡ None
past_them loads lent number same past =
    ap (λ xs. slice_get xs number) (sym same) ∙ slice_get_past lent number past

module _ (at : Option (SplitLoad × ℕ)) where
  pub skips : (load : SplitLoad × ℕ) (old new : OpenFile) (result : ℤ) → at ≡ Some load
      → Decides load.1 None old new result → SkipsLoad at old new result
  skips load old new result here decides = subst (λ l. SkipsLoad l old new result) (sym here) decides

  pub skips_none : (old : OpenFile) → at ≡ None → SkipsLoad at old old PAST_END
  skips_none old none = subst (λ l. SkipsLoad l old old PAST_END) (sym none) (refl, refl)

  pub writes : (load : SplitLoad × ℕ) (out : A2lLoad) → at ≡ Some load → WritesLoad load.0 out
      → IfSome at (λ l. WritesLoad l.0 out)
  writes load out here written = subst (λ l. IfSome l (λ x. WritesLoad x.0 out)) (sym here) written

  pub none_number : at ≡ None → PAST_END ≡ some_number at PAST_END
  none_number none = ap (λ l. some_number l PAST_END) (sym none)

module _ (bytes : List ℕ) (at : Option (SplitLoad × ℕ)) (load : SplitLoad × ℕ) (old : OpenFile)
    (here : at ≡ Some load) where
  pub decided : (file : DwarfFile) (new : OpenFile) (result : ℤ)
      → split_file_of old.decompresses load.0 bytes ≡ Some file
      → Decides load.1 (Some file) old new result → AnswersLoad bytes at old new result
  decided file new result is decides =
      subst (λ l. AnswersLoad bytes l old new result) (sym here)
      (inl (subst (λ f. DecidesIfAny load.1 f old new result) (sym is) decides))

  pub wrong_file : split_file_of old.decompresses load.0 bytes ≡ None → AnswersLoad bytes at old old WRONG_FILE
  wrong_file is =
      subst (λ l. AnswersLoad bytes l old old WRONG_FILE) (sym here)
      (inl (subst (λ f. DecidesIfAny load.1 f old old WRONG_FILE) (sym is) (refl, refl)))

  pub no_memory : (result : ℤ) → result ≡ error_number Memory → AnswersLoad bytes at old old result
  no_memory result is = subst (λ l. AnswersLoad bytes l old old result) (sym here) (inr (is, refl))
