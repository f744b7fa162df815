-- What is asked of an image that answers a table, and what is printed then.
use Rattle.std.proofs.Common.{◌≡◌, ℕ, Bool, true, false, List, [], ◌∷◌, ◌++◌, map, Option, Some, None, option_map, Result, Ok, refl, ap, subst, ◌∙◌}
use Rattle.std.specs.Prelude.{◌-◌, ◌^◌, codes, if◌then◌else◌}
use Rattle.std.specs.String.{string_bytes}
use Rattle.linemap_image.specs.ImageAnswers.{FileAnswers}
use Rattle.linemap_image.specs.LookupStretches.{lookup_stretch}
use Rattle.linemap_image.specs.Meaning as table
use Rattle.linemap_image.specs.TableParts.{UnitPart}
use Rattle.linemap_lookup.specs.Contexts.{Context}
use Rattle.linemap_lookup.specs.Error.{Error}
use Rattle.linemap_lookup.specs.ErrorText.{error_text}
use Rattle.linemap_lookup.specs.Lines.{Stretch}
use Rattle.linemap_lookup.specs.LoadedFiles.{LoadedFile}
use Rattle.linemap_lookup.specs.LoadError.{LoadError}
use Rattle.linemap_lookup.specs.LoadErrors.{text_of}
use Rattle.linemap_lookup.specs.LookupRuns.{answers_together}
use Rattle.linemap_lookup.specs.Options.{Options}
use Rattle.linemap_lookup.specs.Outcome.{Outcome}
use Rattle.linemap_lookup.specs.Programs.{Prints, PrintsAnswers, Question, all_if_asked, ascending_after, begins_of, or_line, question, question_of, section_if_any}
use Rattle.linemap_lookup.specs.Range.{Range}
use Rattle.linemap_lookup.specs.Repetition.{Listing}
use Rattle.linemap_lookup.specs.Results.{◌>>=◌}
use Rattle.linemap_lookup_laws.specs.TableTexts.{all_addresses, table_addresses, table_text}
use Rattle.linemap_lookup_laws.specs.TableTextLaws.{PrintsTable}
use Rattle.linemap_lookup_laws.proofs.AddressAnswers.{addresses_said}

-- ---- all addresses

same_addresses : (ss : List table.Stretch)
    → map (λ (s : Stretch). s.address) (map lookup_stretch ss ++ []) ≡ map (λ (s : table.Stretch). s.address) ss
same_addresses [] = refl
same_addresses (s ∷ ss) = ap (λ (all : List ℕ). s.address ∷ all) (same_addresses ss)

module _ (o : Options) (image : List ℕ) (us : List UnitPart) (file : FileAnswers image us) where
  all_are : (asked : Bool)
      → all_if_asked asked file.loaded.context.context ≡ Ok (if asked then Some (table_addresses us) else None)
  all_are false = refl
  all_are true =
      ap (λ (c : Context). all_if_asked true c) file.context_is
      ∙ ap (λ (l : Listing (Unit {0}) Stretch).
      or_line (codes "failed to find all addresses: ") error_text (begins_of l) >>= λ all. Ok (Some all))
      (file.answers.stretches_are 0 (2 ^ 64 - 1))
      ∙ ap (λ (all : List ℕ). Ok (Some (ascending_after None all)))
      (same_addresses (table.stretches_between us 0 (2 ^ 64 - 1)))

  -- ---- what is asked

  abbrev asked_of : Option Range → Option (List ℕ) → Question
  asked_of section all = record { file = file.loaded; section = section; all = all }

  question_is : (section : Option Range)
      → section_if_any (option_map string_bytes o.section) file.loaded.image ≡ Ok section
      → question o image None ≡ Ok (asked_of section (all_addresses o us))
  question_is section section_is =
      ap (λ (r : Result LoadedFile LoadError).
      or_line (codes "failed to load debug info: ") text_of r >>= λ f. question_of o f) file.is_loaded
      ∙ ap (λ (r : Result (Option Range) (List ℕ)). r >>= λ s.
      all_if_asked o.all file.loaded.context.context >>= λ all. Ok (asked_of s all)) section_is
      ∙ ap (λ (r : Result (Option (List ℕ)) (List ℕ)). r >>= λ all. Ok (asked_of section all)) (all_are o.all)

  -- ---- what is printed

  pub printed : {S : Type 0} (answers : S → List ℕ → List ℕ → Result (Option (List ℕ)) Error → S → Type 0)
      (section : Option Range) (source : S) (input_old input_new : Option (List ℕ)) (is_cut : Bool) (p : Outcome)
      → section_if_any (option_map string_bytes o.section) file.loaded.image ≡ Ok section
      → Prints answers o source input_old input_new (question o image None) is_cut p
      → PrintsTable o us section input_old input_new is_cut p
  printed answers section source input_old input_new is_cut p section_is h =
      let q : Question = asked_of section (all_addresses o us) in
      let prints : PrintsAnswers answers o source input_old input_new q is_cut p =
      subst (λ (r : Result Question (List ℕ)). Prints answers o source input_old input_new r is_cut p)
      (question_is section section_is) h in
      let said =
      addresses_said answers o image us file section prints.xs (record { file = file.loaded; source = source })
      prints.after (record { context_is = refl; no_symbols = file.no_symbols }) prints.answer_them
      prints.none_refused in
      let text : List ℕ = table_text o us section prints.addresses in
      record {
        addresses = prints.addresses;
        are_asked = prints.are_asked;
        is_text =
            prints.is_outcome
            ∙ ap (λ out. record { out = out; err = (answers_together prints.xs).errors; status = 0 })
            (said.text_is ∙ ap (table_text o us section) prints.are_addresses)
            ∙ ap (λ err. record { out = text; err = err; status = 0 }) said.no_errors;
      }
