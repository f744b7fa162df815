-- Loads that the answers at places of a list answer, one after the other.
use Rattle.std.proofs.Common.{◌≡◌, ℕ, suc, ◌+◌, ◌<◌, List, [], ◌∷◌, length, drop, get_or, Option, Result, Ok, Err, OnOk, refl, sym, ap, ◌∙◌, arith}
use Rattle.std.proofs.Math.Seq.{drop-cons}
use Rattle.addr2line_context.specs.AnsweredContexts.{AnsweredContext}
use Rattle.addr2line_context.specs.DwarfFiles.{DwarfFile}
use Rattle.addr2line_context.specs.FirstAnswers.{FirstAnswers, Lookup, output}
use Rattle.addr2line_context.specs.FrameLoads.{IsDone}
use Rattle.addr2line_context.specs.Lookups.{if_output, answer_load, resume}
use Rattle.addr2line_context.specs.SettledLookups.{loads_in, answers_with_first, after_answer}
use Rattle.addr2line_context.specs.UnitLookups.{IsPending}
use Rattle.linemap_replay.specs.Replays.{WaitsForFirst, resume_with_all}

-- what holds whatever a result is
pub if_ok : {A E : Type 0} (r : Result A E) (P : Type 0) → P → OnOk r P
if_ok (Ok x) P h = h
if_ok (Err e) P h = tt

-- the items from one on are that one and those after it
pub items_at : {A : Type 0} (xs : List A) (i : ℕ) (x : A) → i < length xs → x ≡ get_or xs i x
    → drop i xs ≡ x ∷ drop (i + 1) xs
items_at {A} xs i x lt is =
    let next : suc i ≡ i + 1 = omega arith in
    drop-cons xs i x lt ∙ ap (λ (y : A). y ∷ drop (suc i) xs) (sym is) ∙ ap (λ (n : ℕ). x ∷ drop n xs) next

pub number_at : (ns : List ℕ) (i : ℕ) → i < length ns → drop i ns ≡ get_or ns i 0 ∷ drop (i + 1) ns
number_at ns i lt =
    let next : suc i ≡ i + 1 = omega arith in
    drop-cons ns i 0 lt ∙ ap (λ (n : ℕ). get_or ns i 0 ∷ drop n ns) next

-- ---- a lookup of an address

module _ {A : Type 0} (lookup : AnsweredContext → ℕ → Lookup A) (a : ℕ) where
  abbrev go_on : AnsweredContext → Option DwarfFile → List (Option DwarfFile) → Lookup A → Lookup A × FirstAnswers
  go_on v file files l =
      if_output l (λ x. (output x, v.answers)) (λ p.
      resume v.plain (λ answers. lookup (record v { answers = answers }) a) files
      (answer_load v.plain v.answers p.number file).1)

  -- one that waits for no load takes no answer
  pub resumed_done : (v : AnsweredContext) → IsDone (lookup v a) → (files : List (Option DwarfFile))
      → resume_with_all lookup v a files ≡ (lookup v a, v.answers)
  resumed_done v done [] = refl
  resumed_done v done (file ∷ files) =
      ap (go_on v file files) done.1 ∙ ap (λ (l : Lookup A). (l, v.answers)) (sym done.1)

  -- one that waits does so for the first load of the address, and goes on after an answer to that
  pub resumed_waiting : (v mid new : AnsweredContext) → WaitsForFirst (loads_in v a) (lookup v a)
      → IsPending (lookup v a) → mid ≡ v → new.plain ≡ mid.plain
      → (file : Option DwarfFile) → new.answers ≡ (after_answer mid a file).answers → (files : List (Option DwarfFile))
      → resume_with_all lookup new a files ≡ resume_with_all lookup v a (file ∷ files)
  resumed_waiting v mid new first waits is same file answered files =
      ap (λ c. resume_with_all lookup (record { plain = c; answers = new.answers }) a files)
      (same ∙ ap (λ (x : AnsweredContext). x.plain) is)
      ∙ ap (λ answers. resume_with_all lookup (record v { answers = answers }) a files)
      (answered ∙ ap (λ x. (after_answer x a file).answers) is
      ∙ ap (λ ps. answers_with_first v ps file) (first waits.0 waits.1).1)
      ∙ sym (ap (go_on v file files) waits.1)

  -- the same context has the same
  pub found_in_same : (v mid : AnsweredContext) → mid ≡ v → (r : Lookup A × FirstAnswers)
      → r ≡ (lookup v a, v.answers) → r ≡ (lookup mid a, mid.answers)
  found_in_same v mid is r h = h ∙ ap (λ (x : AnsweredContext). (lookup x a, x.answers)) (sym is)
