-- Stretches that are copied, one after the other.
use Rattle.std.proofs.Common.{◌≡◌, ◌∙◌, List, [], ◌∷◌, ◌++◌, map, Option, Some, Result, Ok, sym, ap, subst, append_assoc}
use Rattle.std.proofs.lemmas.List.{map-append}
use Rattle.addr2line_context.specs.Error.{Error}
use Rattle.addr2line_context.specs.Lines.{Stretch}
use Rattle.addr2line_context.specs.Repetition.{Listing, prepend}
use Rattle.addr2line_context.specs.StretchesLeft.{StretchComesNext}
use Rattle.addr2line_context.specs.OwnedPlaces.{stretch_of}
use Rattle.addr2line_context.specs.declared.owned_places.OwnedStretch.{OwnedStretch}

-- the copies so far and what is left are all still, after one more
pub one_more_stretch : {A : Type 0} (see : A → Stretch) (all old new : Listing (Unit {0}) Stretch)
    (copies more : List OwnedStretch) (x : OwnedStretch) (item : A) (result : Result (Option A) Error)
    → result ≡ Ok (Some item) → StretchComesNext see result old new → stretch_of x ≡ see item
    → more ≡ copies ++ x ∷ [] → prepend (map stretch_of copies) old ≡ all → prepend (map stretch_of more) new ≡ all
one_more_stretch {A} see all old new copies more x item result is next copy push before =
    let comes : old ≡ prepend (see item ∷ []) new =
    subst (λ (r : Result (Option A) Error). StretchComesNext see r old new) is next in
    ap (λ l. prepend (map stretch_of l) new) push
    ∙ ap (λ l. prepend l new) (map-append stretch_of copies (x ∷ []))
    ∙ ap (λ s. prepend (map stretch_of copies ++ s ∷ []) new) copy
    ∙ ap (λ (l : List Stretch). record { items = l; ending = new.ending })
    (append_assoc (map stretch_of copies) (see item ∷ []) new.items)
    ∙ sym (ap (prepend (map stretch_of copies)) comes) ∙ before
