-- A sound table breaks no rule, nor does any of its units.
use Rattle.std.proofs.Common.{◌≡◌, Bool, true, false, cond, List, [], ◌∷◌, Option, Some, None, find, Contains, refl, ap, ◌∙◌}
use Rattle.std.specs.List.{list_any}
use Rattle.std.proofs.lemmas.Bool.{both_ways, false_from_ne_true}
use Rattle.std.proofs.lemmas.List.Folds.{list_any_at}
use Rattle.linemap_meaning.specs.TableParts.{UnitPart}
use Rattle.linemap_meaning.specs.Conditions.{breaks, rules_in_order, IsSound}
use Rattle.linemap_meaning.specs.declared.rule.Rule.{Rule}
use Rattle.linemap_meaning.specs.declared.rule.Rule.TheVariants.{EmptyRange, Bounds, NoRange, UnitsOverlap, FunctionOutside, FunctionsOverlap, CallOutside, CallsOverlap, SequenceOutside, SequencesOverlap, Rows, LineOrColumn, FileNumber, Text, NotRooted, Nesting, Discriminator}

-- where a search finds nothing, no element passes its test
AllFalse : {X : Type 0} → (X → Bool) → List X → Type 0
AllFalse p [] = Unit {0}
AllFalse p (x ∷ xs) = (p x ≡ false) × AllFalse p xs

fails_first : {X : Type 0} (p : X → Bool) (x : X) (later : Option X) (b : Bool) → cond b (Some x) later ≡ None
    → (b ≡ false) × (later ≡ None)
fails_first p x later true h = cc
fails_first p x later false h = (refl, h)

all_fail : {X : Type 0} (p : X → Bool) (xs : List X) → find p xs ≡ None → AllFalse p xs
unfolding AllFalse
all_fail p [] h = tt
all_fail p (x ∷ xs) h = let parts = fails_first p x (find p xs) (p x) h in (parts.0, all_fail p xs parts.1)

-- a sound table breaks none of the rules
pub sound_rule : (us : List UnitPart) (r : Rule) → IsSound us → breaks us r ≡ false
unfolding AllFalse
sound_rule us Nesting h = (all_fail (breaks us) rules_in_order h).0
sound_rule us EmptyRange h = (all_fail (breaks us) rules_in_order h).1.0
sound_rule us Bounds h = (all_fail (breaks us) rules_in_order h).1.1.0
sound_rule us NoRange h = (all_fail (breaks us) rules_in_order h).1.1.1.0
sound_rule us UnitsOverlap h = (all_fail (breaks us) rules_in_order h).1.1.1.1.0
sound_rule us FunctionOutside h = (all_fail (breaks us) rules_in_order h).1.1.1.1.1.0
sound_rule us FunctionsOverlap h = (all_fail (breaks us) rules_in_order h).1.1.1.1.1.1.0
sound_rule us CallOutside h = (all_fail (breaks us) rules_in_order h).1.1.1.1.1.1.1.0
sound_rule us CallsOverlap h = (all_fail (breaks us) rules_in_order h).1.1.1.1.1.1.1.1.0
sound_rule us SequenceOutside h = (all_fail (breaks us) rules_in_order h).1.1.1.1.1.1.1.1.1.0
sound_rule us SequencesOverlap h = (all_fail (breaks us) rules_in_order h).1.1.1.1.1.1.1.1.1.1.0
sound_rule us Rows h = (all_fail (breaks us) rules_in_order h).1.1.1.1.1.1.1.1.1.1.1.0
sound_rule us LineOrColumn h = (all_fail (breaks us) rules_in_order h).1.1.1.1.1.1.1.1.1.1.1.1.0
sound_rule us FileNumber h = (all_fail (breaks us) rules_in_order h).1.1.1.1.1.1.1.1.1.1.1.1.1.0
sound_rule us Text h = (all_fail (breaks us) rules_in_order h).1.1.1.1.1.1.1.1.1.1.1.1.1.1.0
sound_rule us NotRooted h = (all_fail (breaks us) rules_in_order h).1.1.1.1.1.1.1.1.1.1.1.1.1.1.1.0
sound_rule us Discriminator h = (all_fail (breaks us) rules_in_order h).1.1.1.1.1.1.1.1.1.1.1.1.1.1.1.1.0

-- where no element passes, a single one doesn't either
pub none_passes : {X : Type 0} (test : X → Bool) (xs : List X) (x : X) → list_any test xs ≡ false → Contains xs x
    → test x ≡ false
none_passes test xs x none c =
    false_from_ne_true (test x)
    (λ t. both_ways (list_any test xs) none (list_any_at test xs c.0 x c.1 (ap test c.2 ∙ t)))
