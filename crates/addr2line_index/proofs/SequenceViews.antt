-- Sequences as they are searched, by their starts.
use Rattle.std.proofs.Common.{◌≡◌, ℕ, Bool, true, false, cond, List, [], ◌∷◌, length, map, slice_get, Some, option_map, refl, ap, sym, subst, ◌∙◌, zero, suc}
use Rattle.std.specs.List.{AllByRecursion}
use Rattle.std.proofs.lemmas.Option.{slice_get-map}
use Rattle.addr2line_spec.specs.Orders.{put_in_order, in_order}
use Rattle.addr2line_spec.specs.Lines.{starts_after}
use Rattle.addr2line_index.specs.RangeLevels.{by_level, comes_before}
use Rattle.addr2line_index.specs.LineIndexes.{CountedSequence, range_of_counted, sequences_of}
use Rattle.addr2line_index.proofs.HolderViews.{length-sequences_of}
use Rattle.addr2line_index.proofs.SortedOrder.{in_order-length}
use Rattle.addr2line_index.proofs.StableOrder.{in_order-map}

-- what holds of each holds of each put in order
module _ {X : Type 0} (P : X → Type 0) (after : X → X → Bool) where
  All-put : (x : X) (ys : List X) → P x → AllByRecursion P ys → AllByRecursion P (put_in_order after x ys)
  All-put x [] h all = (h, tt)
  All-put x (y ∷ ys) h all =
      elim (after x y) as (λ b. AllByRecursion P (cond b (y ∷ put_in_order after x ys) (x ∷ y ∷ ys))) [
        | true ↦ (all.0, All-put x ys h all.1)
        | false ↦ (h, all)
      ]

  All-in_order : (xs : List X) → AllByRecursion P xs → AllByRecursion P (in_order after xs)
  All-in_order [] all = tt
  All-in_order (x ∷ xs) all = All-put x (in_order after xs) all.0 (All-in_order xs all.1)

All-at : {X : Type 0} (P : X → Type 0) (xs : List X) (n : ℕ) (x : X) → AllByRecursion P xs → slice_get xs n ≡ Some x
    → P x
All-at P [] n x all is = absurd (cc)
All-at P (y ∷ ys) zero x all is = let same : y ≡ x = cc in subst P same all.0
All-at P (y ∷ ys) (suc n) x all is = All-at P ys n x all.1 is

abbrev pub searched : List CountedSequence → List CountedSequence
searched all = by_level (λ _. 0) range_of_counted all

abbrev after_counted : CountedSequence → CountedSequence → Bool
after_counted x y = comes_before (λ _. 0) range_of_counted y x

-- they are the sequences by their starts
pub searched-sequences : (all : List CountedSequence)
    → in_order starts_after (sequences_of all) ≡ map (λ (s : CountedSequence). s.sequence) (searched all)
searched-sequences all =
    in_order-map (λ (s : CountedSequence). s.sequence) after_counted starts_after (λ p q. refl) all

pub searched-at : (all : List CountedSequence) (n : ℕ) (s : CountedSequence) → slice_get (searched all) n ≡ Some s
    → slice_get (in_order starts_after (sequences_of all)) n ≡ Some s.sequence
searched-at all n s is =
    ap (λ l. slice_get l n) (searched-sequences all)
    ∙ slice_get-map (λ (s : CountedSequence). s.sequence) (searched all) n
    ∙ ap (option_map (λ (s : CountedSequence). s.sequence)) is

pub searched-counter : (counter n : ℕ) (all : List CountedSequence) (s : CountedSequence)
    → AllByRecursion (λ (s : CountedSequence). s.counter ≡ counter) all → slice_get (searched all) n ≡ Some s
    → s.counter ≡ counter
searched-counter counter n all s counted is =
    let P : CountedSequence → Type 0 = λ s. s.counter ≡ counter in
    All-at P (searched all) n s (All-in_order P after_counted all counted) is

pub searched-length : (all : List CountedSequence)
    → length all ≡ length (in_order starts_after (sequences_of all))
searched-length all = sym (in_order-length starts_after (sequences_of all) ∙ length-sequences_of all)
