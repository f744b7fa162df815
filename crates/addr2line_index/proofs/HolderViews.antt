-- What holds an address among items seen through a function.
use Rattle.std.proofs.Common.{◌≡◌, ℕ, Bool, true, false, cond, nat_lt, nat_le, List, [], ◌∷◌, suc, length, map, filter, Option, Some, None, option_map, refl, ap, sym, ◌∙◌}
use Rattle.std.specs.Prelude.{option_and_then, MatchOption}
use Rattle.std.specs.Borrow.{Bor}
use Rattle.std.specs.List.{AllByRecursion}
use Rattle.addr2line_spec.specs.Range.{Range}
use Rattle.addr2line_spec.specs.Choice.{is_later, later_of, latest, only_if, holder}
use Rattle.addr2line_spec.specs.Lines.{Sequence, range_of, row_of}
use Rattle.addr2line_spec.proofs.RangeHolders.{holder_is}
use Rattle.addr2line_index.specs.RangeLevels.{at_level}
use Rattle.addr2line_index.specs.LineIndexes.{CountedSequence, counted_sequence, range_of_counted, sequences_of}

module _ {X Y : Type 0} (f : X → Y) (range : Y → Range) where
  abbrev inner : X → Range
  inner x = range (f x)

  pub filter-view : (p : Y → Bool) (xs : List X) → filter p (map f xs) ≡ map f (filter (λ x. p (f x)) xs)
  filter-view p [] = refl
  filter-view p (x ∷ xs) =
      elim (p (f x)) as (λ b. cond b (f x ∷ filter p (map f xs)) (filter p (map f xs))
      ≡ map f (cond b (x ∷ filter (λ y. p (f y)) xs) (filter (λ y. p (f y)) xs))) [
        | true ↦ ap (λ l. f x ∷ l) (filter-view p xs)
        | false ↦ filter-view p xs
      ]

  later-view : (x : X) (o : Option X) → later_of range (f x) (option_map f o) ≡ f (later_of inner x o)
  later-view x None = refl
  later-view x (Some y) =
      elim (is_later (range (f x)) (range (f y))) as (λ b. cond b (f x) (f y) ≡ f (cond b x y)) [
        | true ↦ refl
        | false ↦ refl
      ]

  latest-view : (xs : List X) → latest range (map f xs) ≡ option_map f (latest inner xs)
  latest-view [] = refl
  latest-view (x ∷ xs) =
      ap (λ o. Some (later_of range (f x) o)) (latest-view xs) ∙ ap Some (later-view x (latest inner xs))

  only-view : (p : Y → Bool) (o : Option X) → only_if p (option_map f o) ≡ option_map f (only_if (λ x. p (f x)) o)
  only-view p None = refl
  only-view p (Some x) =
      elim (p (f x)) as (λ b. cond b (Some (f x)) None ≡ option_map f (cond b (Some x) None)) [
        | true ↦ refl
        | false ↦ refl
      ]

  pub holder-view : (a : ℕ) (xs : List X) → holder range a (map f xs) ≡ option_map f (holder inner a xs)
  holder-view a xs =
      ap (λ l. only_if (λ y. nat_lt a (range y).end) (latest range l)) (filter-view (λ y. nat_le (range y).begin a) xs)
      ∙ ap (only_if (λ y. nat_lt a (range y).end)) (latest-view (filter (λ x. nat_le (inner x).begin a) xs))
      ∙ only-view (λ y. nat_lt a (range y).end) (latest inner (filter (λ x. nat_le (inner x).begin a) xs))

-- all are of the one level
all_at_level : {X : Type 0} (xs : List X) → at_level (λ _. 0) 0 xs ≡ xs
all_at_level [] = refl
all_at_level (x ∷ xs) = ap (λ l. x ∷ l) (all_at_level xs)

-- ---- sequences with one counter

module _ (a : ℕ) (all : List CountedSequence) where
  -- the one that holds an address
  abbrev pub counted_holder : Option CountedSequence
  counted_holder = holder range_of_counted a (at_level (λ _. 0) 0 all)

  -- is the sequence that holds it
  pub sequence_of_holder : option_map (λ (s : CountedSequence). s.sequence) counted_holder
      ≡ holder range_of a (sequences_of all)
  sequence_of_holder =
      ap (λ l. option_map (λ (s : CountedSequence). s.sequence) (holder range_of_counted a l)) (all_at_level all)
      ∙ sym (holder-view (λ (s : CountedSequence). s.sequence) range_of a all)

  -- and has that counter
  pub counter_of_found : (n name : ℕ) (o : Option (Bor CountedSequence))
      → AllByRecursion (λ (s : CountedSequence). s.counter ≡ n) all
      → option_map (λ (s : Bor CountedSequence). s.now) o ≡ counted_holder → name ≡ n
      → MatchOption o (Unit {0}) (λ s. name ≡ s.now.counter)
  counter_of_found n name None counted same is = tt
  counter_of_found n name (Some s) counted same is =
      is
      ∙ sym (holder_is range_of_counted (λ (s : CountedSequence). s.counter ≡ n) a all s.now counted
      (ap (holder range_of_counted a) (sym (all_at_level all)) ∙ sym same))

-- the sequences are those that are counted
pub sequences_of-counted : (counter : ℕ) (ss : List Sequence) → sequences_of (map (counted_sequence counter) ss) ≡ ss
sequences_of-counted counter [] = refl
sequences_of-counted counter (s ∷ ss) = ap (λ l. s ∷ l) (sequences_of-counted counter ss)

pub all_counted : (counter : ℕ) (ss : List Sequence)
    → AllByRecursion (λ (s : CountedSequence). s.counter ≡ counter) (map (counted_sequence counter) ss)
all_counted counter [] = tt
all_counted counter (s ∷ ss) = (refl, all_counted counter ss)

-- as many of them
pub length-sequences_of : (ss : List CountedSequence) → length (sequences_of ss) ≡ length ss
length-sequences_of [] = refl
length-sequences_of (s ∷ ss) = ap suc (length-sequences_of ss)

-- ---- what a reference is to

pub map-now : {A B : Type 0} (g : A → B) (o : Option (Bor A))
    → option_map (λ (r : Bor A). g r.now) o ≡ option_map g (option_map (λ (r : Bor A). r.now) o)
map-now g None = refl
map-now g (Some r) = refl

-- the row of an address in the sequence that a reference is to, if there is one
pub row-now : (a : ℕ) (o : Option (Bor CountedSequence))
    → option_and_then (λ (r : Bor CountedSequence). row_of r.now.sequence.rows a) o
    ≡ option_and_then (λ (s : Sequence). row_of s.rows a)
    (option_map (λ (s : CountedSequence). s.sequence) (option_map (λ (r : Bor CountedSequence). r.now) o))
row-now a None = refl
row-now a (Some r) = refl
