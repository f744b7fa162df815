-- The item of a level that holds an address is the last that begins by it, among items in order.
use Rattle.std.proofs.Common.{◌≡◌, ℕ, Bool, true, false, cond, nat_lt, nat_le, List, [], ◌∷◌, get_or, filter, Option, Some, None, refl, ap, sym, ◌∙◌, subst, arith}
use Rattle.std.specs.Prelude.{◌==◌, ◌&&◌, ◌||◌}
use Rattle.std.specs.Cmp.{IsStrictWeakOrder}
use Rattle.std.specs.List.Sorted.{IsPartitionedBy}
use Rattle.std.proofs.lemmas.Bool.Decides.{nat_tests}
use Rattle.addr2line_spec.specs.Range.{Range}
use Rattle.addr2line_spec.specs.Choice.{is_later, later_of, latest, latest_at_or_below, only_if, holder}
use Rattle.addr2line_index.specs.RangeLevels.{at_level, comes_before, by_level, begins_by}
use Rattle.addr2line_search.specs.Searches.{last_passing}
use Rattle.addr2line_index.proofs.SortedOrder.{Ascends-in_order, Ascends-at}
use Rattle.addr2line_index.proofs.SortedLast.{greater_of, greatest, last_of-in_order}

-- ---- levels and ranges as numbers

before_one_way : (l m : ℕ) (r s : Range) → (nat_lt l m || (l == m && is_later s r)) ≡ true
    → (nat_lt m l || (m == l && is_later r s)) ≡ false
before_one_way l m r s h = grind (arith, nat_tests)

before_chain : (l m n : ℕ) (r s t : Range) → (nat_lt l m || (l == m && is_later s r)) ≡ false
    → (nat_lt m n || (m == n && is_later t s)) ≡ false
    → (nat_lt l n || (l == n && is_later t r)) ≡ false
before_chain l m n r s t h k = grind (arith, nat_tests)

begins_before : (l m n a : ℕ) (r s : Range) → (nat_lt m l || (m == l && is_later r s)) ≡ false
    → (nat_lt m n || (m == n && nat_le s.begin a)) ≡ true
    → (nat_lt l n || (l == n && nat_le r.begin a)) ≡ true
begins_before l m n a r s h k = grind (arith, nat_tests)

same_numbers : (l m n : ℕ) (b : Bool) → (l == n) ≡ true → (m == n) ≡ true → (nat_lt l m || (l == m && b)) ≡ b
same_numbers l m n b h k = grind (arith, nat_tests)

higher_number : (l m n : ℕ) (b : Bool) → nat_lt l n ≡ true → (m == n) ≡ true → (nat_lt l m || (l == m && b)) ≡ true
higher_number l m n b h k = grind (arith, nat_tests)

lower_number : (l m n : ℕ) (b : Bool) → (l == n) ≡ true → nat_lt m n ≡ true → (nat_lt l m || (l == m && b)) ≡ false
lower_number l m n b h k = grind (arith, nat_tests)

not_below : (m n : ℕ) → (m == n) ≡ true → nat_lt m n ≡ false
not_below m n h = grind (arith, nat_tests)

other_number : (m n : ℕ) → nat_lt m n ≡ true → (m == n) ≡ false
other_number m n h = grind (arith, nat_tests)

module _ {X : Type 0} (level : X → ℕ) (range : X → Range) where
  pub before_is_order : IsStrictWeakOrder (comes_before level range)
  before_is_order = record {
    one_way = λ x y h. before_one_way (level x) (level y) (range x) (range y) h;
    chain = λ x y z h k. before_chain (level x) (level y) (level z) (range x) (range y) (range z) h k;
  }

  -- a search among items in order may ask which begin by an address
  pub begins_by_parted : (n a : ℕ) (xs : List X)
      → IsPartitionedBy (begins_by level range n a) (by_level level range xs)
  begins_by_parted n a xs i j d le below begins =
      let sorted = by_level level range xs in
      let x = get_or sorted i d in
      let y = get_or sorted j d in
      begins_before (level x) (level y) n a (range x) (range y)
      (Ascends-at (comes_before level range) before_is_order sorted
      (Ascends-in_order (comes_before level range) before_is_order xs) i j d le below)
      begins

  module _ (n a : ℕ) where
    abbrev lt : X → X → Bool
    lt = comes_before level range

    -- the greatest of all that begin by the address is of a lower level, or the latest of this one
    abbrev IsOrBelow : Option X → Option X → Type 0
    IsOrBelow None None = Unit {0}
    IsOrBelow (Some x) None = nat_lt (level x) n ≡ true
    IsOrBelow None (Some y) = ⊥
    IsOrBelow (Some x) (Some y) = (x ≡ y) × ((level x == n) ≡ true)

    same_level : (w x : X) → (level w == n) ≡ true → (level x == n) ≡ true → lt w x ≡ is_later (range x) (range w)
    same_level w x h k = same_numbers (level w) (level x) n (is_later (range x) (range w)) h k

    higher : (w x : X) → nat_lt (level w) n ≡ true → (level x == n) ≡ true → lt w x ≡ true
    higher w x h k = higher_number (level w) (level x) n (is_later (range x) (range w)) h k

    lower : (w x : X) → (level w == n) ≡ true → nat_lt (level x) n ≡ true → lt w x ≡ false
    lower w x h k = lower_number (level w) (level x) n (is_later (range x) (range w)) h k

    -- one more of this level that begins by the address
    with_next : (x : X) (g h : Option X) → (level x == n) ≡ true → IsOrBelow g h
        → IsOrBelow (Some (greater_of lt x g)) (Some (later_of range x h))
    with_next x None None here is = (refl, here)
    with_next x (Some w) None here is =
        subst (λ b. IsOrBelow (Some (cond b x w)) (Some x)) (sym (higher w x is here)) (refl, here)
    with_next x None (Some y) here is = absurd is
    with_next x (Some w) (Some y) here is =
        subst (λ z. IsOrBelow (Some (cond (lt w x) x w)) (Some (cond (is_later (range x) (range z)) x z))) is.0
        (subst (λ c. IsOrBelow (Some (cond c x w)) (Some (cond (is_later (range x) (range w)) x w)))
        (sym (same_level w x is.1 here))
        (elim (is_later (range x) (range w)) as (λ b. IsOrBelow (Some (cond b x w)) (Some (cond b x w))) [
          | true ↦ (refl, here)
          | false ↦ (refl, is.1)
        ]))

    -- one more of a lower level
    with_lower : (x : X) (g h : Option X) → nat_lt (level x) n ≡ true → IsOrBelow g h
        → IsOrBelow (Some (greater_of lt x g)) h
    with_lower x None None low is = low
    with_lower x (Some w) None low is =
        elim (lt w x) as (λ b. IsOrBelow (Some (cond b x w)) None) [
          | true ↦ low
          | false ↦ is
        ]
    with_lower x None (Some y) low is = absurd is
    with_lower x (Some w) (Some y) low is =
        subst (λ b. IsOrBelow (Some (cond b x w)) (Some y)) (sym (lower w x is.1 low)) is

    greatest-more : (x : X) (xs : List X) (b : Bool)
        → greatest lt (cond b (x ∷ xs) xs) ≡ cond b (Some (greater_of lt x (greatest lt xs))) (greatest lt xs)
    greatest-more x xs true = refl
    greatest-more x xs false = refl

    latest-more : (x : X) (xs : List X) (b : Bool)
        → latest range (cond b (x ∷ xs) xs) ≡ cond b (Some (later_of range x (latest range xs))) (latest range xs)
    latest-more x xs true = refl
    latest-more x xs false = refl

    of_level-more : (x : X) (xs : List X) (b : Bool)
        → latest_at_or_below range a (cond b (x ∷ xs) xs)
        ≡ cond b (cond (nat_le (range x).begin a) (Some (later_of range x (latest_at_or_below range a xs)))
        (latest_at_or_below range a xs)) (latest_at_or_below range a xs)
    of_level-more x xs true = latest-more x (filter (λ y. nat_le (range y).begin a) xs) (nat_le (range x).begin a)
    of_level-more x xs false = refl

    -- one more
    one_more : (x : X) (g h : Option X) → IsOrBelow g h
        → IsOrBelow (cond (begins_by level range n a x) (Some (greater_of lt x g)) g)
        (cond (level x == n) (cond (nat_le (range x).begin a) (Some (later_of range x h)) h) h)
    one_more x g h is =
        elim (level x == n) as (λ c. (level x == n) ≡ c
        → IsOrBelow (cond (nat_lt (level x) n || (c && nat_le (range x).begin a)) (Some (greater_of lt x g)) g)
        (cond c (cond (nat_le (range x).begin a) (Some (later_of range x h)) h) h)) [
          | true ↦ λ here.
              subst (λ l. IsOrBelow (cond (l || nat_le (range x).begin a) (Some (greater_of lt x g)) g)
              (cond (nat_le (range x).begin a) (Some (later_of range x h)) h)) (sym (not_below (level x) n here))
              (elim (nat_le (range x).begin a) as (λ b. IsOrBelow (cond b (Some (greater_of lt x g)) g)
              (cond b (Some (later_of range x h)) h)) [
                | true ↦ with_next x g h here is
                | false ↦ is
              ])
          | false ↦ λ _. elim (nat_lt (level x) n) as (λ l. nat_lt (level x) n ≡ l
              → IsOrBelow (cond (l || false) (Some (greater_of lt x g)) g) h) [
                | true ↦ λ low. with_lower x g h low is
                | false ↦ λ _. is
              ] refl
        ] refl

    all_of_them : (xs : List X)
        → IsOrBelow (greatest lt (filter (begins_by level range n a) xs))
        (latest_at_or_below range a (at_level level n xs))
    all_of_them [] = tt
    all_of_them (x ∷ xs) =
        subst (λ g. IsOrBelow g (latest_at_or_below range a (at_level level n (x ∷ xs))))
        (sym (greatest-more x (filter (begins_by level range n a) xs) (begins_by level range n a x)))
        (subst (IsOrBelow (cond (begins_by level range n a x)
        (Some (greater_of lt x (greatest lt (filter (begins_by level range n a) xs))))
        (greatest lt (filter (begins_by level range n a) xs))))
        (sym (of_level-more x (at_level level n xs) (level x == n)))
        (one_more x (greatest lt (filter (begins_by level range n a) xs))
        (latest_at_or_below range a (at_level level n xs)) (all_of_them xs)))

    -- the item found, if it is of the level and ends above the address
    if_holds : (g h : Option X) → IsOrBelow g h
        → only_if (λ x. level x == n && nat_lt a (range x).end) g ≡ only_if (λ x. nat_lt a (range x).end) h
    if_holds None None is = refl
    if_holds (Some x) None is =
        ap (λ b. cond (b && nat_lt a (range x).end) (Some x) None) (other_number (level x) n is)
    if_holds None (Some y) is = absurd is
    if_holds (Some x) (Some y) is =
        ap (λ b. cond (b && nat_lt a (range x).end) (Some x) None) is.1
        ∙ ap (λ z. cond (nat_lt a (range z).end) (Some z) None) is.0

    pub holder_of_last : (xs : List X)
        → only_if (λ x. level x == n && nat_lt a (range x).end)
        (last_passing (begins_by level range n a) (by_level level range xs))
        ≡ holder range a (at_level level n xs)
    holder_of_last xs =
        ap (only_if (λ x. level x == n && nat_lt a (range x).end))
        (last_of-in_order lt before_is_order (begins_by level range n a) xs)
        ∙ if_holds (greatest lt (filter (begins_by level range n a) xs))
        (latest_at_or_below range a (at_level level n xs)) (all_of_them xs)
