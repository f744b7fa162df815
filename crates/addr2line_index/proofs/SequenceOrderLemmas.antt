-- Ranges of sequences by their starts: what a sort in place makes of them.
use Rattle.std.proofs.Common.{◌≡◌, ℕ, zero, suc, ◌<◌, ◌≤◌, max, Bool, true, false, not, cond, nat_lt, List, [], ◌∷◌, length, get_or, map, filter, refl, ap, sym, ◌∙◌, subst, arith}
use Rattle.std.specs.Prelude.{◌==◌, ◌&&◌, ◌||◌}
use Rattle.std.specs.Cmp.{IsStrictWeakOrder}
use Rattle.std.specs.List.{All}
use Rattle.std.specs.List.Sorted.{IsPermutation, IsSortedBy, IsStableBy, IsNonDecreasingBy, IsPartitionedBy, ties}
use Rattle.std.proofs.lemmas.Bool.Decides.{nat_tests}
use Rattle.std.proofs.lemmas.List.Elements.{All-nil, All-cons, All-head, All-tail, All-filter, filter_passes}
use Rattle.std.proofs.lemmas.List.Sorted.{All-permutation, sum_by-IsPermutation, IsPartitionedBy-leb}
use Rattle.std.proofs.lemmas.List.Sums.{length-filter}
use Rattle.addr2line_spec.specs.Range.{Range}
use Rattle.addr2line_spec.specs.Orders.{in_order}
use Rattle.addr2line_spec.specs.Lines.{Sequence, range_of, starts_after}
use Rattle.addr2line_index.specs.declared.sequence_order.OrderedSequence.{OrderedSequence}
use Rattle.addr2line_index.specs.SequenceOrders.{entry_of, comes_before, with_greatest_ends, by_start, bounded_by}
use Rattle.addr2line_index.proofs.SortedOrder.{in_order-sorted}
use Rattle.addr2line_index.proofs.StableOrder.{in_order-map}

-- ---- the order

before_one_way : (a e b f : ℕ) → (nat_lt a b || (b == a && nat_lt e f)) ≡ true
    → (nat_lt b a || (a == b && nat_lt f e)) ≡ false
before_one_way a e b f h = grind (arith, nat_tests)

before_chain : (a e b f c g : ℕ) → (nat_lt a b || (b == a && nat_lt e f)) ≡ false
    → (nat_lt b c || (c == b && nat_lt f g)) ≡ false
    → (nat_lt a c || (c == a && nat_lt e g)) ≡ false
before_chain a e b f c g h i = grind (arith, nat_tests)

pub before_is_order : IsStrictWeakOrder comes_before
before_is_order = record {
  one_way = λ x y h. before_one_way x.range.begin x.range.end y.range.begin y.range.end h;
  chain = λ x y z h k.
      before_chain x.range.begin x.range.end y.range.begin y.range.end z.range.begin z.range.end h k;
}

abbrev after : OrderedSequence → OrderedSequence → Bool
after x y = comes_before y x

-- ---- a sort in place

-- a sequence is bounded by its own end
abbrev IsOwn : OrderedSequence → Type 0
IsOwn e = e.greatest_end ≡ e.range.end

tie_starts : (a b : ℕ) (p q : Bool) → (not (nat_lt a b || (b == a && p)) && not (nat_lt b a || (a == b && q))) ≡ true
    → b ≡ a
tie_starts a b p q h = grind (arith, nat_tests)

tie_ends : (a e b f : ℕ)
    → (not (nat_lt a b || (b == a && nat_lt e f)) && not (nat_lt b a || (a == b && nat_lt f e))) ≡ true → f ≡ e
tie_ends a e b f h = grind (arith, nat_tests)

-- sequences that tie are one
tie_is : (a x : OrderedSequence) → IsOwn x → ties comes_before a x ≡ true
    → x ≡ record { range = a.range; greatest_end = a.range.end }
tie_is a x own h =
    let start : x.range.begin ≡ a.range.begin = tie_starts a.range.begin x.range.begin _ _ h in
    let end : x.range.end ≡ a.range.end = tie_ends a.range.begin a.range.end x.range.begin x.range.end h in
    let range : x.range ≡ a.range =
    ap (λ k. record { begin = k; end = x.range.end }) start ∙ ap (λ k. record { begin = a.range.begin; end = k }) end in
    ap (λ k. record { range = x.range; greatest_end = k }) (own ∙ end)
    ∙ ap (λ (k : Range). record { range = k; greatest_end = a.range.end }) range

-- lists of one element over and over
copies_same : {X : Type 0} (k : X) (xs ys : List X) → All (λ x. x ≡ k) xs → All (λ x. x ≡ k) ys
    → length xs ≡ length ys → xs ≡ ys
copies_same k [] [] h i many = refl
copies_same k [] (y ∷ ys) h i many = absurd (omega arith)
copies_same k (x ∷ xs) [] h i many = absurd (omega arith)
copies_same k (x ∷ xs) (y ∷ ys) h i many =
    ap (λ z. z ∷ xs) (All-head (λ x. x ≡ k) x xs h ∙ sym (All-head (λ x. x ≡ k) y ys i))
    ∙ ap (λ l. y ∷ l)
    (copies_same k xs ys (All-tail (λ x. x ≡ k) x xs h) (All-tail (λ x. x ≡ k) y ys i) (omega arith))

ties_are : (a : OrderedSequence) (es : List OrderedSequence) → All IsOwn es
    → All (λ x. x ≡ record { range = a.range; greatest_end = a.range.end }) (filter (ties comes_before a) es)
ties_are a es own =
    let all = All-filter (ties comes_before a) IsOwn es own in
    let pass = filter_passes (ties comes_before a) es in
    λ k d below. tie_is a _ (all k d below) (pass k d below)

stable : (es sorted : List OrderedSequence) → IsPermutation es sorted → All IsOwn es → IsStableBy comes_before es sorted
stable es sorted moved own a =
    let tie = ties comes_before a in
    copies_same (record { range = a.range; greatest_end = a.range.end })
    (filter tie sorted) (filter tie es)
    (ties_are a sorted (All-permutation IsOwn es sorted moved own))
    (ties_are a es own)
    (length-filter tie sorted
    ∙ sum_by-IsPermutation (λ x. cond (tie x) 1 0) es sorted moved
    ∙ sym (length-filter tie es))

entries_own : (ss : List Sequence) → All IsOwn (map entry_of ss)
entries_own [] = All-nil IsOwn
entries_own (s ∷ ss) = All-cons IsOwn (entry_of s) (map entry_of ss) refl (entries_own ss)

-- those of one range are the same, so that their order doesn't matter
pub sorted_entries : (es sorted : List OrderedSequence) (ss : List Sequence) → IsPermutation es sorted
    → IsSortedBy comes_before sorted → es ≡ map entry_of ss → sorted ≡ in_order after (map entry_of ss)
sorted_entries es sorted ss moved up is =
    let from : IsPermutation (map entry_of ss) sorted = subst (λ l. IsPermutation l sorted) is moved in
    in_order-sorted comes_before before_is_order (map entry_of ss) sorted up
    (stable (map entry_of ss) sorted from (entries_own ss))

-- ---- what is known of them

-- they are those of the sequences in order
pub by_start-is : (ss : List Sequence) → by_start ss ≡ with_greatest_ends 0 (map entry_of (in_order starts_after ss))
by_start-is ss = ap (with_greatest_ends 0) (in_order-map entry_of starts_after after (λ p q. refl) ss)

ranges_bounded : (greatest : ℕ) (ss : List Sequence)
    → map (λ (e : OrderedSequence). e.range) (with_greatest_ends greatest (map entry_of ss)) ≡ map range_of ss
ranges_bounded greatest [] = refl
ranges_bounded greatest (s ∷ ss) = ap (λ l. range_of s ∷ l) (ranges_bounded (max greatest s.end) ss)

pub by_start-ranges : (ss : List Sequence)
    → map (λ (e : OrderedSequence). e.range) (by_start ss) ≡ map range_of (in_order starts_after ss)
by_start-ranges ss =
    ap (map (λ (e : OrderedSequence). e.range)) (by_start-is ss) ∙ ranges_bounded 0 (in_order starts_after ss)

length_bounded : (greatest : ℕ) (ss : List Sequence)
    → length (with_greatest_ends greatest (map entry_of ss)) ≡ length ss
length_bounded greatest [] = refl
length_bounded greatest (s ∷ ss) = ap suc (length_bounded (max greatest s.end) ss)

pub by_start-length : (ss : List Sequence) → length (by_start ss) ≡ length (in_order starts_after ss)
by_start-length ss = ap length (by_start-is ss) ∙ length_bounded 0 (in_order starts_after ss)

-- none after is below the greatest end so far
none_below : (top : ℕ) (es : List OrderedSequence) (j : ℕ) (d : OrderedSequence)
    → j < length (with_greatest_ends top es) → top ≤ (get_or (with_greatest_ends top es) j d).greatest_end
none_below top [] j d below = absurd (omega arith)
none_below top (e ∷ es) zero d below = omega arith
none_below top (e ∷ es) (suc j) d below =
    let rest = none_below (max top e.range.end) es j d (omega arith) in omega arith

greatest_ends-ascend : (top : ℕ) (es : List OrderedSequence)
    → IsNonDecreasingBy (λ (e : OrderedSequence). e.greatest_end) (with_greatest_ends top es)
greatest_ends-ascend top [] i j d le below = absurd (omega arith)
greatest_ends-ascend top (e ∷ es) zero zero d le below = omega arith
greatest_ends-ascend top (e ∷ es) zero (suc j) d le below = none_below (max top e.range.end) es j d (omega arith)
greatest_ends-ascend top (e ∷ es) (suc i) zero d le below = absurd (omega arith)
greatest_ends-ascend top (e ∷ es) (suc i) (suc j) d le below =
    greatest_ends-ascend (max top e.range.end) es i j d (omega arith) (omega arith)

-- a search among them may ask which have ended
pub by_start-parted : (a : ℕ) (ss : List Sequence) → IsPartitionedBy (bounded_by a) (by_start ss)
by_start-parted a ss =
    IsPartitionedBy-leb (λ (e : OrderedSequence). e.greatest_end) (by_start ss) a
    (greatest_ends-ascend 0 (in_order after (map entry_of ss)))
