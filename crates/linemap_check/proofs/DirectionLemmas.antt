-- Items last first: where they are, and that their ranges overlap as they do in order.
use Rattle.std.proofs.Common.{◌≡◌, ℕ, ◌+◌, ◌<◌, ◌≤◌, Bool, true, false, ◌&&◌, ◌||◌, nat_lt, List, [], ◌∷◌, ◌++◌, length, drop, reverse, flat_map, get_or, refl, sym, ap, subst, ◌∙◌}
use Rattle.std.proofs.lemmas.List.{append-nil, length-reverse, reverse-append}
use Rattle.std.proofs.lemmas.List.Folds.{list_any-append}
use Rattle.std.proofs.lemmas.Grind.{flat_map-append}
use Rattle.std.specs.List.{list_any}
use Rattle.linemap_meaning.specs.TableParts.{RangePart}
use Rattle.linemap_meaning.specs.Conditions.{overlap, any_overlap}
use Rattle.linemap_check.proofs.PartLists.{flat_map_drop, flat_map_drop_all}
use Rattle.linemap_check.proofs.OverlapLemmas.{any_overlap_append}
use Rattle.linemap_check.specs.RangePasses.{any_overlaps_later, in_direction}

-- ---- places

length-in_direction : {T : Type 0} (backwards : Bool) (items : List T)
    → length (in_direction backwards items) ≡ length items
length-in_direction false items = refl
length-in_direction true items = length-reverse items

-- ---- overlaps

and_swap : (a b : Bool) → (a && b) ≡ (b && a)
and_swap true true = refl
and_swap true false = refl
and_swap false true = refl
and_swap false false = refl

overlap_swap : (q r : RangePart) → overlap q r ≡ overlap r q
overlap_swap q r = and_swap (nat_lt q.begin r.end) (nat_lt r.begin q.end)

pub or_swap : (a b c : Bool) → (a || (b || c)) ≡ (b || (a || c))
or_swap true true c = refl
or_swap true false c = refl
or_swap false b c = refl

-- one element before the others or among them
list_any_among : {X : Type 0} (p : X → Bool) (xs : List X) (x : X) (ys : List X)
    → list_any p (xs ++ x ∷ ys) ≡ (p x || list_any p (xs ++ ys))
list_any_among p [] x ys = refl
list_any_among p (z ∷ xs) x ys =
    ap (λ b. p z || b) (list_any_among p xs x ys) ∙ or_swap (p z) (p x) (list_any p (xs ++ ys))

pub or_regroup : (a b c d : Bool) → ((a || b) || (c || d)) ≡ ((a || c) || (b || d))
or_regroup true b c d = refl
or_regroup false true true d = refl
or_regroup false true false d = refl
or_regroup false false c d = refl

-- one range before the others or among them
any_overlap_among : (rs : List RangePart) (r : RangePart) (ss : List RangePart)
    → any_overlap (rs ++ r ∷ ss) ≡ any_overlap (r ∷ (rs ++ ss))
any_overlap_among [] r ss = refl
any_overlap_among (q ∷ rs) r ss =
    ap (λ b. b || any_overlap (rs ++ r ∷ ss)) (list_any_among (overlap q) rs r ss)
    ∙ ap (λ b. (overlap q r || list_any (overlap q) (rs ++ ss)) || b) (any_overlap_among rs r ss)
    ∙ or_regroup (overlap q r) (list_any (overlap q) (rs ++ ss)) (list_any (overlap r) (rs ++ ss))
    (any_overlap (rs ++ ss))
    ∙ ap (λ b. (b || list_any (overlap r) (rs ++ ss)) || (list_any (overlap q) (rs ++ ss) || any_overlap (rs ++ ss)))
    (overlap_swap q r)

or_exchange : (a b : Bool) → (a || b) ≡ (b || a)
or_exchange true true = refl
or_exchange true false = refl
or_exchange false true = refl
or_exchange false false = refl

-- one list of ranges before another or after it
any_overlap_swap : (rs ss : List RangePart) → any_overlap (rs ++ ss) ≡ any_overlap (ss ++ rs)
any_overlap_swap [] ss = ap any_overlap (sym (append-nil ss))
any_overlap_swap (r ∷ rs) ss =
    ap (λ b. b || any_overlap (rs ++ ss)) (list_any-append (overlap r) rs ss)
    ∙ ap (λ b. (list_any (overlap r) rs || list_any (overlap r) ss) || b) (any_overlap_swap rs ss)
    ∙ ap (λ b. b || any_overlap (ss ++ rs)) (or_exchange (list_any (overlap r) rs) (list_any (overlap r) ss))
    ∙ ap (λ b. b || any_overlap (ss ++ rs)) (sym (list_any-append (overlap r) ss rs))
    ∙ sym (any_overlap_among ss r rs)

-- ---- last first

module _ {T : Type 0} (ranges : T → List RangePart) where
  last_first : (x : T) (xs : List T) → flat_map ranges (reverse (x ∷ xs)) ≡ flat_map ranges (reverse xs) ++ ranges x
  last_first x xs =
      ap (flat_map ranges) (reverse-append (x ∷ []) xs) ∙ flat_map-append ranges (reverse xs) (x ∷ [])
      ∙ ap (λ rs. flat_map ranges (reverse xs) ++ rs) (append-nil (ranges x))

  list_any_reverse : (p : RangePart → Bool) (xs : List T)
      → list_any p (flat_map ranges (reverse xs)) ≡ list_any p (flat_map ranges xs)
  list_any_reverse p [] = refl
  list_any_reverse p (x ∷ xs) =
      ap (list_any p) (last_first x xs) ∙ list_any-append p (flat_map ranges (reverse xs)) (ranges x)
      ∙ ap (λ b. b || list_any p (ranges x)) (list_any_reverse p xs)
      ∙ or_exchange (list_any p (flat_map ranges xs)) (list_any p (ranges x))
      ∙ sym (list_any-append p (ranges x) (flat_map ranges xs))

  any_overlaps_later_reverse : (rs : List RangePart) (xs : List T)
      → any_overlaps_later rs (flat_map ranges (reverse xs)) ≡ any_overlaps_later rs (flat_map ranges xs)
  any_overlaps_later_reverse [] xs = refl
  any_overlaps_later_reverse (r ∷ rs) xs =
      ap (λ b. list_any (overlap r) rs || b || any_overlaps_later rs (flat_map ranges (reverse xs)))
      (list_any_reverse (overlap r) xs)
      ∙ ap (λ b. list_any (overlap r) rs || list_any (overlap r) (flat_map ranges xs) || b)
      (any_overlaps_later_reverse rs xs)

  any_overlap_reverse : (xs : List T)
      → any_overlap (flat_map ranges (reverse xs)) ≡ any_overlap (flat_map ranges xs)
  any_overlap_reverse [] = refl
  any_overlap_reverse (x ∷ xs) =
      ap any_overlap (last_first x xs) ∙ any_overlap_swap (flat_map ranges (reverse xs)) (ranges x)
      ∙ any_overlap_append (ranges x) (flat_map ranges (reverse xs))
      ∙ ap (λ b. b || any_overlap (flat_map ranges (reverse xs))) (any_overlaps_later_reverse (ranges x) xs)
      ∙ ap (λ b. any_overlaps_later (ranges x) (flat_map ranges xs) || b) (any_overlap_reverse xs)
      ∙ sym (any_overlap_append (ranges x) (flat_map ranges xs))

  -- what the items from i on have, in a direction: what the i-th has, and then what those after it have
  pub direction_drop : (backwards : Bool) (items : List T) (i : ℕ) (x : T) → i < length items
      → x ≡ get_or (in_direction backwards items) i x
      → flat_map ranges (drop i (in_direction backwards items))
      ≡ ranges x ++ flat_map ranges (drop (i + 1) (in_direction backwards items))
  direction_drop backwards items i x below is =
      flat_map_drop ranges (in_direction backwards items) i x
      (subst (λ n. i < n) (sym (length-in_direction backwards items)) below) is

  pub direction_drop_all : (backwards : Bool) (items : List T) (i : ℕ) → length items ≤ i
      → flat_map ranges (drop i (in_direction backwards items)) ≡ []
  direction_drop_all backwards items i past =
      flat_map_drop_all ranges (in_direction backwards items) i
      (subst (λ n. n ≤ i) (sym (length-in_direction backwards items)) past)

  -- ranges overlap in either direction or in none
  pub any_overlap-in_direction : (backwards : Bool) (items : List T)
      → any_overlap (flat_map ranges (in_direction backwards items)) ≡ any_overlap (flat_map ranges items)
  any_overlap-in_direction false items = refl
  any_overlap-in_direction true items = any_overlap_reverse items
