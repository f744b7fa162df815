-- What a pass over ranges shows of their overlaps.
use Rattle.std.proofs.Common.{◌≡◌, ℕ, ◌<◌, ◌≤◌, max, Bool, true, false, not, ◌&&◌, ◌||◌, nat_lt, nat_le, cond, List, [], ◌∷◌, ◌++◌, Some, None, option_and_then, refl, ap, ◌∙◌, arith}
use Rattle.std.proofs.lemmas.Bool.Decides.{nat_tests}
use Rattle.std.proofs.lemmas.Bool.{leb-true, leb-false, lt-ltb, le-leb, and_parts, and_from, and_left, and_right, or_parts, or_from, or_left, or_right}
use Rattle.std.specs.List.{list_any}
use Rattle.linemap_meaning.specs.TableParts.{RangePart}
use Rattle.linemap_meaning.specs.Conditions.{overlap, any_overlap, is_empty_range}
use Rattle.linemap_meaning.specs.TableRangeLaws.{begins_ascend_from, follow_from}
use Rattle.linemap_meaning.proofs.TableRangeLemmas.{following_apart, neighbours_suffice}
use Rattle.linemap_check.proofs.OverlapLemmas.{cond_then, cond_parts}
use Rattle.linemap_check.specs.RangePasses.{is_ascending, later_end, last_apart, ordered_end}

pub last_apart_append : (q : RangePart) (rs ss : List RangePart)
    → last_apart q (rs ++ ss) ≡ option_and_then (λ next. last_apart next ss) (last_apart q rs)
last_apart_append q [] ss = refl
last_apart_append q (r ∷ rs) ss = cond_then (overlap q r) _ _ _ (last_apart_append (later_end q r) rs ss)

-- what overlaps in a list without its second range or without its first overlaps in it
drop_second : (b c d e : Bool) → (b || c) ≡ true → ((d || b) || (e || c)) ≡ true
drop_second b c true e h = refl
drop_second true c false e h = refl
drop_second false c false true h = refl
drop_second false c false false h = h

later_overlap : (b : Bool) (q r : RangePart) (rs : List RangePart) → any_overlap (cond b r q ∷ rs) ≡ true
    → any_overlap (q ∷ r ∷ rs) ≡ true
later_overlap true q r rs h = or_right (list_any (overlap q) (r ∷ rs)) (any_overlap (r ∷ rs)) h
later_overlap false q r rs h =
    drop_second (list_any (overlap q) rs) (any_overlap rs) (overlap q r) (list_any (overlap r) rs) h

-- where a range overlaps the one that ends last of those before it, some two overlap
pub overlap_of_none : (q : RangePart) (rs : List RangePart) → last_apart q rs ≡ None → any_overlap (q ∷ rs) ≡ true
overlap_of_none q [] none = absurd (let no : Some q ≡ None = none in cc)
overlap_of_none q (r ∷ rs) none =
    let by_case : (b : Bool) → overlap q r ≡ b → cond b None (last_apart (later_end q r) rs) ≡ None
    → any_overlap (q ∷ r ∷ rs) ≡ true = λ b e n.
    elim b as (λ b. overlap q r ≡ b → cond b None (last_apart (later_end q r) rs) ≡ None
    → any_overlap (q ∷ r ∷ rs) ≡ true) [
      | true ↦ λ e n. or_left (list_any (overlap q) (r ∷ rs)) (any_overlap (r ∷ rs))
          (or_left (overlap q r) (list_any (overlap q) rs) e)
      | false ↦ λ e n. later_overlap (nat_lt q.end r.end) q r rs (overlap_of_none (later_end q r) rs n)
    ] e n in
    by_case (overlap q r) refl none

-- a range that overlaps none
abbrev pub empty_range : RangePart
empty_range = record { begin = 0; end = 0 }

nothing_at_start : (rs : List RangePart) → list_any (overlap empty_range) rs ≡ false
nothing_at_start [] = refl
nothing_at_start (r ∷ rs) =
    or_from (overlap empty_range r) (list_any (overlap empty_range) rs) (below_none (nat_lt 0 r.end) r.begin)
    (nothing_at_start rs)
  where
    below_none : (b : Bool) (n : ℕ) → (b && nat_lt n 0) ≡ false
    below_none b n = grind (arith, nat_tests)

or_rest : (a b : Bool) → a ≡ false → (a || b) ≡ true → b ≡ true
or_rest true b left h = absurd (let wrong : true ≡ false = left in cc)
or_rest false b left h = h

pub overlap_from_start : (rs : List RangePart) → last_apart empty_range rs ≡ None → any_overlap rs ≡ true
overlap_from_start rs none =
    or_rest (list_any (overlap empty_range) rs) (any_overlap rs) (nothing_at_start rs)
    (overlap_of_none empty_range rs none)

past_end : (a b c d : ℕ) → a ≤ c → c < d → (nat_lt a d && nat_lt c b) ≡ false → b ≤ c
past_end a b c d le lt apart = grind (arith, nat_tests)

-- of ranges that ascend and that don't overlap the one that ends last of those before them, each follows the one before
-- it
apart_follow : (q : RangePart) (rs : List RangePart) (last : RangePart)
    → list_any is_empty_range rs ≡ false → begins_ascend_from q.begin rs ≡ true → last_apart q rs ≡ Some last
    → follow_from q.end rs ≡ true
apart_follow q [] last full ascend is = refl
apart_follow q (r ∷ rs) last full ascend is =
    let f = or_parts (is_empty_range r) (list_any is_empty_range rs) full in
    let p = and_parts (nat_le q.begin r.begin) (begins_ascend_from r.begin rs) ascend in
    let apart = cond_parts (overlap q r) (last_apart (later_end q r) rs) last is in
    let lt : r.begin < r.end = leb-false r.end r.begin f.0 in
    let le : q.begin ≤ r.begin = leb-true q.begin r.begin p.0 in
    let past : q.end ≤ r.begin = past_end q.begin q.end r.begin r.end le lt apart.0 in
    let ends : nat_lt q.end r.end ≡ true = lt-ltb q.end r.end (omega arith) in
    let rest : last_apart r rs ≡ Some last = rw ends at apart.1 in
    and_from (nat_le q.end r.begin) (follow_from r.end rs) (le-leb q.end r.begin past)
    (apart_follow r rs last f.1 p.1 rest)

not_true : (b : Bool) → not b ≡ true → b ≡ false
not_true true h = absurd (let wrong : false ≡ true = h in cc)
not_true false h = refl

pub apart_from_start : (rs : List RangePart) (last : RangePart) → is_ascending rs ≡ true
    → last_apart empty_range rs ≡ Some last → any_overlap rs ≡ false
apart_from_start rs last ascending is =
    let p = and_parts (not (list_any is_empty_range rs)) (begins_ascend_from 0 rs) ascending in
    let full : list_any is_empty_range rs ≡ false = not_true (list_any is_empty_range rs) p.0 in
    following_apart 0 rs full (apart_follow empty_range rs last full p.1 is)

not_in_order : (low : ℕ) (rs : List RangePart) → list_any is_empty_range rs ≡ false → ordered_end low rs ≡ None
    → follow_from low rs ≡ false
not_in_order low [] full none = absurd (let wrong : Some low ≡ None = none in cc)
not_in_order low (r ∷ rs) full none =
    let f = or_parts (is_empty_range r) (list_any is_empty_range rs) full in
    let lt : r.begin < r.end = leb-false r.end r.begin f.0 in
    let by_case : (b : Bool) → nat_lt r.begin low ≡ b → cond b None (ordered_end (max low r.end) rs) ≡ None
    → follow_from low (r ∷ rs) ≡ false = λ b e n.
    elim b as (λ b. nat_lt r.begin low ≡ b → cond b None (ordered_end (max low r.end) rs) ≡ None
    → follow_from low (r ∷ rs) ≡ false) [
      | true ↦ λ e n. and_left (nat_le low r.begin) (follow_from r.end rs) (begins_below r.begin low e)
      | false ↦ λ e n.
          let past : low ≤ r.begin = begins_past r.begin low e in
          let ends : max low r.end ≡ r.end = omega arith in
          let rest : ordered_end r.end rs ≡ None = rw ends at n in
          and_right (nat_le low r.begin) (follow_from r.end rs) (not_in_order r.end rs f.1 rest)
    ] e n in
    by_case (nat_lt r.begin low) refl none
  where
    begins_below : (a b : ℕ) → nat_lt a b ≡ true → nat_le b a ≡ false
    begins_below a b h = grind (arith, nat_tests)

    begins_past : (a b : ℕ) → nat_lt a b ≡ false → b ≤ a
    begins_past a b h = grind (arith, nat_tests)

-- of ranges that ascend and aren't in order, some two overlap
pub ascending_unordered : (rs : List RangePart) → is_ascending rs ≡ true → ordered_end 0 rs ≡ None
    → any_overlap rs ≡ true
ascending_unordered rs ascending none =
    let p = and_parts (not (list_any is_empty_range rs)) (begins_ascend_from 0 rs) ascending in
    let full : list_any is_empty_range rs ≡ false = not_true (list_any is_empty_range rs) p.0 in
    neighbours_suffice rs full p.1 ∙ ap not (not_in_order 0 rs full none)
