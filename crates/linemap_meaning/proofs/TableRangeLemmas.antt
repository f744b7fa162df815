-- Ranges in order, and ranges that hold an address.
use Rattle.std.proofs.Common.{◌≡◌, ℕ, ◌<◌, ◌≤◌, Bool, true, false, not, ◌&&◌, nat_lt, nat_le, List, [], ◌∷◌, refl, sym, ap, ◌∙◌, arith}
use Rattle.std.specs.List.{list_any}
use Rattle.std.proofs.lemmas.Bool.{leb-true, leb-false, lt-ltb, le-ltb, and_parts, and_from, and_right, or_parts, or_from, or_left, or_right}
use Rattle.linemap_meaning.specs.TableParts.{RangePart}
use Rattle.linemap_meaning.specs.Conditions.{overlap, any_overlap, is_empty_range}
use Rattle.linemap_meaning.specs.TableRangeLaws.{begins_ascend_from, follow_from}

not_empty : (r : RangePart) → is_empty_range r ≡ false → r.begin < r.end
not_empty r h = leb-false r.end r.begin h

-- a range that ends at or below where others begin to follow overlaps none of them
pub apart_from_following : (q : RangePart) (low : ℕ) (rs : List RangePart)
    → q.end ≤ low → list_any is_empty_range rs ≡ false → follow_from low rs ≡ true → list_any (overlap q) rs ≡ false
apart_from_following q low [] le full follow = refl
apart_from_following q low (r ∷ rs) le full follow =
    let f = or_parts (is_empty_range r) (list_any is_empty_range rs) full in
    let p = and_parts (nat_le low r.begin) (follow_from r.end rs) follow in
    let lt : r.begin < r.end = not_empty r f.0 in
    let above : low ≤ r.begin = leb-true low r.begin p.0 in
    or_from (overlap q r) (list_any (overlap q) rs)
    (and_right (nat_lt q.begin r.end) (nat_lt r.begin q.end) (le-ltb r.begin q.end (omega arith)))
    (apart_from_following q r.end rs (omega arith) f.1 p.1)

pub following_apart : (low : ℕ) (rs : List RangePart) → list_any is_empty_range rs ≡ false → follow_from low rs ≡ true
    → any_overlap rs ≡ false
following_apart low [] full follow = refl
following_apart low (r ∷ rs) full follow =
    let f = or_parts (is_empty_range r) (list_any is_empty_range rs) full in
    let p = and_parts (nat_le low r.begin) (follow_from r.end rs) follow in
    or_from (list_any (overlap r) rs) (any_overlap rs) (apart_from_following r r.end rs (omega arith) f.1 p.1)
    (following_apart r.end rs f.1 p.1)

crossed_at : (q r : RangePart) (rs : List RangePart) → nat_lt q.begin r.end ≡ true
    → (follow_from r.end rs ≡ false → any_overlap (r ∷ rs) ≡ true)
    → (nat_le q.end r.begin && follow_from r.end rs) ≡ false → any_overlap (q ∷ r ∷ rs) ≡ true
crossed_at q r rs below later crossed =
    let at_case : (b : Bool) → nat_le q.end r.begin ≡ b → (b && follow_from r.end rs) ≡ false
    → any_overlap (q ∷ r ∷ rs) ≡ true = λ b e c.
    elim b as (λ b. nat_le q.end r.begin ≡ b → (b && follow_from r.end rs) ≡ false → any_overlap (q ∷ r ∷ rs) ≡ true) [
      | true ↦ λ e c. or_right (list_any (overlap q) (r ∷ rs)) (any_overlap (r ∷ rs)) (later c)
      | false ↦ λ e c. or_left (list_any (overlap q) (r ∷ rs)) (any_overlap (r ∷ rs))
          (or_left (overlap q r) (list_any (overlap q) rs)
          (and_from _ _ below (lt-ltb r.begin q.end (leb-false q.end r.begin e))))
    ] e c in
    at_case (nat_le q.end r.begin) refl crossed

-- where ranges ascend and don't follow each other, some two overlap
overlap_where_crossed : (q : RangePart) (rs : List RangePart)
    → list_any is_empty_range (q ∷ rs) ≡ false → begins_ascend_from q.begin rs ≡ true → follow_from q.end rs ≡ false
    → any_overlap (q ∷ rs) ≡ true
overlap_where_crossed q [] full ascend crossed = cc
overlap_where_crossed q (r ∷ rs) full ascend crossed =
    let f = or_parts (is_empty_range q) (list_any is_empty_range (r ∷ rs)) full in
    let g = or_parts (is_empty_range r) (list_any is_empty_range rs) f.1 in
    let p = and_parts (nat_le q.begin r.begin) (begins_ascend_from r.begin rs) ascend in
    let lt : r.begin < r.end = not_empty r g.0 in
    let le : q.begin ≤ r.begin = leb-true q.begin r.begin p.0 in
    crossed_at q r rs (lt-ltb q.begin r.end (omega arith)) (λ c. overlap_where_crossed r rs f.1 p.1 c) crossed

answer_of : (b c : Bool) → (c ≡ true → b ≡ false) → (c ≡ false → b ≡ true) → b ≡ not c
answer_of b true on_true on_false = on_true refl
answer_of b false on_true on_false = on_false refl

pub neighbours_suffice : (rs : List RangePart) → list_any is_empty_range rs ≡ false → begins_ascend_from 0 rs ≡ true
    → any_overlap rs ≡ not (follow_from 0 rs)
neighbours_suffice [] full ascend = refl
neighbours_suffice (q ∷ rs) full ascend =
    let p = and_parts (nat_le 0 q.begin) (begins_ascend_from q.begin rs) ascend in
    answer_of (any_overlap (q ∷ rs)) (follow_from 0 (q ∷ rs)) (following_apart 0 (q ∷ rs) full)
    (λ c. overlap_where_crossed q rs full p.1 (ap (λ b. b && follow_from q.end rs) (sym p.0) ∙ c))
