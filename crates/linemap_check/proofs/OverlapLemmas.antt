-- Overlaps in a list of ranges that joins others.
use Rattle.std.proofs.Common.{◌≡◌, ℕ, ◌+◌, ◌-◌, ◌<◌, ◌≤◌, max, length, drop, take, flat_map, get_or, Bool, true, false, ◌&&◌, ◌||◌, nat_lt, cond, List, [], ◌∷◌, ◌++◌, Option, Some, None, option_and_then, refl, sym, ap, ◌∙◌, arith}
use Rattle.std.proofs.lemmas.Bool.Decides.{nat_tests}
use Rattle.std.proofs.lemmas.List.{take_all, length-drop}
use Rattle.std.proofs.lemmas.List.Folds.{list_any-append}
use Rattle.std.specs.List.{list_any}
use Rattle.linemap_meaning.specs.TableParts.{RangePart}
use Rattle.linemap_meaning.specs.Conditions.{overlap, any_overlap}
use Rattle.linemap_check.proofs.PartLists.{flat_map_drop}
use Rattle.linemap_check.specs.RangePasses.{ordered_end, any_overlaps_later}

pub cond_then : {A : Type 0} (b : Bool) (o : Option A) (k : A → Option A) (whole : Option A)
    → whole ≡ option_and_then k o
    → cond b None whole ≡ option_and_then k (cond b None o)
cond_then true o k whole e = refl
cond_then false o k whole e = e

pub ordered_end_append : (end : ℕ) (rs ss : List RangePart)
    → ordered_end end (rs ++ ss) ≡ option_and_then (λ next. ordered_end next ss) (ordered_end end rs)
ordered_end_append end [] ss = refl
ordered_end_append end (r ∷ rs) ss = cond_then (nat_lt r.begin end) _ _ _ (ordered_end_append (max end r.end) rs ss)

or_apart : (a b c d : Bool) → ((a || b) || (c || d)) ≡ ((a || b || c) || d)
or_apart true b c d = refl
or_apart false true c d = refl
or_apart false false c d = refl

pub any_overlap_append : (rs ss : List RangePart) → any_overlap (rs ++ ss)
    ≡ (any_overlaps_later rs ss || any_overlap ss)
any_overlap_append [] ss = refl
any_overlap_append (r ∷ rs) ss =
    ap (λ b. b || any_overlap (rs ++ ss)) (list_any-append (overlap r) rs ss)
    ∙ ap (λ b. (list_any (overlap r) rs || list_any (overlap r) ss) || b) (any_overlap_append rs ss)
    ∙ (or_apart (list_any (overlap r) rs) (list_any (overlap r) ss) (any_overlaps_later rs ss) (any_overlap ss))

pub cond_parts : {A : Type 0} (b : Bool) (o : Option A) (last : A) → cond b None o ≡ Some last
    → (b ≡ false) × (o ≡ Some last)
cond_parts true o last is = absurd (let no : None ≡ Some last = is in cc)
cond_parts false o last is = (refl, is)

not_both : (a b c d : ℕ) → d ≤ c → (nat_lt a b && nat_lt c d) ≡ false
not_both a b c d h = grind (arith, nat_tests)

not_below : (a b : ℕ) → nat_lt a b ≡ false → b ≤ a
not_below a b h = grind (arith, nat_tests)

-- where ranges are in order, none overlaps one that ends before them all
none_overlaps : (q : RangePart) (end : ℕ) (rs : List RangePart) (last : ℕ) → q.end ≤ end
    → ordered_end end rs ≡ Some last → list_any (overlap q) rs ≡ false
none_overlaps q end [] last before is = refl
none_overlaps q end (r ∷ rs) last before is =
    let in_order = cond_parts (nat_lt r.begin end) (ordered_end (max end r.end) rs) last is in
    let begins = not_below r.begin end in_order.0 in
    let later : q.end ≤ max end r.end = omega arith in
    let at_or_past : q.end ≤ r.begin = omega arith in
    rw (not_both q.begin r.end r.begin q.end at_or_past) (none_overlaps q (max end r.end) rs last later in_order.1)

pub any_overlap_ordered : (end : ℕ) (rs : List RangePart) (last : ℕ) → ordered_end end rs ≡ Some last
    → any_overlap rs ≡ false
any_overlap_ordered end [] last is = refl
any_overlap_ordered end (r ∷ rs) last is =
    let in_order = cond_parts (nat_lt r.begin end) (ordered_end (max end r.end) rs) last is in
    let later : r.end ≤ max end r.end = omega arith in
    rw (none_overlaps r (max end r.end) rs last later in_order.1)
    (any_overlap_ordered (max end r.end) rs last in_order.1)

rest_whole : {T : Type 0} (items : List T) (i : ℕ) → take (length items - i) (drop i items) ≡ drop i items
rest_whole items i = take_all (length items - i) (drop i items) (omega (arith, length-drop i items))

-- the overlaps of the items from i on: one of the i-th item's, or of those after it
pub any_overlap_step : {T : Type 0} (ranges : T → List RangePart) (items : List T) (i : ℕ) (item : T) (here : Bool)
    → i < length items → item ≡ get_or items i item
    → here ≡ any_overlaps_later (ranges item) (flat_map ranges (take (length items - (i + 1)) (drop (i + 1) items)))
    → any_overlap (flat_map ranges (drop i items)) ≡ (here || any_overlap (flat_map ranges (drop (i + 1) items)))
any_overlap_step ranges items i item here below is is_here =
    ap any_overlap (flat_map_drop ranges items i item below is)
    ∙ any_overlap_append (ranges item) (flat_map ranges (drop (i + 1) items))
    ∙ ap (λ b. b || any_overlap (flat_map ranges (drop (i + 1) items)))
    (sym (is_here ∙ ap (λ rest. any_overlaps_later (ranges item) (flat_map ranges rest)) (rest_whole items (i + 1))))
