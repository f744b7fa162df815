-- How entries are skipped, one after the other.
use Rattle.std.proofs.Common.{◌≡◌, ℕ, zero, suc, ◌≤◌, ◌<◌, Bool, true, false, cond, eqb, List, Option, Some, None, Result, Ok, Err, refl, sym, ap, subst, ◌∙◌, arith, length-drop}
use Rattle.std.specs.Prelude.{ℤ, pos, ◌+ℤ◌, ◌-ℤ◌, ◌≤ℤ◌, int_lt}
use Rattle.std.proofs.lemmas.Int.{ints}
use Rattle.gimli_core_base.specs.declared.error.Error.{Error}
use Rattle.gimli_core_base.specs.declared.common.Encoding.{Encoding}
use Rattle.gimli_core_base.specs.View.{View, after, bytes_left}
use Rattle.gimli_core_base.specs.Parsers.{proceed, lift, here}
use Rattle.gimli_core_base.specs.NumberParsers.{unsigned}
use Rattle.gimli_core_base.proofs.NumberReadSizes.{Below-unsigned}
use Rattle.gimli_units_forms.specs.Declarations.{Declaration, declaration_at}
use Rattle.gimli_units_forms.specs.AttributeSkipping as form_skips
use Rattle.gimli_units_forms.specs.Places.{IsAfter}
use Rattle.gimli_units_forms.proofs.PlaceLemmas.{IsAfter-IsAfter, IsAfter-fewer, IsAfter-self, after-zero, Goes-unsigned}
use Rattle.gimli_units_forms.proofs.AfterLemmas.{skip_values-after}
use Rattle.gimli_units_entries.specs.EntryWalks.{Walk, IsWithin, walk_with_rest, read_in_walk, declaration_of_code, declaration_or_fault, depth_after, change_depth, entry_head, skip_values}
use Rattle.gimli_units_entries.specs.OtherEntries.{walk_at, DepthFits, after_attributes, after_unless, after_code, after_other, further, skip_within, skip_others}
use Rattle.gimli_units_entries.proofs.RowParts.{HasHead, walk_after_code, entry_head-from, entry_head-parts, read_in_walk-Ok}

-- ---- the next entry

abbrev no_walk : Option Walk
no_walk = None

abbrev pub some_walk : Walk → Option Walk
some_walk w = Some w

-- the walk after the attributes of a declaration, unless its entry is chosen
abbrev after_choice : Declaration → Walk → Bool → Option Walk
after_choice d w is_chosen = cond is_chosen no_walk (after_attributes (skip_values d.attributes w))

-- the same walk, by what skipping them leaves
abbrev after_skipped : Walk → Result (Unit {0} × View) Error → Option Walk
after_skipped w skipped = after_attributes (read_in_walk w skipped)

-- the head of an entry is read
after_other-head : (choice : ℕ → Bool) (w : Walk) (d : Option Declaration) (v : View) → HasHead w d v
    → after_other choice w ≡ after_unless choice d (walk_after_code w d v)
unfolding after_other
after_other-head choice w d v h = ap (after_code choice) (entry_head-from w d v h)

-- there is no code
pub no_code : (choice : ℕ → Bool) (w : Walk) (e : Error) → unsigned w.rest ≡ Err e → after_other choice w ≡ None
unfolding after_other entry_head
no_code choice w e h =
    ap (λ (r : Result (ℕ × View) Error). after_code choice (proceed (read_in_walk w r)
    (λ code s. proceed (here s) (λ x y. proceed (lift (declaration_of_code code x.table) y) change_depth)))) h

head_of_null : (w : Walk) (code : ℕ) (v : View) → unsigned w.rest ≡ Ok (code, v) → code ≡ 0 → HasHead w None v
head_of_null w code v h zero_is =
    record { code = code; reads_code = h; declares = ap (λ (n : ℕ). declaration_of_code n w.table) zero_is }

-- a null entry is skipped
pub null_is_skipped : (choice : ℕ → Bool) (w : Walk) (code : ℕ) (v : View) → unsigned w.rest ≡ Ok (code, v) → code ≡ 0
    → after_other choice w ≡ Some (walk_at w.encoding w.table w.end_offset (w.depth -ℤ pos 1) v)
null_is_skipped choice w code v h zero_is = after_other-head choice w None v (head_of_null w code v h zero_is)

abbrev null_code : Result (Option Declaration) Error
null_code = Ok None

declared_code : (table : List Declaration) (code : ℕ) (o : Option Declaration) → eqb code 0 ≡ false
    → declaration_at code table ≡ o → declaration_of_code code table ≡ declaration_or_fault code o
declared_code table code o nonzero h =
    ap (λ (b : Bool). cond b null_code (declaration_or_fault code (declaration_at code table))) nonzero
    ∙ ap (declaration_or_fault code) h

-- the table has no declaration of the code
pub unknown_code : (choice : ℕ → Bool) (w : Walk) (code : ℕ) (v : View) → unsigned w.rest ≡ Ok (code, v)
    → eqb code 0 ≡ false → declaration_at code w.table ≡ None → after_other choice w ≡ None
unfolding after_other entry_head
unknown_code choice w code v h nonzero none =
    ap (λ (r : Result (ℕ × View) Error). after_code choice (proceed (read_in_walk w r)
    (λ c s. proceed (here s) (λ x y. proceed (lift (declaration_of_code c x.table) y) change_depth)))) h
    ∙ ap (λ (r : Result (Option Declaration) Error). after_code choice
    (proceed (lift r (walk_with_rest v w)) change_depth)) (declared_code w.table code None nonzero none)

head_of : (w : Walk) (code : ℕ) (d : Declaration) (v : View) → unsigned w.rest ≡ Ok (code, v)
    → eqb code 0 ≡ false → declaration_at code w.table ≡ Some d → HasHead w (Some d) v
head_of w code d v h nonzero is =
    record { code = code; reads_code = h; declares = declared_code w.table code (Some d) nonzero is }

-- the entry is chosen
pub chosen_stays : (choice : ℕ → Bool) (w : Walk) (code : ℕ) (d : Declaration) (v : View)
    → unsigned w.rest ≡ Ok (code, v) → eqb code 0 ≡ false → declaration_at code w.table ≡ Some d
    → choice d.tag ≡ true → after_other choice w ≡ None
chosen_stays choice w code d v h nonzero is chosen =
    after_other-head choice w (Some d) v (head_of w code d v h nonzero is)
    ∙ ap (after_choice d (walk_after_code w (Some d) v)) chosen

-- its attributes can't be skipped
pub refused_stays : (choice : ℕ → Bool) (w : Walk) (code : ℕ) (d : Declaration) (v : View) (e : Error)
    → unsigned w.rest ≡ Ok (code, v) → eqb code 0 ≡ false → declaration_at code w.table ≡ Some d
    → choice d.tag ≡ false → form_skips.skip_values w.encoding d.attributes v ≡ Err e → after_other choice w ≡ None
unfolding skip_values
refused_stays choice w code d v e h nonzero is other refused =
    after_other-head choice w (Some d) v (head_of w code d v h nonzero is)
    ∙ ap (after_choice d (walk_after_code w (Some d) v)) other
    ∙ ap (after_skipped (walk_after_code w (Some d) v)) refused

-- they are skipped
pub other_is_skipped : (choice : ℕ → Bool) (w : Walk) (code : ℕ) (d : Declaration) (v u : View)
    → unsigned w.rest ≡ Ok (code, v) → eqb code 0 ≡ false → declaration_at code w.table ≡ Some d
    → choice d.tag ≡ false → form_skips.skip_values w.encoding d.attributes v ≡ Ok (tt, u)
    → after_other choice w ≡ Some (walk_at w.encoding w.table w.end_offset (depth_after w.depth (Some d)) u)
unfolding skip_values
other_is_skipped choice w code d v u h nonzero is other skips =
    after_other-head choice w (Some d) v (head_of w code d v h nonzero is)
    ∙ ap (after_choice d (walk_after_code w (Some d) v)) other
    ∙ ap (after_skipped (walk_after_code w (Some d) v)) skips

-- ---- what an entry takes that is skipped

-- an entry was skipped, and the walk is after it
pub record Skips (w t : Walk) : Type 0 where
  pub declaration : Option Declaration
  pub code : ℕ
  pub values : View
  pub reads_code : unsigned w.rest ≡ Ok (code, values)
  pub leaves : IsAfter values t.rest
  pub depth : t.depth ≡ depth_after w.depth declaration
  pub end : t.end_offset ≡ w.end_offset

skips_to : (w s t : Walk) (d : Option Declaration) (v : View) → HasHead w d v → walk_after_code w d v ≡ s
    → s.end_offset ≡ t.end_offset → s.depth ≡ t.depth → IsAfter s.rest t.rest → Skips w t
skips_to w s t d v h same at_end at_depth leads = record {
  declaration = d;
  code = h.code;
  values = v;
  reads_code = h.reads_code;
  leaves = let P : View → Type 0 = λ x. IsAfter x t.rest in
      subst P (sym (ap (λ (x : Walk). x.rest) same)) leads;
  depth = sym (ap (λ (x : Walk). x.depth) same ∙ at_depth);
  end = sym (ap (λ (x : Walk). x.end_offset) same ∙ at_end);
}

skips_values : (w s t : Walk) (d : Declaration) (v : View) → HasHead w (Some d) v → walk_after_code w (Some d) v ≡ s
    → (r : Result (Unit {0} × Walk) Error) → skip_values d.attributes s ≡ r → after_attributes r ≡ Some t → Skips w t
unfolding skip_values
skips_values w s t d v h same (Err e) k is = absurd cc
skips_values w s t d v h same (Ok p) k is =
    let to : p.1 ≡ t = cc in
    let c = read_in_walk-Ok s (form_skips.skip_values s.encoding d.attributes s.rest) p.0 p.1 k in
    let leads = skip_values-after s.encoding d.attributes s.rest c.0 c.1 in
    let there : walk_with_rest c.0 s ≡ t = c.2 ∙ to in
    let P : View → Type 0 = λ x. IsAfter s.rest x in
    skips_to w s t (Some d) v h same (ap (λ (x : Walk). x.end_offset) there) (ap (λ (x : Walk). x.depth) there)
    (subst P (ap (λ (x : Walk). x.rest) there) leads)

skips_entry : (choice : ℕ → Bool) (w s t : Walk) (o : Option Declaration) (v : View) → HasHead w o v
    → walk_after_code w o v ≡ s → after_unless choice o s ≡ Some t → Skips w t
skips_entry choice w s t None v h same k =
    let to : s ≡ t = cc in
    let P : View → Type 0 = λ x. IsAfter s.rest x in
    skips_to w s t None v h same (ap (λ (x : Walk). x.end_offset) to) (ap (λ (x : Walk). x.depth) to)
    (subst P (ap (λ (x : Walk). x.rest) to) (IsAfter-self s.rest))
skips_entry choice w s t (Some d) v h same k = by_choice (choice d.tag) k
  where
    by_choice : (b : Bool) → cond b no_walk (after_attributes (skip_values d.attributes s)) ≡ Some t → Skips w t
    by_choice true e = absurd cc
    by_choice false e = skips_values w s t d v h same (skip_values d.attributes s) refl e

pub other-parts : (choice : ℕ → Bool) (w t : Walk) → after_other choice w ≡ Some t → Skips w t
unfolding after_other
other-parts choice w t h = by_head (entry_head w) refl h
  where
    by_head : (r : Result (Option Declaration × Walk) Error) → entry_head w ≡ r → after_code choice r ≡ Some t
        → Skips w t
    by_head (Err e) k is = absurd cc
    by_head (Ok p) k is =
        let c = entry_head-parts w p.1 p.0 k in
        skips_entry choice w p.1 t p.0 c.0 c.1 c.2 is

pub skips-fewer : (w t : Walk) → Skips w t → bytes_left t.rest < bytes_left w.rest
skips-fewer w t s =
    let read = (Below-unsigned {n = bytes_left w.rest} w.rest (omega arith)).left s.code s.values s.reads_code in
    let less = IsAfter-fewer s.values t.rest s.leaves in
    omega (arith, read, less)

pub skips-after : (w t : Walk) → Skips w t → IsAfter w.rest t.rest
skips-after w t s =
    IsAfter-IsAfter w.rest s.values t.rest (Goes-unsigned.goes w.rest s.code s.values s.reads_code) s.leaves

-- a depth changes by one at most
record IsNear (d e : ℤ) : Type 0 where
  low : d ≤ℤ (e +ℤ pos 1)
  high : e ≤ℤ (d +ℤ pos 1)

depth_near : (d : ℤ) (o : Option Declaration) → IsNear d (depth_after d o)
depth_near d None = record { low = omega (arith, ints); high = omega (arith, ints) }
depth_near d (Some x) = by_test x.has_children
  where
    by_test : (b : Bool) → IsNear d (cond b (d +ℤ pos 1) d)
    by_test true = record { low = omega (arith, ints); high = omega (arith, ints) }
    by_test false = record { low = omega (arith, ints); high = omega (arith, ints) }

pub skips-fit : (w t : Walk) → Skips w t → DepthFits w.depth w.rest → DepthFits t.depth t.rest
skips-fit w t s h =
    let less = skips-fewer w t s in
    let near = depth_near w.depth s.declaration in
    let at = s.depth in
    record {
      not_low = omega (arith, ints, h.not_low, less, near.low, at);
      not_high = omega (arith, ints, h.not_high, less, near.high, at);
    }

-- ---- entries one after the other

further_same : (o : Option Walk) (f g : Walk → Walk) (w : Walk) → ((t : Walk) → o ≡ Some t → f t ≡ g t)
    → further f w o ≡ further g w o
further_same None f g w k = refl
further_same (Some t) f g w k = k t refl

further_stays : (o : Option Walk) (f : Walk → Walk) (w : Walk) → ((t : Walk) → o ≡ Some t → f t ≡ w)
    → further f w o ≡ w
further_stays None f w k = refl
further_stays (Some t) f w k = k t refl

either : (b : Bool) (x y z : Walk) → x ≡ z → y ≡ z → cond b x y ≡ z
either true x y z h k = h
either false x y z h k = k

same_either : (b : Bool) (x y z : Walk) → x ≡ y → cond b x z ≡ cond b y z
same_either b x y z h = ap (λ (u : Walk). cond b u z) h

-- where no byte is left no entry is
none_left : (n : ℕ) (choice : ℕ → Bool) (bound : ℤ) (w : Walk) → bytes_left w.rest ≤ 0
    → skip_within n choice bound w ≡ w
unfolding skip_within
none_left zero choice bound w h = refl
none_left (suc n) choice bound w h =
    either (int_lt bound w.depth) _ w w
    (further_stays (after_other choice w) (skip_within n choice bound) w
    (λ t e. let less = skips-fewer w t (other-parts choice w t e) in absurd (omega (arith, less, h)))) refl

-- more rounds than bytes change nothing
enough : (m n : ℕ) (choice : ℕ → Bool) (bound : ℤ) (w : Walk) → bytes_left w.rest ≤ m → bytes_left w.rest ≤ n
    → skip_within m choice bound w ≡ skip_within n choice bound w
unfolding skip_within
enough zero n choice bound w h k = sym (none_left n choice bound w h)
enough (suc m) zero choice bound w h k = none_left (suc m) choice bound w k
enough (suc m) (suc n) choice bound w h k =
    same_either (int_lt bound w.depth) _ _ w
    (further_same (after_other choice w) (skip_within m choice bound) (skip_within n choice bound) w
    (λ t e. let less = skips-fewer w t (other-parts choice w t e) in
    enough m n choice bound t (omega (arith, less, h)) (omega (arith, less, k))))

-- one round more
pub skip_others-is : (choice : ℕ → Bool) (bound : ℤ) (w : Walk) → skip_others choice bound w
    ≡ cond (int_lt bound w.depth) (further (skip_others choice bound) w (after_other choice w)) w
unfolding skip_others skip_within
skip_others-is choice bound w =
    enough (bytes_left w.rest) (suc (bytes_left w.rest)) choice bound w (omega arith) (omega arith)
    ∙ same_either (int_lt bound w.depth) _ _ w
    (further_same (after_other choice w) (skip_within (bytes_left w.rest) choice bound)
    (λ t. skip_within (bytes_left t.rest) choice bound t) w
    (λ t e. let less = skips-fewer w t (other-parts choice w t e) in
    enough (bytes_left w.rest) (bytes_left t.rest) choice bound t (omega (arith, less)) (omega arith)))

-- an entry that is skipped
pub skip_others-next : (choice : ℕ → Bool) (bound : ℤ) (w t : Walk) → int_lt bound w.depth ≡ true
    → after_other choice w ≡ Some t → skip_others choice bound w ≡ skip_others choice bound t
skip_others-next choice bound w t above next =
    skip_others-is choice bound w
    ∙ ap (λ (b : Bool). cond b (further (skip_others choice bound) w (after_other choice w)) w) above
    ∙ ap (further (skip_others choice bound) w) next

-- the depth is that of the bound, or lower
pub skip_others-left : (choice : ℕ → Bool) (bound : ℤ) (w : Walk) → int_lt bound w.depth ≡ false
    → skip_others choice bound w ≡ w
skip_others-left choice bound w left =
    skip_others-is choice bound w
    ∙ ap (λ (b : Bool). cond b (further (skip_others choice bound) w (after_other choice w)) w) left

-- the next entry isn't skipped
pub skip_others-stays : (choice : ℕ → Bool) (bound : ℤ) (w : Walk) → after_other choice w ≡ None
    → skip_others choice bound w ≡ w
skip_others-stays choice bound w none =
    skip_others-is choice bound w
    ∙ either (int_lt bound w.depth) _ w w (ap (further (skip_others choice bound) w) none) refl

-- ---- what stays as it is from entry to entry

keeps_by : (P : Walk → Type 0) (skip : Walk → Walk) (w : Walk) (b : Bool) (o : Option Walk) → P w
    → ((t : Walk) → b ≡ true → o ≡ Some t → P (skip t)) → P (cond b (further skip w o) w)
keeps_by P skip w true None p k = p
keeps_by P skip w true (Some t) p k = k t refl refl
keeps_by P skip w false o p k = p

keeps_within : (P : Walk → Type 0) (choice : ℕ → Bool) (bound : ℤ)
    → ((x t : Walk) → int_lt bound x.depth ≡ true → after_other choice x ≡ Some t → P x → P t)
    → (n : ℕ) (w : Walk) → P w → P (skip_within n choice bound w)
unfolding skip_within
keeps_within P choice bound step zero w p = p
keeps_within P choice bound step (suc n) w p =
    keeps_by P (skip_within n choice bound) w (int_lt bound w.depth) (after_other choice w) p
    (λ t above next. keeps_within P choice bound step n t (step w t above next p))

-- what each entry that is skipped keeps is kept by all of them
pub skip_others-keeps : (P : Walk → Type 0) (choice : ℕ → Bool) (bound : ℤ)
    → ((x t : Walk) → int_lt bound x.depth ≡ true → after_other choice x ≡ Some t → P x → P t)
    → (w : Walk) → P w → P (skip_others choice bound w)
unfolding skip_others
skip_others-keeps P choice bound step w p = keeps_within P choice bound step (bytes_left w.rest) w p

-- ---- a loop over the bytes

-- an entry is skipped, after which the depth and the bytes are others
pub record IsStep (choice : ℕ → Bool) (bound : ℤ) (e : Encoding) (table : List Declaration) (depth d : ℤ)
    (v u : View) : Type 0 where
  pub same : (end_offset : ℕ) → skip_others choice bound (walk_at e table end_offset depth v)
      ≡ skip_others choice bound (walk_at e table end_offset d u)
  pub fits : DepthFits d u
  pub leads : IsAfter v u
  pub fewer : bytes_left u < bytes_left v

-- what is skipped from an equal place
from_same : (choice : ℕ → Bool) (e : Encoding) (table : List Declaration) (depth : ℤ) (v w : View) (o : Option Walk)
    (end_offset : ℕ) → w ≡ after 0 v → after_other choice (walk_at e table end_offset depth w) ≡ o
    → after_other choice (walk_at e table end_offset depth v) ≡ o
from_same choice e table depth v w o end_offset at h =
    ap (λ (x : View). after_other choice (walk_at e table end_offset depth x)) (sym (at ∙ after-zero v)) ∙ h

pub is_step : (choice : ℕ → Bool) (bound : ℤ) (e : Encoding) (table : List Declaration) (depth d : ℤ) (v w u : View)
    → int_lt bound depth ≡ true → w ≡ after 0 v → DepthFits depth v
    → ((end_offset : ℕ) → after_other choice (walk_at e table end_offset depth w)
    ≡ Some (walk_at e table end_offset d u)) → IsStep choice bound e table depth d v u
is_step choice bound e table depth d v w u above at fits next =
    let from = λ (end_offset : ℕ). from_same choice e table depth v w (Some (walk_at e table end_offset d u))
    end_offset at (next end_offset) in
    let s = other-parts choice (walk_at e table 0 depth v) (walk_at e table 0 d u) (from 0) in
    record {
      same = λ end_offset. skip_others-next choice bound (walk_at e table end_offset depth v)
          (walk_at e table end_offset d u) above (from end_offset);
      fits = skips-fit (walk_at e table 0 depth v) (walk_at e table 0 d u) s fits;
      leads = skips-after (walk_at e table 0 depth v) (walk_at e table 0 d u) s;
      fewer = skips-fewer (walk_at e table 0 depth v) (walk_at e table 0 d u) s;
    }

-- the next entry isn't skipped
pub is_stop : (choice : ℕ → Bool) (bound : ℤ) (e : Encoding) (table : List Declaration) (depth : ℤ) (v w : View)
    → w ≡ after 0 v
    → ((end_offset : ℕ) → after_other choice (walk_at e table end_offset depth w) ≡ None)
    → (end_offset : ℕ) → skip_others choice bound (walk_at e table end_offset depth v)
    ≡ walk_at e table end_offset depth v
is_stop choice bound e table depth v w at none end_offset =
    skip_others-stays choice bound (walk_at e table end_offset depth v)
    (from_same choice e table depth v w None end_offset at (none end_offset))

-- equal bounds and depths skip the same
pub same_start : (choice : ℕ → Bool) (b c d s : ℤ) (e : Encoding) (table : List Declaration) (v : View) (end_offset : ℕ)
    → c ≡ b → s ≡ d → skip_others choice b (walk_at e table end_offset d v)
    ≡ skip_others choice c (walk_at e table end_offset s v)
same_start choice b c d s e table v end_offset h k =
    ap (λ (x : ℤ). skip_others choice x (walk_at e table end_offset d v)) (sym h)
    ∙ ap (λ (x : ℤ). skip_others choice c (walk_at e table end_offset x v)) (sym k)

-- ---- a walk that has skipped them

pub skipped_walk : (choice : ℕ → Bool) (b c d x y : ℤ) (w w' : Walk) (n : ℕ) (t : View) → c ≡ b → x ≡ w.depth → y ≡ d
    → w ≡ w'
    → ((end_offset : ℕ) → skip_others choice c (walk_at w.encoding w.table end_offset x w.rest)
    ≡ walk_at w.encoding w.table end_offset d (after n w.rest)) → t ≡ after n w.rest
    → walk_at w.encoding w.table w.end_offset y t ≡ skip_others choice b w'
skipped_walk choice b c d x y w w' n t bounds start end same h at =
    ap (λ (k : ℤ). walk_at w.encoding w.table w.end_offset k t) end
    ∙ ap (walk_at w.encoding w.table w.end_offset d) at ∙ sym (h w.end_offset)
    ∙ sym (same_start choice b c w.depth x w.encoding w.table w.rest w.end_offset bounds start)
    ∙ ap (skip_others choice b) same

pub skipped_within : (w : Walk) (d y : ℤ) (n : ℕ) (t : View) → IsWithin w → y ≡ d → t ≡ after n w.rest
    → DepthFits d (after n w.rest) → IsWithin (walk_at w.encoding w.table w.end_offset y t)
skipped_within w d y n t h end at fits =
    let left = ap bytes_left at in
    let fewer : bytes_left t ≤ bytes_left w.rest = omega (arith, left, length-drop n w.rest.bytes) in
    record {
      is_before = omega (arith, fewer, h.is_before);
      not_low = omega (arith, ints, left, end, fits.not_low);
      not_high = omega (arith, ints, left, end, fits.not_high);
    }
