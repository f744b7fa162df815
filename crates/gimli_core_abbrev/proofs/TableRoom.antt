-- A declaration takes five bytes at least, and two more for each attribute.
use Rattle.std.proofs.Common.{◌≡◌, ℕ, zero, suc, ◌+◌, ◌-◌, ◌*◌, ◌<◌, ◌≤◌, Bool, true, false, cond, not, ◌&&◌, eqb, ltb, List, [], ◌∷◌, length, sum_by, Option, Some, None, Result, Ok, Err, refl, sym, ap, ◌∙◌, arith, length-drop}
use Rattle.std.proofs.lemmas.List.Sums.{sum_by-append}
use Rattle.gimli_core_readers.specs.Error.{Error}
use Rattle.gimli_core_readers.specs.Error.TheVariants.{AbbreviationTagZero}
use Rattle.gimli_core_readers.specs.View.{View, bytes_left, after, unexpected_end}
use Rattle.gimli_core_readers.specs.Parsers.{◌>>=◌, ◌>>◌, proceed, give, branch, demand, skip}
use Rattle.gimli_core_readers.specs.Repetition.{Listing, items_within, listing_in, next_item, item_or_end, whole_of}
use Rattle.gimli_core_readers.proofs.StepParts.{begins, value_of-Ok, value_is, state_is}
use Rattle.gimli_core_readers.proofs.StepSizes.{AtMost, Below, sizes}
use Rattle.gimli_core_readers.specs.NumberParsers.{unsigned, unsigned_16}
use Rattle.gimli_core_readers.proofs.NumberReadSizes.{Below-unsigned, Below-unsigned_16, number_sizes}
use Rattle.gimli_core_abbrev.specs.Declarations.{Attribute, Declaration, put, put_all, by_code, repeated_code}
use Rattle.gimli_core_abbrev.specs.TableParsing.{implicit_const, attribute_of, attribute, attributes, children, declaration_of, coded_declaration, unless_ended, declaration, distinct, table_of, table, table_at}
use Rattle.gimli_core_abbrev.specs.TableLaws.{bytes_needed}

abbrev well : View → Result View Error
well w = Ok w

abbrev answer : Option Declaration → View → Result (Option Declaration × View) Error
answer o s = Ok (o, s)

abbrev unit_and_rest : View → Result (Unit {0} × View) Error
unit_and_rest s = Ok (tt, s)

abbrev just : Declaration → Option Declaration
just d = Some d

ok_is : (v w : View) → well v ≡ well w → v ≡ w
ok_is v w e = cc

-- ---- an attribute

attribute_of-leaves : (name form : ℕ) (v : View) (n : ℕ) → bytes_left v ≤ n
    → AtMost bytes_left n (attribute_of name form v)
unfolding attribute_of implicit_const
attribute_of-leaves name form v n h = search (arith, sizes, number_sizes) depth 40

after_form-leaves : (name form : ℕ) (v : View) (n : ℕ) → bytes_left v ≤ n
    → AtMost bytes_left n (branch (eqb name 0 && eqb form 0) (give None) (attribute_of name form) v)
after_form-leaves name form v n h = search (arith, sizes, attribute_of-leaves) depth 20

attribute-two : (v : View) (o : Option Attribute) (t : View) → attribute v ≡ Ok (o, t) → bytes_left t + 2 ≤ bytes_left v
unfolding attribute
attribute-two v o t e =
    let first = begins (unsigned_16 v)
    (λ name. unsigned_16 >>= λ form. branch (eqb name 0 && eqb form 0) (give None) (attribute_of name form)) o t e
    in
    let one = (Below-unsigned_16 {n = bytes_left v} v (omega arith)).left first.0 first.1 first.2 in
    let second = begins (unsigned_16 first.1)
    (λ form. branch (eqb first.0 0 && eqb form 0) (give None) (attribute_of first.0 form)) o t first.3 in
    let two = (Below-unsigned_16 {n = bytes_left first.1} first.1 (omega arith)).left second.0 second.1 second.2 in
    let rest = (after_form-leaves first.0 second.0 second.1 (bytes_left second.1) (omega arith)).left o t second.3 in
    omega (arith, one, two, rest)

-- ---- the attributes

attributes_within : (k : ℕ) (v w : View) → bytes_left v < k → (items_within k attribute v).ending ≡ Ok w
    → 2 * length (items_within k attribute v).items + 2 + bytes_left w ≤ bytes_left v
unfolding items_within
attributes_within zero v w h e = absurd (omega arith)
attributes_within (suc k) v w h e = by_step (attribute v) refl e (λ t lt. attributes_within k t w lt)
  where
    by_step : (r : Result (Option Attribute × View) Error) → attribute v ≡ r
        → (next_item r (items_within k attribute)).ending ≡ Ok w
        → ((t : View) → bytes_left t < k → (items_within k attribute t).ending ≡ Ok w
        → 2 * length (items_within k attribute t).items + 2 + bytes_left w ≤ bytes_left t)
        → 2 * length (next_item r (items_within k attribute)).items + 2 + bytes_left w ≤ bytes_left v
    by_step (Err d) is f again = absurd cc
    by_step (Ok r) is f again = by_item r.0 (attribute-two v r.0 r.1 is) f
      where
        by_item : (o : Option Attribute) → bytes_left r.1 + 2 ≤ bytes_left v
            → (item_or_end o r.1 (items_within k attribute)).ending ≡ Ok w
            → 2 * length (item_or_end o r.1 (items_within k attribute)).items + 2 + bytes_left w ≤ bytes_left v
        by_item None le g = let same = ap bytes_left (ok_is r.1 w g) in omega (arith, le, same)
        by_item (Some a) le g = let rest = again r.1 (omega (arith, le, h)) g in omega (arith, le, rest)

attributes-room : (v : View) (xs : List Attribute) (w : View) → attributes v ≡ Ok (xs, w)
    → 2 * length xs + 2 + bytes_left w ≤ bytes_left v
unfolding attributes listing_in
attributes-room v xs w e = cases (items_within (suc (bytes_left v)) attribute v).ending refl e
  where
    cases : (r : Result View Error) → (items_within (suc (bytes_left v)) attribute v).ending ≡ r
        → whole_of (items_within (suc (bytes_left v)) attribute v).items r ≡ Ok (xs, w)
        → 2 * length xs + 2 + bytes_left w ≤ bytes_left v
    cases (Err d) q h = absurd cc
    cases (Ok t) q h =
        let items = value_is (items_within (suc (bytes_left v)) attribute v).items xs t w h in
        let state = state_is (items_within (suc (bytes_left v)) attribute v).items xs t w h in
        let room = attributes_within (suc (bytes_left v)) v t (omega arith) q in
        omega (arith, room, ap (λ (ys : List Attribute). length ys) items, ap bytes_left state)

-- ---- a declaration

children-takes : (u : View) (n : ℕ) → bytes_left u ≤ n → Below bytes_left n (children u)
unfolding children
children-takes u n h = search (arith, sizes, number_sizes) depth 40

children-one : (v : View) (b : Bool) (t : View) → children v ≡ Ok (b, t) → bytes_left t + 1 ≤ bytes_left v
children-one v b t e = let lt = (children-takes v (bytes_left v) (omega arith)).left b t e in omega arith

demand-same : (b : Bool) (e : Error) (s : View) (x : Unit {0}) (t : View) → demand b e s ≡ Ok (x, t)
    → bytes_left t ≡ bytes_left s
demand-same true e s x t h = ap bytes_left (sym (state_is tt x s t h))
demand-same false e s x t h = absurd cc

declaration_of-room : (code : ℕ) (v : View) (d : Declaration) (w : View) → declaration_of code v ≡ Ok (d, w)
    → bytes_needed d + bytes_left w ≤ bytes_left v + 1
unfolding declaration_of
declaration_of-room code v d w e =
    let tag = begins (unsigned_16 v)
    (λ t. demand (not (eqb t 0)) AbbreviationTagZero
    >> (children >>= λ c. attributes
    >>= λ xs. give (record { code = code; tag = t; has_children = c; attributes = xs }))) d w e in
    let one = (Below-unsigned_16 {n = bytes_left v} v (omega arith)).left tag.0 tag.1 tag.2 in
    let test = begins (demand (not (eqb tag.0 0)) AbbreviationTagZero tag.1)
    (λ _. children >>= λ c. attributes
    >>= λ xs. give (record { code = code; tag = tag.0; has_children = c; attributes = xs })) d w tag.3 in
    let same = demand-same (not (eqb tag.0 0)) AbbreviationTagZero tag.1 test.0 test.1 test.2 in
    let child = begins (children test.1)
    (λ c. attributes >>= λ xs. give (record { code = code; tag = tag.0; has_children = c; attributes = xs })) d w
    test.3 in
    let two = children-one test.1 child.0 child.1 child.2 in
    let list = begins (attributes child.1)
    (λ xs. give (record { code = code; tag = tag.0; has_children = child.0; attributes = xs })) d w child.3 in
    let room = attributes-room child.1 list.0 list.1 list.2 in
    let made : Declaration = record { code = code; tag = tag.0; has_children = child.0; attributes = list.0 } in
    let is = value_is made d list.1 w list.3 in
    let state = state_is made d list.1 w list.3 in
    omega (arith, one, same, two, room, ap bytes_needed is, ap bytes_left state)

coded-room : (v : View) (d : Declaration) (w : View) → coded_declaration v ≡ Ok (Some d, w)
    → bytes_needed d + bytes_left w ≤ bytes_left v
unfolding coded_declaration
coded-room v d w e =
    let code = begins (unsigned v) (λ c. branch (eqb c 0) (give None) (declaration_of c >>= λ x. give (Some x)))
    (Some d) w e in
    let one = (Below-unsigned {n = bytes_left v} v (omega arith)).left code.0 code.1 code.2 in
    let rest = cases code.0 code.1 (eqb code.0 0) code.3 in
    omega (arith, one, rest)
  where
    none_some : (s t : View) (x : Declaration) → answer None s ≡ answer (Some x) t → ⊥
    none_some s t x h = let is = value_is {A = Option Declaration} None (Some x) s t h in cc

    some_is : (x y : Declaration) → just x ≡ just y → x ≡ y
    some_is x y h = cc

    cases : (c : ℕ) (s : View) (b : Bool) → cond b (answer None s) (proceed (declaration_of c s) (λ x. give (Some x)))
        ≡ answer (Some d) w → bytes_needed d + bytes_left w ≤ bytes_left s + 1
    cases c s true h = absurd (none_some s w d h)
    cases c s false h =
        let made = begins (declaration_of c s) (λ x. give (Some x)) (Some d) w h in
        let room = declaration_of-room c s made.0 made.1 made.2 in
        let is = some_is made.0 d (value_is {A = Option Declaration} (Some made.0) (Some d) made.1 w made.3) in
        let state = state_is {A = Option Declaration} (Some made.0) (Some d) made.1 w made.3 in
        omega (arith, room, ap bytes_needed is, ap bytes_left state)

declaration-room : (v : View) (d : Declaration) (w : View) → declaration v ≡ Ok (Some d, w)
    → bytes_needed d + bytes_left w ≤ bytes_left v
unfolding declaration
declaration-room v d w e = cases v.bytes e
  where
    none_some : (s t : View) (x : Declaration) → answer None s ≡ answer (Some x) t → ⊥
    none_some s t x h = let is = value_is {A = Option Declaration} None (Some x) s t h in cc

    cases : (bytes : List ℕ) → unless_ended bytes coded_declaration v ≡ Ok (Some d, w)
        → bytes_needed d + bytes_left w ≤ bytes_left v
    cases [] h = absurd (none_some v w d h)
    cases (b ∷ bytes) h = coded-room v d w h

-- ---- the declarations

sum-cons : (d : Declaration) (ds : List Declaration) → sum_by bytes_needed (d ∷ ds) ≡ bytes_needed d
    + sum_by bytes_needed ds
sum-cons d ds = sum_by-append bytes_needed (d ∷ []) ds ∙ omega arith

listed-room : (k : ℕ) (v : View) → sum_by bytes_needed (items_within k declaration v).items ≤ bytes_left v
unfolding items_within
listed-room zero v = omega arith
listed-room (suc k) v = by_step (declaration v) refl (λ t. listed-room k t)
  where
    by_step : (r : Result (Option Declaration × View) Error) → declaration v ≡ r
        → ((t : View) → sum_by bytes_needed (items_within k declaration t).items ≤ bytes_left t)
        → sum_by bytes_needed (next_item r (items_within k declaration)).items ≤ bytes_left v
    by_step (Err e) is rest = omega arith
    by_step (Ok r) is rest = by_item r.0
        (λ d e. declaration-room v d r.1 (is ∙ ap (λ (o : Option Declaration). answer o r.1) e))
      where
        by_item : (o : Option Declaration)
            → ((d : Declaration) → o ≡ Some d → bytes_needed d + bytes_left r.1 ≤ bytes_left v)
            → sum_by bytes_needed (item_or_end o r.1 (items_within k declaration)).items ≤ bytes_left v
        by_item None room = omega arith
        by_item (Some d) room = omega (arith, room d refl, rest r.1, sum-cons d (items_within k declaration r.1).items)

sum-put : (d : Declaration) (ds : List Declaration) → sum_by bytes_needed (put d ds) ≡ bytes_needed d
    + sum_by bytes_needed ds
sum-put d [] = sum-cons d []
sum-put d (e ∷ ds) = by_place (ltb d.code e.code) (sum-put d ds)
  where
    by_place : (b : Bool) → sum_by bytes_needed (put d ds) ≡ bytes_needed d + sum_by bytes_needed ds
        → sum_by bytes_needed (cond b (d ∷ e ∷ ds) (e ∷ put d ds)) ≡ bytes_needed d + sum_by bytes_needed (e ∷ ds)
    by_place true h = sum-cons d (e ∷ ds)
    by_place false h = omega (arith, h, sum-cons e (put d ds), sum-cons e ds)

sum-put_all : (so_far ds : List Declaration) → sum_by bytes_needed (put_all so_far ds) ≡ sum_by bytes_needed so_far
    + sum_by bytes_needed ds
sum-put_all so_far [] = omega arith
sum-put_all so_far (d ∷ ds) = omega (arith, sum-put_all (put d so_far) ds, sum-put d so_far, sum-cons d ds)

table_of-room : (n : ℕ) (l : Listing View Declaration) (ds : List Declaration) (u : View)
    → sum_by bytes_needed l.items ≤ n → table_of l ≡ Ok (ds, u) → sum_by bytes_needed ds ≤ n
table_of-room n l ds u room made = cases (repeated_code l.items) l.ending made
  where
    cases : (o : Option ℕ) (r : Result View Error) → distinct o (proceed (whole_of l.items r) (λ xs. give (by_code xs)))
        ≡ Ok (ds, u) → sum_by bytes_needed ds ≤ n
    cases (Some code) r h = absurd cc
    cases None (Err d) h = absurd cc
    cases None (Ok w) h = omega (
      arith,
      room,
      sum-put_all [] l.items,
      ap
          (λ (xs : List Declaration). sum_by bytes_needed xs) (value_is (by_code l.items) ds w u h),
    )

table-room : (v : View) (ds : List Declaration) (u : View) → table v ≡ Ok (ds, u)
    → sum_by bytes_needed ds ≤ bytes_left v
unfolding table listing_in
table-room v ds u made =
    table_of-room (bytes_left v) (items_within (suc (bytes_left v)) declaration v) ds u
    (listed-room (suc (bytes_left v)) v) made

skip-leaves : (n : ℕ) (v : View) (x : Unit {0}) (t : View) → skip n v ≡ Ok (x, t) → bytes_left t ≡ bytes_left v - n
skip-leaves n v x t e = cases (ltb (length v.bytes) n) e
  where
    cases : (b : Bool) → cond b (Err (unexpected_end v)) (unit_and_rest (after n v)) ≡ unit_and_rest t
        → bytes_left t ≡ bytes_left v - n
    cases true h = absurd cc
    cases false h = ap bytes_left (sym (state_is tt tt (after n v) t h)) ∙ length-drop n v.bytes

pub needs_room : (offset : ℕ) (section : View) (ds : List Declaration) → table_at offset section ≡ Ok ds
    → sum_by bytes_needed ds ≤ length section.bytes - offset
needs_room offset section ds made =
    let read = value_of-Ok ((skip offset >> table) section) ds made in
    let begun = begins (skip offset section) (λ _. table) ds read.0 read.1 in
    let room = table-room begun.1 ds read.0 begun.3 in
    omega (arith, room, skip-leaves offset section begun.0 begun.1 begun.2)
