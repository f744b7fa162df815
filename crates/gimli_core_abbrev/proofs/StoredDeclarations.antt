-- Declarations that are stored beside one list of all their attributes.
use Rattle.std.proofs.Common.{◌≡◌, ℕ, zero, suc, ◌+◌, ◌-◌, ◌<◌, ◌≤◌, Bool, true, false, cond, ◌&&◌, leb, List, [], ◌∷◌, ◌++◌, length, map, take, drop, get_or, Option, Some, None, option_map, refl, sym, ap, subst, ◌∙◌, inl, inr, arith, add-zero, length-append}
use Rattle.std.specs.List.{slice_get}
use Rattle.std.proofs.lemmas.List.{take-append-le, drop-append-le, length-drop}
use Rattle.std.proofs.lemmas.Option.{slice_get-get_or, slice_get_read}
use Rattle.std.proofs.lemmas.Bool.{cases_lt, le-ltb, lt-ltb, eqb-true, eq-eqb}
use Rattle.std.proofs.Math.ListN.{get_or-append}
use Rattle.std.proofs.Math.Seq.{get_or-append_seam, drop-append_seam, take-length}
use Rattle.gimli_core_abbrev.specs.declared.abbreviation.AttributeSpecification.{AttributeSpecification}
use Rattle.gimli_core_abbrev.specs.declared.table.StoredDeclaration.{StoredDeclaration}
use Rattle.std.specs.Ordering.{nat_cmp}
use Rattle.std.specs.BTreeMap.{is_at}
use Rattle.gimli_core_abbrev.specs.Declarations.{Attribute, Declaration, declaration_at}
use Rattle.gimli_core_abbrev.specs.AbbreviationViews.{attribute_view, declaration_of_parts}
use Rattle.gimli_core_abbrev.specs.DeclarationFacts.{KnowsAttributes}
use Rattle.gimli_core_abbrev.specs.TableLayout.{attributes_between, code_at, declarations_from, stored, begin_of, tiles, IsLayout, IsStored}
use Rattle.gimli_core_abbrev.proofs.DeclarationPlaces.{next_in_order, other_place}

-- ---- the declaration at a place

pub stored_at : (code_of : ℕ → ℕ) (list : List AttributeSpecification) (p b : ℕ) (ds : List StoredDeclaration) (i : ℕ)
    → slice_get (declarations_from code_of list p b ds) i
    ≡ option_map (λ d. declaration_of_parts (code_of (p + i)) d.head (attributes_between list (begin_of b ds i) d.end))
    (slice_get ds i)
stored_at code_of list p b [] i = refl
stored_at code_of list p b (d ∷ ds) zero =
    ap (λ (n : ℕ). Some (declaration_of_parts (code_of n) d.head (attributes_between list b d.end))) (sym (add-zero p))
stored_at code_of list p b (d ∷ ds) (suc i) =
    stored_at code_of list (p + 1) d.end ds i
    ∙ ap (λ (n : ℕ). option_map (λ d'. declaration_of_parts (code_of n) d'.head
    (attributes_between list (begin_of d.end ds i) d'.end)) (slice_get ds i)) (omega arith)

pub length-stored : (code_of : ℕ → ℕ) (list : List AttributeSpecification) (p b : ℕ) (ds : List StoredDeclaration)
    → length (declarations_from code_of list p b ds) ≡ length ds
length-stored code_of list p b [] = refl
length-stored code_of list p b (d ∷ ds) = ap suc (length-stored code_of list (p + 1) d.end ds)

begin_of-next : (b : ℕ) (ds : List StoredDeclaration) (i : ℕ) (d : StoredDeclaration) → slice_get ds i ≡ Some d
    → begin_of b ds (suc i) ≡ d.end
begin_of-next b [] i d e = absurd cc
begin_of-next b (x ∷ ds) zero d e = let same : x ≡ d = cc in ap (λ (y : StoredDeclaration). y.end) same
begin_of-next b (x ∷ ds) (suc i) d e = begin_of-next x.end ds i d e

mapped_within : {X : Type 0} (f : X → ℕ) (xs : List X) (i y : ℕ) → option_map f (slice_get xs i) ≡ Some y
    → i < length xs
mapped_within f [] i y e = absurd cc
mapped_within f (x ∷ xs) zero y e = omega arith
mapped_within f (x ∷ xs) (suc i) y e = let rest = mapped_within f xs i y e in omega (arith, rest)

abbrev code_in : Option Declaration → Option ℕ
code_in o = option_map (λ (d : Declaration). d.code) o

-- a place whose code is known is that of a declaration
pub stored_within : {ds : List StoredDeclaration} {n : ℕ} {others : List ℕ} {list : List AttributeSpecification}
    {all : List Declaration} (i code : ℕ) → IsStored ds n others list → stored n others list ds ≡ all
    → code_in (slice_get all i) ≡ Some code → i < length ds
stored_within {ds} {n} {others} {list} i code is view known =
    let coded = ap (λ (xs : List Declaration). code_in (slice_get xs i)) view ∙ known in
    let within = mapped_within (λ (d : Declaration). d.code) (stored n others list ds) i code coded in
    let count = length-stored (code_at n others) list 0 0 ds in omega (arith, within, count)

-- the declaration at such a place
pub stored_there : {ds : List StoredDeclaration} {n : ℕ} {others : List ℕ} {list : List AttributeSpecification}
    {all : List Declaration} (i code : ℕ) (d : StoredDeclaration) → IsStored ds n others list
    → stored n others list ds ≡ all → code_in (slice_get all i) ≡ Some code → d ≡ get_or ds i d
    → slice_get ds i ≡ Some d
stored_there {ds} i code d is view known read =
    slice_get_read ds (length ds) i d refl (stored_within i code is view known) read

-- the declaration at a place, of its parts
pub stored_is : (in_order : ℕ) (others : List ℕ) (list : List AttributeSpecification) (ds : List StoredDeclaration)
    (i code b : ℕ) (d : StoredDeclaration) → code_in (slice_get (stored in_order others list ds) i) ≡ Some code
    → slice_get ds i ≡ Some d → b ≡ begin_of 0 ds i
    → slice_get (stored in_order others list ds) i
    ≡ Some (declaration_of_parts code d.head (attributes_between list b d.end))
stored_is in_order others list ds i code b d e there begin =
    let parts : slice_get (stored in_order others list ds) i
    ≡ Some (declaration_of_parts (code_at in_order others (0 + i)) d.head
    (attributes_between list (begin_of 0 ds i) d.end)) =
    stored_at (code_at in_order others) list 0 0 ds i
    ∙ ap (option_map (λ d'. declaration_of_parts (code_at in_order others (0 + i)) d'.head
    (attributes_between list (begin_of 0 ds i) d'.end))) there in
    let same : Some (code_at in_order others (0 + i)) ≡ Some code = sym (ap code_in parts) ∙ e in
    let code_is : code_at in_order others (0 + i) ≡ code = cc in
    parts
    ∙ ap (λ (c : ℕ). Some (declaration_of_parts c d.head (attributes_between list (begin_of 0 ds i) d.end))) code_is
    ∙ ap (λ (n : ℕ). Some (declaration_of_parts code d.head (attributes_between list n d.end))) (sym begin)

-- where the attributes of one after the first begin
pub begin_after : (ds : List StoredDeclaration) (place : ℕ) (d : StoredDeclaration) → 0 < place → place ≤ length ds
    → (get_or ds (place - 1) d).end ≡ begin_of 0 ds place
begin_after ds zero d some le = absurd (omega arith)
begin_after ds (suc i) d some le =
    let i_is : suc i - 1 ≡ i = omega arith in
    ap (λ (n : ℕ). (get_or ds n d).end) i_is
    ∙ sym (begin_of-next 0 ds i (get_or ds i d) (slice_get-get_or ds i d (omega arith)))

-- ---- tiles

both : (a b : Bool) → (a && b) ≡ true → (a ≡ true) × (b ≡ true)
both true b e = (refl, e)
both false b e = absurd cc

leb-le : (m n : ℕ) → leb m n ≡ true → m ≤ n
leb-le m n e = grind arith

le-leb : (m n : ℕ) → m ≤ n → leb m n ≡ true
le-leb m n e = grind arith

pub tiles-begin : (total b : ℕ) (ds : List StoredDeclaration) → tiles total b ds ≡ true → b ≤ total
tiles-begin total b [] e = let is = eqb-true b total e in omega (arith, is)
tiles-begin total b (d ∷ ds) e =
    let parts = both (leb b d.end) (tiles total d.end ds) e in
    let first = leb-le b d.end parts.0 in
    let rest = tiles-begin total d.end ds parts.1 in
    omega (arith, first, rest)

pub tiles-within : (total b : ℕ) (ds : List StoredDeclaration) (i : ℕ) (d : StoredDeclaration)
    → tiles total b ds ≡ true → slice_get ds i ≡ Some d → (begin_of b ds i ≤ d.end) × (d.end ≤ total)
tiles-within total b [] i d e there = absurd cc
tiles-within total b (x ∷ ds) zero d e there =
    let parts = both (leb b x.end) (tiles total x.end ds) e in
    let same : x ≡ d = cc in
    let first = leb-le b x.end parts.0 in
    let rest = tiles-begin total x.end ds parts.1 in
    subst (λ (y : StoredDeclaration). (b ≤ y.end) × (y.end ≤ total)) same (first, rest)
tiles-within total b (x ∷ ds) (suc i) d e there =
    tiles-within total x.end ds i d (both (leb b x.end) (tiles total x.end ds) e).1 there

-- one more, after the others
tiles-push : (total b : ℕ) (ds : List StoredDeclaration) (d : StoredDeclaration) → tiles total b ds ≡ true
    → total ≤ d.end → tiles d.end b (ds ++ d ∷ []) ≡ true
tiles-push total b [] d e more =
    let is = eqb-true b total e in
    let le : b ≤ d.end = omega (arith, is, more) in
    rw (le-leb b d.end le, eq-eqb d.end d.end refl) refl
tiles-push total b (x ∷ ds) d e more =
    let parts = both (leb b x.end) (tiles total x.end ds) e in rw parts.0 (tiles-push total x.end ds d parts.1 more)

begin_of-push : (total b : ℕ) (ds : List StoredDeclaration) (d : StoredDeclaration) → tiles total b ds ≡ true
    → begin_of b (ds ++ d ∷ []) (length ds) ≡ total
begin_of-push total b [] d e = eqb-true b total e
begin_of-push total b (x ∷ ds) d e =
    begin_of-push total x.end ds d (both (leb b x.end) (tiles total x.end ds) e).1

begin_of-before : (b : ℕ) (ds : List StoredDeclaration) (d : StoredDeclaration) (i : ℕ) → i < length ds
    → begin_of b (ds ++ d ∷ []) i ≡ begin_of b ds i
begin_of-before b [] d i lt = absurd (omega arith)
begin_of-before b (x ∷ ds) d zero lt = refl
begin_of-before b (x ∷ ds) d (suc i) lt = begin_of-before x.end ds d i (omega arith)

-- ---- more attributes

between-more : (list more : List AttributeSpecification) (b e : ℕ) → b ≤ e → e ≤ length list
    → attributes_between (list ++ more) b e ≡ attributes_between list b e
between-more list more b e le within =
    ap (λ (xs : List AttributeSpecification). map attribute_view (take (e - b) xs))
    (drop-append-le b list more (omega arith))
    ∙ ap (map attribute_view) (take-append-le (e - b) (drop b list) more
    (let left = length-drop b list in omega (arith, left)))

between-last : (list more : List AttributeSpecification) (b e : ℕ) → b ≡ length list → e ≡ length (list ++ more)
    → attributes_between (list ++ more) b e ≡ map attribute_view more
between-last list more b e begin end =
    let all = length-append list more in
    let count : e - b ≡ length more = omega (arith, begin, end, all) in
    ap (λ (n : ℕ). map attribute_view (take (e - b) (drop n (list ++ more)))) begin
    ∙ ap (λ (xs : List AttributeSpecification). map attribute_view (take (e - b) xs)) (drop-append_seam list more)
    ∙ ap (λ (n : ℕ). map attribute_view (take n more)) count ∙ ap (map attribute_view) (take-length more)

-- ---- one declaration more

stored-push : (f g : ℕ → ℕ) (list more : List AttributeSpecification) (p b : ℕ) (ds : List StoredDeclaration)
    (d : StoredDeclaration) → tiles (length list) b ds ≡ true → d.end ≡ length (list ++ more)
    → ((i : ℕ) → i < p + length ds → g i ≡ f i)
    → declarations_from g (list ++ more) p b (ds ++ d ∷ [])
    ≡ declarations_from f list p b ds ++ declaration_of_parts (g (p + length ds)) d.head (map attribute_view more) ∷ []
stored-push f g list more p b [] d tiled end same =
    ap (λ (xs : List Attribute). declaration_of_parts (g p) d.head xs ∷ [])
    (between-last list more b d.end (eqb-true b (length list) tiled) end)
    ∙ ap (λ (n : ℕ). declaration_of_parts (g n) d.head (map attribute_view more) ∷ []) (sym (add-zero p))
stored-push f g list more p b (x ∷ ds) d tiled end same =
    let parts = both (leb b x.end) (tiles (length list) x.end ds) tiled in
    let within = tiles-begin (length list) x.end ds parts.1 in
    ap (λ (n : ℕ). declaration_of_parts n x.head (attributes_between (list ++ more) b x.end)
    ∷ declarations_from g (list ++ more) (p + 1) x.end (ds ++ d ∷ [])) (same p (omega arith))
    ∙ ap (λ (xs : List Attribute). declaration_of_parts (f p) x.head xs
    ∷ declarations_from g (list ++ more) (p + 1) x.end (ds ++ d ∷ []))
    (between-more list more b x.end (leb-le b x.end parts.0) within)
    ∙ ap (λ (rest : List Declaration). declaration_of_parts (f p) x.head (attributes_between list b x.end) ∷ rest)
    (stored-push f g list more (p + 1) x.end ds d parts.1 end (λ i lt. same i (omega (arith, lt)))
    ∙ ap (λ (n : ℕ). declarations_from f list (p + 1) x.end ds
    ++ declaration_of_parts (g n) d.head (map attribute_view more) ∷ []) (omega arith))

get-before : (ds : List StoredDeclaration) (d : StoredDeclaration) (i : ℕ) → i < length ds
    → slice_get (ds ++ d ∷ []) i ≡ slice_get ds i
get-before [] d i lt = absurd (omega arith)
get-before (x ∷ ds) d zero lt = refl
get-before (x ∷ ds) d (suc i) lt = get-before ds d i (omega arith)

get-last : (ds : List StoredDeclaration) (d x : StoredDeclaration) (i : ℕ) → length ds ≤ i
    → slice_get (ds ++ d ∷ []) i ≡ Some x → (i ≡ length ds) × (d ≡ x)
get-last [] d x zero le e = (refl, cc)
get-last [] d x (suc i) le e = absurd cc
get-last (y ∷ ds) d x zero le e = absurd (omega arith)
get-last (y ∷ ds) d x (suc i) le e =
    let rest = get-last ds d x i (omega arith) e in (ap suc rest.0, rest.1)

-- what was known of the others, and of the new one
heads-push : (ds : List StoredDeclaration) (d : StoredDeclaration) (list more : List AttributeSpecification)
    → tiles (length list) 0 ds ≡ true → d.end ≡ length (list ++ more)
    → ((i : ℕ) (x : StoredDeclaration) → slice_get ds i ≡ Some x
    → KnowsAttributes x.head (attributes_between list (begin_of 0 ds i) x.end))
    → KnowsAttributes d.head (map attribute_view more)
    → (i : ℕ) (x : StoredDeclaration) → slice_get (ds ++ d ∷ []) i ≡ Some x
    → KnowsAttributes x.head (attributes_between (list ++ more) (begin_of 0 (ds ++ d ∷ []) i) x.end)
heads-push ds d list more tiled end old new i x there = elim (cases_lt i (length ds)) [
  | inl lt ↦
      let was : slice_get ds i ≡ Some x = sym (get-before ds d i lt) ∙ there in
      let within = tiles-within (length list) 0 ds i x tiled was in
      subst (λ (xs : List Attribute). KnowsAttributes x.head xs)
      (sym (between-more list more (begin_of 0 ds i) x.end within.0 within.1)
      ∙ ap (λ (b : ℕ). attributes_between (list ++ more) b x.end) (sym (begin_of-before 0 ds d i lt)))
      (old i x was)
  | inr le ↦
      let is = get-last ds d x i le there in
      let begin : begin_of 0 (ds ++ d ∷ []) i ≡ length list =
      ap (begin_of 0 (ds ++ d ∷ [])) is.0 ∙ begin_of-push (length list) 0 ds d tiled in
      subst (λ (y : StoredDeclaration). KnowsAttributes y.head
      (attributes_between (list ++ more) (begin_of 0 (ds ++ d ∷ []) i) y.end)) is.1
      (subst (λ (xs : List Attribute). KnowsAttributes d.head xs)
      (sym (between-last list more (begin_of 0 (ds ++ d ∷ []) i) d.end begin end)) new)
]

-- ---- codes

code_in_order : (n m : ℕ) (others : List ℕ) → m ≡ suc n → code_at m others n ≡ suc n
code_in_order n m others e =
    rw (lt-ltb n m (omega (arith, e))) (omega arith)

codes_before : (n m : ℕ) (others : List ℕ) → m ≡ suc n → (i : ℕ) → i < n → code_at m others i ≡ code_at n others i
codes_before n m others e i lt =
    rw (lt-ltb i m (omega (arith, e, lt)), lt-ltb i n lt) refl

code_of_other : (n : ℕ) (others : List ℕ) (code i : ℕ) → i ≡ n + length others
    → code_at n (others ++ code ∷ []) i ≡ code
code_of_other n others code i e =
    let offset : i - n ≡ length others = omega (arith, e) in
    rw (le-ltb i n (omega (arith, e)))
    (ap (λ (k : ℕ). get_or (others ++ code ∷ []) k 0) offset ∙ get_or-append_seam others code [] 0)

codes_before_other : (n : ℕ) (others : List ℕ) (code i : ℕ) → i < n + length others
    → code_at n (others ++ code ∷ []) i ≡ code_at n others i
codes_before_other n others code i lt = elim (cases_lt i n) [
  | inl below ↦ rw (lt-ltb i n below) refl
  | inr le ↦ rw (le-ltb i n le) (get_or-append others (code ∷ []) 0 (i - n) (omega (arith, lt, le)))
]

-- ---- what a place gives

pub within_list : {ds : List StoredDeclaration} {n : ℕ} {others : List ℕ} {list : List AttributeSpecification}
    (i b : ℕ) (d : StoredDeclaration) → IsStored ds n others list → slice_get ds i ≡ Some d → b ≡ begin_of 0 ds i
    → (b ≤ d.end) × (d.end ≤ length list)
within_list {ds} {n} {others} {list} i b d is there begin =
    let within = tiles-within (length list) 0 ds i d is.tiled there in
    (subst (λ (k : ℕ). k ≤ d.end) (sym begin) within.0, within.1)

pub known_at : {ds : List StoredDeclaration} {n : ℕ} {others : List ℕ} {list : List AttributeSpecification}
    (i b : ℕ) (d : StoredDeclaration) → IsStored ds n others list → slice_get ds i ≡ Some d → b ≡ begin_of 0 ds i
    → KnowsAttributes d.head (attributes_between list b d.end)
known_at {ds} {n} {others} {list} i b d is there begin =
    subst (λ (k : ℕ). KnowsAttributes d.head (attributes_between list k d.end)) (sym begin) (is.heads i d there)

-- ---- a push

abbrev pub one_more : List Declaration → Declaration → List Declaration
one_more ds d = ds ++ d ∷ []

pub stored_in_order : (ds : List StoredDeclaration) (d : StoredDeclaration) (n m code : ℕ) (others : List ℕ)
    (list more : List AttributeSpecification) → IsStored ds n others list → n ≡ length ds → m ≡ suc n → code ≡ suc n
    → d.end ≡ length (list ++ more)
    → stored m others (list ++ more) (ds ++ d ∷ [])
    ≡ one_more (stored n others list ds) (declaration_of_parts code d.head (map attribute_view more))
stored_in_order ds d n m code others list more is all next code_is end =
    stored-push (code_at n others) (code_at m others) list more 0 0 ds d is.tiled end
    (λ i lt. codes_before n m others next i (omega (arith, lt, all)))
    ∙ ap (λ (c : ℕ). one_more (stored n others list ds) (declaration_of_parts c d.head (map attribute_view more)))
    (ap (code_at m others) (let last : 0 + length ds ≡ n = omega (arith, all) in last)
    ∙ code_in_order n m others next ∙ sym code_is)

pub stored_other : (ds : List StoredDeclaration) (d : StoredDeclaration) (n code : ℕ) (others : List ℕ)
    (list more : List AttributeSpecification) → IsStored ds n others list → d.end ≡ length (list ++ more)
    → stored n (others ++ code ∷ []) (list ++ more) (ds ++ d ∷ [])
    ≡ one_more (stored n others list ds) (declaration_of_parts code d.head (map attribute_view more))
stored_other ds d n code others list more is end =
    stored-push (code_at n others) (code_at n (others ++ code ∷ [])) list more 0 0 ds d is.tiled end
    (λ i lt. codes_before_other n others code i (let all = is.codes in omega (arith, lt, all)))
    ∙ ap (λ (c : ℕ). one_more (stored n others list ds) (declaration_of_parts c d.head (map attribute_view more)))
    (code_of_other n others code (0 + length ds) (let all = is.codes in omega (arith, all)))

pub still_stored : (ds : List StoredDeclaration) (d : StoredDeclaration) (n m : ℕ) (others new : List ℕ)
    (list more : List AttributeSpecification) → IsStored ds n others list
    → m + length new ≡ suc (n + length others) → d.end ≡ length (list ++ more)
    → KnowsAttributes d.head (map attribute_view more) → IsStored (ds ++ d ∷ []) m new (list ++ more)
still_stored ds d n m others new list more is count end knows = record {
  codes = let was = is.codes in let both_parts = length-append ds (d ∷ []) in omega (arith, was, count, both_parts);
  tiled =
      ap (λ (total : ℕ). tiles total 0 (ds ++ d ∷ [])) (sym end)
      ∙ tiles-push (length list) 0 ds d is.tiled
      (let all = length-append list more in omega (arith, end, all));
  heads = heads-push ds d list more is.tiled end is.heads knows;
}

-- what is stored is the declaration that was added
abbrev pub Adds : Declaration → StoredDeclaration → List AttributeSpecification → Type 0
Adds a d more =
    (a ≡ declaration_of_parts a.code d.head a.attributes) × (map attribute_view more ≡ a.attributes)
    × KnowsAttributes d.head a.attributes

abbrev AreStored : List StoredDeclaration → ℕ → List ℕ → List AttributeSpecification → (ℕ → Option ℕ) → Type 0
AreStored ds n others list places =
    IsStored ds n others list × IsLayout (stored n others list ds) n places

added_is : (a : Declaration) (d : StoredDeclaration) (more : List AttributeSpecification) → Adds a d more
    → declaration_of_parts a.code d.head (map attribute_view more) ≡ a
added_is a d more adds = ap (declaration_of_parts a.code d.head) adds.1 ∙ sym adds.0

knows_added : (a : Declaration) (d : StoredDeclaration) (more : List AttributeSpecification) → Adds a d more
    → KnowsAttributes d.head (map attribute_view more)
knows_added a d more adds = subst (KnowsAttributes d.head) (sym adds.1) adds.2

pub view_in_order : (ds more_ds : List StoredDeclaration) (d : StoredDeclaration) (n m : ℕ) (others : List ℕ)
    (list more all : List AttributeSpecification) (a : Declaration) → IsStored ds n others list
    → more_ds ≡ ds ++ d ∷ [] → all ≡ list ++ more → d.end ≡ length all → Adds a d more
    → n ≡ length ds → m ≡ suc n → a.code ≡ suc n
    → stored m others all more_ds ≡ one_more (stored n others list ds) a
view_in_order ds more_ds d n m others list more all a is ds_is all_is end adds full next code_is =
    ap (λ (xs : List AttributeSpecification). stored m others xs more_ds) all_is
    ∙ ap (stored m others (list ++ more)) ds_is
    ∙ stored_in_order ds d n m a.code others list more is full next code_is (end ∙ ap length all_is)
    ∙ ap (one_more (stored n others list ds)) (added_is a d more adds)

pub view_other : (ds more_ds : List StoredDeclaration) (d : StoredDeclaration) (n : ℕ) (others more_others : List ℕ)
    (list more all : List AttributeSpecification) (a : Declaration) → IsStored ds n others list
    → more_ds ≡ ds ++ d ∷ [] → all ≡ list ++ more → d.end ≡ length all → Adds a d more
    → more_others ≡ others ++ a.code ∷ []
    → stored n more_others all more_ds ≡ one_more (stored n others list ds) a
view_other ds more_ds d n others more_others list more all a is ds_is all_is end adds others_is =
    ap (λ (xs : List AttributeSpecification). stored n more_others xs more_ds) all_is
    ∙ ap (stored n more_others (list ++ more)) ds_is
    ∙ ap (λ (cs : List ℕ). stored n cs (list ++ more) (ds ++ d ∷ [])) others_is
    ∙ stored_other ds d n a.code others list more is (end ∙ ap length all_is)
    ∙ ap (one_more (stored n others list ds)) (added_is a d more adds)

is_stored_after : (ds more_ds : List StoredDeclaration) (d : StoredDeclaration) (n m : ℕ) (others more_others : List ℕ)
    (list more all : List AttributeSpecification) (a : Declaration) → IsStored ds n others list
    → more_ds ≡ ds ++ d ∷ [] → all ≡ list ++ more → d.end ≡ length all → Adds a d more
    → m + length more_others ≡ suc (n + length others) → IsStored more_ds m more_others all
is_stored_after ds more_ds d n m others more_others list more all a is ds_is all_is end adds count =
    subst (λ (xs : List AttributeSpecification). IsStored more_ds m more_others xs) (sym all_is)
    (subst (λ (xs : List StoredDeclaration). IsStored xs m more_others (list ++ more)) (sym ds_is)
    (still_stored ds d n m others more_others list more is count (end ∙ ap length all_is) (knows_added a d more adds)))

pub stays_in_order : (ds more_ds : List StoredDeclaration) (d : StoredDeclaration) (n m : ℕ) (others : List ℕ)
    (list more all : List AttributeSpecification) (a : Declaration) (places : ℕ → Option ℕ)
    → AreStored ds n others list places
    → more_ds ≡ ds ++ d ∷ [] → all ≡ list ++ more → d.end ≡ length all → Adds a d more
    → n ≡ length ds → m ≡ suc n → a.code ≡ suc n → declaration_at a.code (stored n others list ds) ≡ None
    → AreStored more_ds m others all places
stays_in_order ds more_ds d n m others list more all a places is ds_is all_is end adds full next code_is absent = (
  is_stored_after ds more_ds d n m others others list more all a is.0 ds_is all_is end adds (omega (arith, next)),
  subst (λ (xs : List Declaration). IsLayout xs m places)
      (sym (view_in_order ds more_ds d n m others list more all a is.0 ds_is all_is end adds full next code_is))
      (subst (λ (k : ℕ). IsLayout (one_more (stored n others list ds) a) k places) (sym next)
      (next_in_order (stored n others list ds) n places a is.1
      (full ∙ sym (length-stored (code_at n others) list 0 0 ds)) code_is absent)),
)

pub stays_elsewhere : (ds more_ds : List StoredDeclaration) (d : StoredDeclaration) (n : ℕ)
    (others more_others : List ℕ) (list more all : List AttributeSpecification) (a : Declaration)
    (key place : ℕ) (places new : ℕ → Option ℕ) → AreStored ds n others list places
    → more_ds ≡ ds ++ d ∷ [] → all ≡ list ++ more → d.end ≡ length all → Adds a d more
    → more_others ≡ others ++ a.code ∷ [] → 0 < a.code
    → declaration_at a.code (stored n others list ds) ≡ None → key ≡ a.code → place ≡ length ds
    → ((code : ℕ) → new code ≡ cond (is_at (nat_cmp key) code) (Some place) (places code))
    → AreStored more_ds n more_others all new
stays_elsewhere ds more_ds d n others more_others list more all a key place places new is ds_is all_is end adds
    others_is counts absent key_is place_is placed = (
      is_stored_after ds more_ds d n n others more_others list more all a is.0 ds_is all_is end adds
          (let longer = ap length others_is in
          let count = length-append others (a.code ∷ []) in omega (arith, longer, count)),
      subst (λ (xs : List Declaration). IsLayout xs n new)
          (sym (view_other ds more_ds d n others more_others list more all a is.0 ds_is all_is end adds others_is))
          (other_place (stored n others list ds) n places new a is.1 counts absent (λ code. placed code
          ∙ ap (λ (k : ℕ). cond (is_at (nat_cmp k) code) (Some place) (places code)) key_is
          ∙ ap (λ (p : ℕ). cond (is_at (nat_cmp a.code) code) (Some p) (places code))
          (place_is ∙ sym (length-stored (code_at n others) list 0 0 ds)))),
    )
