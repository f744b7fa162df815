-- What is known of attributes while they are read.
use Rattle.std.proofs.Common.{◌≡◌, ℕ, zero, suc, ◌+◌, ◌*◌, ◌-◌, ◌<◌, ◌≤◌, Bool, true, false, cond, ◌||◌, List, [], ◌∷◌, ◌++◌, drop, length, Option, Some, None, ◌⊎◌, inl, inr, refl, ap, sym, ◌∙◌, arith, append-nil, append_assoc, length-append, subst}
use Rattle.std.specs.Prelude.{is_some, min, nat_eq, nat_lt}
use Rattle.std.specs.Int.Bits.{bit_or}
use mir.Val.{bool_byte}
use Rattle.std.proofs.Math.Bool.{or-false}
use Rattle.std.proofs.Math.Dec.{eqb-suc-zero}
use Rattle.std.proofs.lemmas.Bool.{cases_lt, lt-ltb}
use Rattle.std.proofs.lemmas.Nat.{le_or_l, le_or_r}
use Rattle.std.proofs.Math.Seq.{drop-append_seam}
use Rattle.std.proofs.lemmas.List.Folds.{list_any-append}
use Rattle.gimli_core_readers.specs.Encoding.{Encoding}
use Rattle.gimli_core_readers.specs.Format.TheVariants.{Dwarf32}
use Rattle.gimli_core_readers.specs.FormatSizes.{word_size}
use Rattle.gimli_core_readers.specs.TheConstants.{DW_FORM_ref_addr}
use Rattle.gimli_core_abbrev.specs.Declarations.{Attribute}
use Rattle.gimli_core_abbrev.specs.declared.facts.AttributeFacts.{AttributeFacts}
use Rattle.gimli_core_abbrev.specs.declared.widths.FixedWidths.{FixedWidths}
use Rattle.gimli_core_abbrev.specs.DeclarationFacts.{is_of_ranges, know_ranges, names_ranges, FitsInBytes, FitWithMore, KnowsMore, KnowsRead, KnowsWidths}
use Rattle.gimli_core_abbrev.specs.FormWidths.{attribute_width, count_of_fixed, fixed_width_of, most_counted, sum_of_first, sum_of_widths, total_width, width_of, width_of_one, widths_in, AreBytes, IsOfAtMostOne}
use Rattle.gimli_core_abbrev.proofs.CountedPrefixes.{counted_failed, counted_full, counted_more, counted_within}
use Rattle.gimli_core_abbrev.proofs.WidthSums.{products_add, sum_of_first-more, sum_of_first-further}

abbrev some : ℕ → Option ℕ
some n = Some n

abbrev is_some_width : Option ℕ → Bool
is_some_width o = is_some o

abbrev has_fixed : Encoding → Attribute → Bool
has_fixed e a = is_some (fixed_width_of e a.form)

-- one of all encodings
any : Encoding
any = record { address_size = 8; format = Dwarf32; version = 5 }

named_further : (xs : List Attribute) (a : Attribute)
    → names_ranges (xs ++ a ∷ []) ≡ (names_ranges xs || is_of_ranges a.name)
named_further xs a =
    list_any-append (λ (x : Attribute). is_of_ranges x.name) xs (a ∷ [])
    ∙ ap (λ (b : Bool). names_ranges xs || b) (or-false (is_of_ranges a.name))

-- a width that is known before the version is, is known
fixed_is : (e : Encoding) (form n : ℕ) → fixed_width_of e form ≡ Some n → width_of e form ≡ Some n
fixed_is e form n = by_test (nat_eq form DW_FORM_ref_addr.0)
  where
    by_test : (b : Bool) → cond b None (width_of e form) ≡ Some n → width_of e form ≡ Some n
    by_test true h = absurd cc
    by_test false h = h

-- all are counted where there is room for more
no_less : (c n r : ℕ) → c ≤ n → 0 < r → (c < n → r ≡ 0) → c ≡ n
no_less c n r within room none = by_order (cases_lt c n)
  where
    by_order : ((c < n) ⊎ (n ≤ c)) → c ≡ n
    by_order (inl less) = let no_room = none less in absurd (omega (arith, room, no_room))
    by_order (inr all) = omega (arith, within, all)

-- one more is counted
counted_further : (xs : List Attribute) (a : Attribute) (v w u : FixedWidths) (r s : ℕ) → KnowsWidths v r xs
    → 0 < r → s ≡ r - 1 → ((e : Encoding) → fixed_width_of e a.form ≡ Some (total_width e w))
    → u.bytes ≡ v.bytes + w.bytes → u.addresses ≡ v.addresses + w.addresses → u.offsets ≡ v.offsets + w.offsets
    → u.attributes ≡ v.attributes + 1 → KnowsWidths u s (xs ++ a ∷ [])
counted_further xs a v w u r s known room next_room width bytes addresses offsets counted = record {
  widths = λ e. record {
    count =
        counted
        ∙ counted_more (has_fixed e) most_counted v.attributes r xs a (known.widths e).count all (known.room all) room
        (ap is_some_width (width e));
    sum =
        let at : drop v.attributes (xs ++ a ∷ []) ≡ a ∷ [] =
        ap (λ (n : ℕ). drop n (xs ++ a ∷ [])) all ∙ drop-append_seam xs (a ∷ []) in
        let next : u.attributes ≡ suc v.attributes = omega (arith, counted) in
        ap (λ (n : ℕ). sum_of_first (attribute_width e) n (xs ++ a ∷ [])) next
        ∙ sum_of_first-more (attribute_width e) v.attributes (xs ++ a ∷ []) [] a (total_width e v) (total_width e w) at
        (sum_of_first-further (attribute_width e) v.attributes xs (a ∷ []) (total_width e v) (known.widths e).sum)
        (fixed_is e a.form (total_width e w) (width e))
        ∙ ap some (sym (products_add v.bytes w.bytes u.bytes v.addresses w.addresses u.addresses v.offsets w.offsets
        u.offsets e.address_size (word_size e.format) bytes addresses offsets));
  };
  room = λ _.
      let rest = known.room all in
      omega (arith, rest, room, next_room, counted);
  ended = λ less.
      let both = length-append xs (a ∷ []) in
      absurd (omega (arith, less, counted, all, both));
}
  where
    all : v.attributes ≡ length xs
    all =
        let within = counted_within (has_fixed any) most_counted v.attributes xs (known.widths any).count in
        no_less v.attributes (length xs) r within room known.ended

-- one more isn't
passed_further : (xs : List Attribute) (a : Attribute) (v u : FixedWidths) (r s : ℕ) → KnowsWidths v r xs
    → ((e : Encoding) → v.attributes ≡ count_of_fixed e (xs ++ a ∷ []))
    → u.bytes ≡ v.bytes → u.addresses ≡ v.addresses → u.offsets ≡ v.offsets → u.attributes ≡ v.attributes → s ≡ 0
    → KnowsWidths u s (xs ++ a ∷ [])
passed_further xs a v u r s known count bytes addresses offsets counted none = record {
  widths = λ e. record {
    count = counted ∙ count e;
    sum =
        let same : total_width e v ≡ total_width e u = rw (bytes, addresses, offsets) refl in
        ap (λ (n : ℕ). sum_of_first (attribute_width e) n (xs ++ a ∷ [])) counted
        ∙ sum_of_first-further (attribute_width e) v.attributes xs (a ∷ []) (total_width e v) (known.widths e).sum
        ∙ ap some same;
  };
  room = λ all.
      let within = counted_within (has_fixed any) most_counted v.attributes xs (known.widths any).count in
      let both = length-append xs (a ∷ []) in
      absurd (omega (arith, all, counted, within, both));
  ended = λ _. none;
}

-- where there is no room
full_further : (xs : List Attribute) (a : Attribute) (v u : FixedWidths) (r s : ℕ) → KnowsWidths v r xs → r ≡ 0
    → u.bytes ≡ v.bytes → u.addresses ≡ v.addresses → u.offsets ≡ v.offsets → u.attributes ≡ v.attributes → s ≡ 0
    → KnowsWidths u s (xs ++ a ∷ [])
full_further xs a v u r s known full =
    passed_further xs a v u r s known
    (λ e. counted_full (has_fixed e) most_counted v.attributes r xs a (known.widths e).count known.room full)

-- where its width isn't known
unknown_further : (xs : List Attribute) (a : Attribute) (v u : FixedWidths) (r s : ℕ) → KnowsWidths v r xs
    → ((e : Encoding) → fixed_width_of e a.form ≡ None)
    → u.bytes ≡ v.bytes → u.addresses ≡ v.addresses → u.offsets ≡ v.offsets → u.attributes ≡ v.attributes → s ≡ 0
    → KnowsWidths u s (xs ++ a ∷ [])
unknown_further xs a v u r s known unknown =
    passed_further xs a v u r s known
    (λ e. counted_failed (has_fixed e) most_counted v.attributes xs a (known.widths e).count
    (ap is_some_width (unknown e)))

-- ---- one more, counted c times

none_added : (c n s t : ℕ) → t ≡ s + c * n → c ≡ 0 → t ≡ s
none_added c n s t h is = let now : t ≡ s + 0 * n = h ∙ ap (λ (k : ℕ). s + k * n) is in omega (arith, now)

one_added : (c n s t : ℕ) → t ≡ s + c * n → c ≡ 1 → t ≡ s + n
one_added c n s t h is = let now : t ≡ s + 1 * n = h ∙ ap (λ (k : ℕ). s + k * n) is in omega (arith, now)

pub widths_further : (xs : List Attribute) (a : Attribute) (v w u : FixedWidths) (r s c : ℕ) → KnowsWidths v r xs
    → r ≤ most_counted → w.attributes ≤ 1 → ((e : Encoding) → fixed_width_of e a.form ≡ width_of_one e w)
    → c ≡ min r w.attributes → u ≡ sum_of_widths v c w → s ≡ min (r - c) (c * 16) → KnowsWidths u s (xs ++ a ∷ [])
widths_further xs a v w u r s c known within small width count sum room =
    by_count r w.attributes refl refl width
  where
    bytes : u.bytes ≡ v.bytes + c * w.bytes
    bytes = ap (λ (x : FixedWidths). x.bytes) sum

    addresses : u.addresses ≡ v.addresses + c * w.addresses
    addresses = ap (λ (x : FixedWidths). x.addresses) sum

    offsets : u.offsets ≡ v.offsets + c * w.offsets
    offsets = ap (λ (x : FixedWidths). x.offsets) sum

    attributes : u.attributes ≡ v.attributes + c * w.attributes
    attributes = ap (λ (x : FixedWidths). x.attributes) sum

    by_count : (k n : ℕ) → r ≡ k → w.attributes ≡ n
        → ((e : Encoding) → fixed_width_of e a.form ≡ cond (nat_eq n 0) None (Some (total_width e w)))
        → KnowsWidths u s (xs ++ a ∷ [])
    by_count zero n full is width =
        let none : c ≡ 0 = omega (arith, count, full) in
        full_further xs a v u r s known full (none_added c w.bytes v.bytes u.bytes bytes none)
        (none_added c w.addresses v.addresses u.addresses addresses none)
        (none_added c w.offsets v.offsets u.offsets offsets none)
        (none_added c w.attributes v.attributes u.attributes attributes none) (omega (arith, room, none))
    by_count (suc k) zero some_room is width =
        let none : c ≡ 0 = omega (arith, count, is) in
        unknown_further xs a v u r s known width (none_added c w.bytes v.bytes u.bytes bytes none)
        (none_added c w.addresses v.addresses u.addresses addresses none)
        (none_added c w.offsets v.offsets u.offsets offsets none)
        (none_added c w.attributes v.attributes u.attributes attributes none) (omega (arith, room, none))
    by_count (suc k) (suc n) some_room is width =
        let one : c ≡ 1 = omega (arith, count, is, some_room, small) in
        let more = one_added c w.attributes v.attributes u.attributes attributes one in
        counted_further xs a v w u r s known (omega (arith, some_room)) (omega (arith, room, one, within))
        (λ e. width e ∙ ap (λ (b : Bool). cond b None (Some (total_width e w))) (eqb-suc-zero n))
        (one_added c w.bytes v.bytes u.bytes bytes one) (one_added c w.addresses v.addresses u.addresses addresses one)
        (one_added c w.offsets v.offsets u.offsets offsets one) (omega (arith, more, is, small))

-- ---- facts

-- with one more, whichever
pub facts_further : (xs : List Attribute) (a : Attribute) (f g : AttributeFacts) → KnowsRead f xs
    → know_ranges g ≡ (know_ranges f || is_of_ranges a.name)
    → (KnowsWidths (widths_in f.widths) f.room xs → KnowsWidths (widths_in g.widths) g.room (xs ++ a ∷ []))
    → KnowsRead g (xs ++ a ∷ [])
facts_further xs a f g known ranges widths = record {
  ranges = ranges ∙ ap (λ (b : Bool). b || is_of_ranges a.name) known.ranges ∙ sym (named_further xs a);
  widths = widths known.widths;
}

-- one of two
either_positive : (n m : ℕ) → nat_lt 0 (bit_or n m) ≡ (nat_lt 0 n || nat_lt 0 m)
either_positive zero zero = refl
either_positive zero (suc m) =
    let less = le_or_r 0 (suc m) in
    lt-ltb 0 (bit_or 0 (suc m)) (omega (arith, less)) ∙ sym (lt-ltb 0 (suc m) (omega arith))
either_positive (suc n) m =
    let less = le_or_l (suc n) m in
    lt-ltb 0 (bit_or (suc n) m) (omega (arith, less))
    ∙ sym (ap (λ (b : Bool). b || nat_lt 0 m) (lt-ltb 0 (suc n) (omega arith)))

number-positive : (b : Bool) → nat_lt 0 (bool_byte b) ≡ b
number-positive true = refl
number-positive false = refl

pub ranges_further : (n m : ℕ) (b : Bool) → m ≡ bool_byte b → nat_lt 0 (bit_or n m) ≡ (nat_lt 0 n || b)
ranges_further n m b is =
    either_positive n m
    ∙ ap (λ (d : Bool). nat_lt 0 n || d) (ap (nat_lt 0) is ∙ number-positive b)

-- ---- each sum fits in a byte

pub fits_further : (v w : FixedWidths) (r s c : ℕ) → FitWithMore r v → IsOfAtMostOne w → c ≡ min r w.attributes
    → s ≡ min (r - c) (c * 16) → FitWithMore s (sum_of_widths v c w)
fits_further v w r s c fits small count room = by_count c refl
  where
    by_count : (k : ℕ) → c ≡ k → FitWithMore s (sum_of_widths v k w)
    by_count zero none =
        (omega (arith, fits.0), omega (arith, fits.1), omega (arith, fits.2), omega (arith, fits.3, room, none))
    by_count (suc zero) one =
        let is : w.attributes ≡ 1 = omega (arith, small.0, count, one) in (
          omega (arith, fits.0, small.1, is),
          omega (arith, fits.1, small.2, is),
          omega (arith, fits.2, small.3, is),
          omega (arith, fits.3, room, one, is, count),
        )
    by_count (suc (suc k)) is = absurd (omega (arith, is, count, small.0))

pub fit_bytes : (w : FixedWidths) (s : ℕ) → FitWithMore s w → AreBytes w
fit_bytes w s fits = (
  omega (arith, fits.0, fits.3),
  omega (arith, fits.1, fits.3),
  omega (arith, fits.2, fits.3),
  omega (arith, fits.3),
)

-- ---- facts of more attributes

pub more_none : (f : AttributeFacts) → FitsInBytes f → KnowsMore f f []
more_none f fits = record {
  fits = fits;
  knows = λ before known. subst (KnowsRead f) (sym (append-nil before)) known;
}

pub more_further : (f g h : AttributeFacts) (xs ys zs : List Attribute) → KnowsMore f g xs → KnowsMore g h ys
    → zs ≡ xs ++ ys → KnowsMore f h zs
more_further f g h xs ys zs first next is = record {
  fits = next.fits;
  knows = λ before known.
      subst (KnowsRead h)
      (append_assoc before xs ys ∙ ap (λ (more : List Attribute). before ++ more) (sym is))
      (next.knows (before ++ xs) (first.knows before known));
}
