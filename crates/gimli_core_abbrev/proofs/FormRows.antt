-- The widths of one attribute of each form, and the table that has them.
use Rattle.std.proofs.Common.{◌≡◌, ℕ, zero, suc, ◌+◌, ◌*◌, ◌<◌, Bool, true, false, cond, ◌&&◌, List, [], ◌∷◌, length, slice_index_or, Option, Some, None, refl, ap, sym, subst, ◌∙◌, arith}
use Rattle.std.specs.Prelude.{nat_eq}
use Rattle.std.proofs.lemmas.Bool.{eqb-true, and_parts}
use Rattle.gimli_core_readers.specs.Encoding.{Encoding}
use Rattle.gimli_core_readers.specs.FormatSizes.{word_size}
use Rattle.gimli_core_readers.specs.TheConstants.{DW_FORM_addr, DW_FORM_ref_addr}
use Rattle.gimli_core_abbrev.specs.declared.widths.FixedWidths.{FixedWidths}
use Rattle.gimli_core_abbrev.specs.declared.widths.PackedWidths.{PackedWidths}
use Rattle.gimli_core_abbrev.specs.declared.widths.TheConstants.{OF_FORMS}
use Rattle.gimli_core_abbrev.specs.FormWidths.{is_one_of, forms_of_0, forms_of_1, forms_of_2, forms_of_3, forms_of_4, forms_of_8, forms_of_16, forms_of_offsets, fixed_width_of, ref_addr_width, width_of_one, widths_in, IsOfAtMostOne}

of_counts : ℕ → ℕ → ℕ → ℕ → FixedWidths
of_counts n addresses offsets attributes =
    record { bytes = n; addresses = addresses; offsets = offsets; attributes = attributes }

unknown : FixedWidths
unknown = of_counts 0 0 0 0

-- those of one attribute of a form
of_form : ℕ → FixedWidths
of_form form =
    cond (nat_eq form DW_FORM_ref_addr.0) unknown
    (cond (nat_eq form DW_FORM_addr.0) (of_counts 0 1 0 1)
    (cond (is_one_of forms_of_offsets form) (of_counts 0 0 1 1)
    (cond (is_one_of forms_of_0 form) (of_counts 0 0 0 1)
    (cond (is_one_of forms_of_1 form) (of_counts 1 0 0 1)
    (cond (is_one_of forms_of_2 form) (of_counts 2 0 0 1)
    (cond (is_one_of forms_of_3 form) (of_counts 3 0 0 1)
    (cond (is_one_of forms_of_4 form) (of_counts 4 0 0 1)
    (cond (is_one_of forms_of_8 form) (of_counts 8 0 0 1)
    (cond (is_one_of forms_of_16 form) (of_counts 16 0 0 1) unknown)))))))))

abbrev some : ℕ → Option ℕ
some n = Some n

plain : (n a o : ℕ) → some n ≡ some (n + 0 * a + 0 * o)
plain n a o = let is : n ≡ n + 0 * a + 0 * o = omega arith in ap some is

of_form-width : (e : Encoding) (form : ℕ) → fixed_width_of e form ≡ width_of_one e (of_form form)
unfolding of_form of_counts unknown
of_form-width e form =
    by_tests (nat_eq form DW_FORM_ref_addr.0) (nat_eq form DW_FORM_addr.0) (is_one_of forms_of_offsets form)
    (is_one_of forms_of_0 form) (is_one_of forms_of_1 form) (is_one_of forms_of_2 form) (is_one_of forms_of_3 form)
    (is_one_of forms_of_4 form) (is_one_of forms_of_8 form) (is_one_of forms_of_16 form)
  where
    a : ℕ
    a = e.address_size

    o : ℕ
    o = word_size e.format

    by_tests : (r d f n0 n1 n2 n3 n4 n8 n16 : Bool)
        → cond r None (cond d (Some a) (cond r (Some (ref_addr_width e)) (cond f (Some o) (cond n0 (Some 0)
        (cond n1 (Some 1) (cond n2 (Some 2) (cond n3 (Some 3) (cond n4 (Some 4) (cond n8 (Some 8)
        (cond n16 (Some 16) None))))))))))
        ≡ width_of_one e (cond r unknown (cond d (of_counts 0 1 0 1) (cond f (of_counts 0 0 1 1)
        (cond n0 (of_counts 0 0 0 1) (cond n1 (of_counts 1 0 0 1) (cond n2 (of_counts 2 0 0 1)
        (cond n3 (of_counts 3 0 0 1) (cond n4 (of_counts 4 0 0 1) (cond n8 (of_counts 8 0 0 1)
        (cond n16 (of_counts 16 0 0 1) unknown))))))))))
    by_tests true d f n0 n1 n2 n3 n4 n8 n16 = refl
    by_tests false true f n0 n1 n2 n3 n4 n8 n16 = let is : a ≡ 0 + 1 * a + 0 * o = omega arith in ap some is
    by_tests false false true n0 n1 n2 n3 n4 n8 n16 = let is : o ≡ 0 + 0 * a + 1 * o = omega arith in ap some is
    by_tests false false false true n1 n2 n3 n4 n8 n16 = plain 0 a o
    by_tests false false false false true n2 n3 n4 n8 n16 = plain 1 a o
    by_tests false false false false false true n3 n4 n8 n16 = plain 2 a o
    by_tests false false false false false false true n4 n8 n16 = plain 3 a o
    by_tests false false false false false false false true n8 n16 = plain 4 a o
    by_tests false false false false false false false false true n16 = plain 8 a o
    by_tests false false false false false false false false false true = plain 16 a o
    by_tests false false false false false false false false false false = refl

-- ---- the table

is_same : FixedWidths → FixedWidths → Bool
is_same v w =
    nat_eq v.bytes w.bytes && (nat_eq v.addresses w.addresses
    && (nat_eq v.offsets w.offsets && nat_eq v.attributes w.attributes))

same-true : (v w : FixedWidths) → is_same v w ≡ true → v ≡ w
unfolding is_same of_counts
same-true v w h =
    let p = and_parts _ _ h in
    let q = and_parts _ _ p.1 in
    let r = and_parts _ _ q.1 in
    let bytes : v.bytes ≡ w.bytes = eqb-true v.bytes w.bytes p.0 in
    let addresses : v.addresses ≡ w.addresses = eqb-true v.addresses w.addresses q.0 in
    let offsets : v.offsets ≡ w.offsets = eqb-true v.offsets w.offsets r.0 in
    let attributes : v.attributes ≡ w.attributes = eqb-true v.attributes w.attributes r.1 in
    ap (λ (n : ℕ). of_counts n v.addresses v.offsets v.attributes) bytes
    ∙ ap (λ (n : ℕ). of_counts w.bytes n v.offsets v.attributes) addresses
    ∙ ap (λ (n : ℕ). of_counts w.bytes w.addresses n v.attributes) offsets
    ∙ ap (λ (n : ℕ). of_counts w.bytes w.addresses w.offsets n) attributes

-- each row is that of its form, and of at most one attribute
are_rows : ℕ → List PackedWidths → Bool
are_rows k [] = true
are_rows k (w ∷ ws) = is_same (widths_in w) (of_form k) && are_rows (suc k) ws

row : (k i : ℕ) (ws : List PackedWidths) (d : PackedWidths) → are_rows k ws ≡ true → i < length ws
    → widths_in (slice_index_or ws i d) ≡ of_form (k + i)
unfolding are_rows
row k i [] d h less = absurd (omega (arith, less))
row k zero (w ∷ ws) d h less = same-true (widths_in w) (of_form k) (and_parts _ _ h).0 ∙ ap of_form (omega arith)
row k (suc i) (w ∷ ws) d h less =
    row (suc k) i ws d (and_parts _ _ h).1 (omega (arith, less)) ∙ ap of_form (omega arith)

rows_hold : are_rows 0 OF_FORMS ≡ true
unfolding are_rows is_same of_form of_counts unknown
rows_hold = refl

of_row : (i : ℕ) (d : PackedWidths) → i < 45 → widths_in (slice_index_or OF_FORMS i d) ≡ of_form i
of_row i d less = row 0 i OF_FORMS d rows_hold less ∙ ap of_form (omega arith)

pub row-width : (e : Encoding) (i : ℕ) (d : PackedWidths) → i < 45
    → fixed_width_of e i ≡ width_of_one e (widths_in (slice_index_or OF_FORMS i d))
row-width e i d less = of_form-width e i ∙ ap (width_of_one e) (sym (of_row i d less))

of_form-small : (form : ℕ) → IsOfAtMostOne (of_form form)
unfolding of_form of_counts unknown
of_form-small form =
    by_tests (nat_eq form DW_FORM_ref_addr.0) (nat_eq form DW_FORM_addr.0) (is_one_of forms_of_offsets form)
    (is_one_of forms_of_0 form) (is_one_of forms_of_1 form) (is_one_of forms_of_2 form) (is_one_of forms_of_3 form)
    (is_one_of forms_of_4 form) (is_one_of forms_of_8 form) (is_one_of forms_of_16 form)
  where
    none : IsOfAtMostOne unknown
    none = (omega arith, omega arith, omega arith, omega arith)

    by_tests : (r d f n0 n1 n2 n3 n4 n8 n16 : Bool)
        → IsOfAtMostOne (cond r unknown (cond d (of_counts 0 1 0 1) (cond f (of_counts 0 0 1 1)
        (cond n0 (of_counts 0 0 0 1) (cond n1 (of_counts 1 0 0 1) (cond n2 (of_counts 2 0 0 1)
        (cond n3 (of_counts 3 0 0 1) (cond n4 (of_counts 4 0 0 1) (cond n8 (of_counts 8 0 0 1)
        (cond n16 (of_counts 16 0 0 1) unknown))))))))))
    by_tests true d f n0 n1 n2 n3 n4 n8 n16 = none
    by_tests false true f n0 n1 n2 n3 n4 n8 n16 = (omega arith, omega arith, omega arith, omega arith)
    by_tests false false true n0 n1 n2 n3 n4 n8 n16 = (omega arith, omega arith, omega arith, omega arith)
    by_tests false false false true n1 n2 n3 n4 n8 n16 = (omega arith, omega arith, omega arith, omega arith)
    by_tests false false false false true n2 n3 n4 n8 n16 = (omega arith, omega arith, omega arith, omega arith)
    by_tests false false false false false true n3 n4 n8 n16 = (omega arith, omega arith, omega arith, omega arith)
    by_tests false false false false false false true n4 n8 n16 = (omega arith, omega arith, omega arith, omega arith)
    by_tests false false false false false false false true n8 n16 =
        (omega arith, omega arith, omega arith, omega arith)
    by_tests false false false false false false false false true n16 =
        (omega arith, omega arith, omega arith, omega arith)
    by_tests false false false false false false false false false true =
        (omega arith, omega arith, omega arith, omega arith)
    by_tests false false false false false false false false false false = none

pub row-small : (i : ℕ) (d : PackedWidths) → i < 45 → IsOfAtMostOne (widths_in (slice_index_or OF_FORMS i d))
row-small i d less = subst IsOfAtMostOne (sym (of_row i d less)) (of_form-small i)
