-- The way past a value has the width that the form alone says, and no width where it says none.
use Rattle.std.proofs.Common.{◌≡◌, ◌≢◌, ℕ, Bool, true, false, cond, ◌||◌, eqb, List, [], ◌∷◌, Option, Some, None, refl, sym, subst, ◌∙◌}
use Rattle.std.proofs.lemmas.Bool.{eqb-true}
use Rattle.gimli_core_abbrev.specs.Encoding.{Encoding}
use Rattle.gimli_core_abbrev.specs.FormatSizes.{word_size}
use Rattle.gimli_core_abbrev.specs.FormWidths.{width_of, ref_addr_width, is_one_of, forms_of_offsets, forms_of_0, forms_of_1, forms_of_2, forms_of_3, forms_of_4, forms_of_8, forms_of_16}
use Rattle.gimli_units_forms.specs.declared.spelling.Spelling.{Spelling}
use Rattle.gimli_units_forms.specs.declared.spelling.Spelling.TheVariants.{Address, Fixed, Sixteen, Block, LongBlock, Unsigned, Signed, Text, Indirect, Constant, Unknown}
use Rattle.gimli_units_forms.specs.FormSpellings.{spelling, spelling_in, spellings}
use Rattle.gimli_units_forms.specs.AttributeSkipping.{Way, by_width, by_look, plain_way, look_at_value, way_of}

-- the width of a way without a look
abbrev pub width_in : Way → Option ℕ
width_in (by_width n) = Some n
width_in (by_look look) = None

-- ---- forms that say a width

-- the proofs for a list's elements, one after the other
infixr 5 ◌&◌
◌&◌ : {A B : Type 0} → A → B → A × B
a & b = (a, b)

abbrev Each : (ℕ → Type 0) → List ℕ → Type 0
Each P [] = Unit {0}
Each P (f ∷ fs) = P f × (Each P fs)

-- what holds of each form of a list holds of one that is in it
one_of : (P : ℕ → Type 0) (fs : List ℕ) (form : ℕ) → Each P fs → is_one_of fs form ≡ true → P form
one_of P [] form each h = absurd cc
one_of P (f ∷ fs) form each h = by_test (eqb f form) refl (one_of P fs form each.1) h
  where
    by_test : (b : Bool) → eqb f form ≡ b → (is_one_of fs form ≡ true → P form)
        → (b || is_one_of fs form) ≡ true → P form
    by_test true e other k = subst P (eqb-true f form e) each.0
    by_test false e other k = other k

abbrev HasWidth : Encoding → ℕ → ℕ → Type 0
HasWidth e m form = width_in (plain_way e form (spelling e form)) ≡ Some m

each_0 : (e : Encoding) → Each (HasWidth e 0) forms_of_0
unfolding spelling
each_0 e = refl & refl & tt

each_1 : (e : Encoding) → Each (HasWidth e 1) forms_of_1
unfolding spelling
each_1 e = refl & refl & refl & refl & refl & tt

each_2 : (e : Encoding) → Each (HasWidth e 2) forms_of_2
unfolding spelling
each_2 e = refl & refl & refl & refl & tt

each_3 : (e : Encoding) → Each (HasWidth e 3) forms_of_3
unfolding spelling
each_3 e = refl & refl & tt

each_4 : (e : Encoding) → Each (HasWidth e 4) forms_of_4
unfolding spelling
each_4 e = refl & refl & refl & refl & refl & tt

each_8 : (e : Encoding) → Each (HasWidth e 8) forms_of_8
unfolding spelling
each_8 e = refl & refl & refl & refl & tt

each_16 : (e : Encoding) → Each (HasWidth e 16) forms_of_16
unfolding spelling
each_16 e = refl & tt

each_offset : (e : Encoding) → Each (HasWidth e (word_size e.format)) forms_of_offsets
unfolding spelling
each_offset e = refl & refl & refl & refl & refl & refl & tt

address_width : (e : Encoding) → HasWidth e e.address_size 0x01
unfolding spelling
address_width e = refl

reference_width : (e : Encoding) → HasWidth e (ref_addr_width e) 0x10
unfolding spelling
reference_width e = by_test (eqb e.version 2)
  where
    by_test : (b : Bool) → width_in (plain_way e 0x10 (cond b Address (Fixed (word_size e.format))))
        ≡ Some (cond b e.address_size (word_size e.format))
    by_test true = refl
    by_test false = refl

-- one of two widths, by a test
width_by : (e : Encoding) (form m k : ℕ) (b : Bool) (rest : Option ℕ) → (b ≡ true → HasWidth e k form)
    → (rest ≡ Some m → HasWidth e m form) → cond b (Some k) rest ≡ Some m → HasWidth e m form
width_by e form m k true rest here there h = here refl ∙ h
width_by e form m k false rest here there h = there h

none_width : (e : Encoding) (form m : ℕ) → None ≡ Some m → HasWidth e m form
none_width e form m h = absurd cc

-- the width that a form says is that of what it spells
form_has_width : (e : Encoding) (form m : ℕ) → width_of e form ≡ Some m → HasWidth e m form
form_has_width e form m =
    width_by e form m e.address_size (eqb form 0x01) _
    (λ t. subst (HasWidth e e.address_size) (sym (eqb-true form 0x01 t)) (address_width e))
    (width_by e form m (ref_addr_width e) (eqb form 0x10) _
    (λ t. subst (HasWidth e (ref_addr_width e)) (sym (eqb-true form 0x10 t)) (reference_width e))
    (width_by e form m (word_size e.format) (is_one_of forms_of_offsets form) _
    (one_of (HasWidth e (word_size e.format)) forms_of_offsets form (each_offset e))
    (width_by e form m 0 (is_one_of forms_of_0 form) _ (one_of (HasWidth e 0) forms_of_0 form (each_0 e))
    (width_by e form m 1 (is_one_of forms_of_1 form) _ (one_of (HasWidth e 1) forms_of_1 form (each_1 e))
    (width_by e form m 2 (is_one_of forms_of_2 form) _ (one_of (HasWidth e 2) forms_of_2 form (each_2 e))
    (width_by e form m 3 (is_one_of forms_of_3 form) _ (one_of (HasWidth e 3) forms_of_3 form (each_3 e))
    (width_by e form m 4 (is_one_of forms_of_4 form) _ (one_of (HasWidth e 4) forms_of_4 form (each_4 e))
    (width_by e form m 8 (is_one_of forms_of_8 form) _ (one_of (HasWidth e 8) forms_of_8 form (each_8 e))
    (width_by e form m 16 (is_one_of forms_of_16 form) _ (one_of (HasWidth e 16) forms_of_16 form (each_16 e))
    (none_width e form m))))))))))

-- ---- forms that say none

-- the spelling in a row has the width that its form says
abbrev RowAgrees : Encoding → ℕ × Spelling → Type 0
RowAgrees e row = width_in (plain_way e row.0 row.1) ≡ width_of e row.0

abbrev RowsAgree : Encoding → List (ℕ × Spelling) → Type 0
RowsAgree e [] = Unit {0}
RowsAgree e (row ∷ rows) = RowAgrees e row × (RowsAgree e rows)

rows_agree : (e : Encoding) → RowsAgree e (spellings e)
unfolding spelling
rows_agree e =
    refl & refl & refl & refl & refl & refl & refl & refl & refl & refl & refl & refl & refl & refl &
    reference_width e & refl & refl & refl & refl & refl & refl & refl & refl & refl & refl & refl & refl & refl &
    refl & refl & refl & refl & refl & refl & refl & refl & refl & refl & refl & refl & refl & refl & refl & refl &
    refl & refl & refl & tt

-- a width that a form spells is the one that it says
row_width : (e : Encoding) (rows : List (ℕ × Spelling)) (form m : ℕ) → RowsAgree e rows
    → width_in (plain_way e form (spelling_in rows form)) ≡ Some m → width_of e form ≡ Some m
row_width e [] form m agree h = absurd cc
row_width e (row ∷ rows) form m agree h =
    by_test (eqb form row.0) refl h (row_width e rows form m agree.1)
  where
    by_test : (b : Bool) → eqb form row.0 ≡ b
        → width_in (plain_way e form (cond b row.1 (spelling_in rows form))) ≡ Some m
        → (width_in (plain_way e form (spelling_in rows form)) ≡ Some m → width_of e form ≡ Some m)
        → width_of e form ≡ Some m
    by_test true is k others =
        sym (subst (λ (n : ℕ). width_in (plain_way e n row.1) ≡ width_of e n) (sym (eqb-true form row.0 is)) agree.0)
        ∙ k
    by_test false is k others = others k

-- ---- every form

abbrev no_width : Option ℕ
no_width = None

abbrev some : ℕ → Option ℕ
some n = Some n

-- what a form spells has the width that the form says
pub spelled_width : (e : Encoding) (form : ℕ) (s : Spelling) → s ≡ spelling e form
    → width_in (plain_way e form s) ≡ width_of e form
unfolding spelling
spelled_width e form s is =
    subst (λ (t : Spelling). width_in (plain_way e form t) ≡ width_of e form) (sym is)
    (by (width_of e form) refl (width_in (plain_way e form (spelling e form))) refl)
  where
    by : (o : Option ℕ) → width_of e form ≡ o → (p : Option ℕ)
        → width_in (plain_way e form (spelling e form)) ≡ p → p ≡ o
    by (Some m) says p spelled = sym spelled ∙ form_has_width e form m says
    by None says None spelled = refl
    by None says (Some m) spelled =
        let clash : no_width ≡ some m = sym says ∙ row_width e (spellings e) form m (rows_agree e) spelled in absurd cc

-- none where it spells neither an address nor a number of a known width
pub look_width : (e : Encoding) (form : ℕ) (s : Spelling) → s ≡ spelling e form → s ≢ Address
    → ((w : ℕ) → s ≢ Fixed w) → s ≢ Sixteen → s ≢ Constant → no_width ≡ width_of e form
look_width e form Address is a f x c = absurd (a refl)
look_width e form (Fixed w) is a f x c = absurd (f w refl)
look_width e form Sixteen is a f x c = absurd (x refl)
look_width e form Constant is a f x c = absurd (c refl)
look_width e form (Block w) is a f x c = spelled_width e form (Block w) is
look_width e form LongBlock is a f x c = spelled_width e form LongBlock is
look_width e form Unsigned is a f x c = spelled_width e form Unsigned is
look_width e form Signed is a f x c = spelled_width e form Signed is
look_width e form Text is a f x c = spelled_width e form Text is
look_width e form Indirect is a f x c = spelled_width e form Indirect is
look_width e form Unknown is a f x c = spelled_width e form Unknown is

-- and so has the way past its value
pub way_width : (e : Encoding) (form : ℕ) → width_in (way_of e form) ≡ width_of e form
unfolding way_of
way_width e form = by_test (eqb form 0x16) refl
  where
    by_test : (b : Bool) → eqb form 0x16 ≡ b
        → width_in (cond b (by_look (look_at_value e form)) (plain_way e form (spelling e form))) ≡ width_of e form
    by_test true is = subst (λ (n : ℕ). no_width ≡ width_of e n) (sym (eqb-true form 0x16 is)) refl
    by_test false is = spelled_width e form (spelling e form) refl
