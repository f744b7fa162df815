-- What is read is skipped too: the way past a value leads where reading it leads.
use Rattle.std.proofs.Common.{◌≡◌, ℕ, ℤ, zero, suc, ◌+◌, ◌^◌, Bool, true, false, cond, eqb, ltb, List, [], ◌∷◌, length, take, Option, Some, None, option_map, Result, Ok, Err, refl, sym, ap, subst, ◌∙◌}
use Rattle.std.specs.Prelude.{map}
use Rattle.std.specs.Option.{ok_or}
use Rattle.gimli_core_abbrev.specs.Error.{Error}
use Rattle.gimli_core_abbrev.specs.Error.TheVariants.{InvalidImplicitConst, UnsupportedOffset, BadUnsignedLeb128, BadSignedLeb128}
use Rattle.gimli_core_abbrev.specs.View.{View, after}
use Rattle.gimli_core_abbrev.specs.Parsers.{Parser, proceed, give, lift, part, some_or, null_terminated, ◌>>=◌}
use Rattle.gimli_core_abbrev.proofs.StepParts.{begins, value_is, state_is, lift-Ok, read}
use Rattle.gimli_core_abbrev.specs.Encoding.{Encoding}
use Rattle.gimli_core_abbrev.specs.Declarations.{Attribute}
use Rattle.gimli_core_abbrev.specs.Fault.TheVariants.{Cut, Bad}
use Rattle.gimli_core_abbrev.specs.Leb128.{leb_string, unsigned_number, signed_number, unsigned_of, signed_of, fits_i64}
use Rattle.gimli_core_abbrev.specs.NumberParsers.{fixed, unsigned, signed, skip_leb, address, offset_below, number_and_rest, rest_after_string}
use Rattle.gimli_units_forms.specs.declared.spelling.Spelling.{Spelling}
use Rattle.gimli_units_forms.specs.declared.spelling.Spelling.TheVariants.{Address, Fixed, Sixteen, Block, LongBlock, Unsigned, Signed, Text, Indirect, Constant, Unknown}
use Rattle.gimli_units_forms.specs.FormSpellings.{spelling}
use Rattle.gimli_units_forms.specs.AttributeValues.{RawValue, RawAttribute, data_16, signed_data, string}
use Rattle.gimli_units_forms.specs.AttributeReading.{final_form, bytes_by_length, number_value, bytes_value, spelled_value, value, attribute, attributes}
use Rattle.gimli_units_forms.specs.AttributeSkipping.{Way, by_width, by_look, look_of, plain_way, look_at_value, way_of, run, skip_ways, skip_values}
use Rattle.gimli_units_forms.proofs.FinalFormLemmas.{final_form-other}
use Rattle.gimli_units_forms.proofs.RunLemmas.{leaves, run-run, run-zero, part-run, fixed-run, address-run}

more_string : (b : ℕ) (s : List ℕ) (o whole : Option (List ℕ)) → ((r : List ℕ) → o ≡ Some r → whole ≡ Some r)
    → option_map (λ (r : List ℕ). b ∷ r) o ≡ Some s → option_map (λ (r : List ℕ). b ∷ r) whole ≡ Some s
more_string b s None whole k h = absurd cc
more_string b s (Some r) whole k h = ap (option_map (λ (x : List ℕ). b ∷ x)) (k r refl) ∙ h

-- the string that the first bytes begin with is the one that all bytes begin with
string_at-take : (k : ℕ) (bytes s : List ℕ) → leb_string (take k bytes) ≡ Some s → leb_string bytes ≡ Some s
string_at-take zero bytes s e = absurd cc
string_at-take (suc k) [] s e = absurd cc
string_at-take (suc k) (b ∷ bs) s e = by_test (ltb b 128) (λ r p. string_at-take k bs r p) e
  where
    by_test : (t : Bool) → ((r : List ℕ) → leb_string (take k bs) ≡ Some r → leb_string bs ≡ Some r)
        → cond t (Some (b ∷ [])) (option_map (λ (r : List ℕ). b ∷ r) (leb_string (take k bs))) ≡ Some s
        → cond t (Some (b ∷ [])) (option_map (λ (r : List ℕ). b ∷ r) (leb_string bs)) ≡ Some s
    by_test true k' h = h
    by_test false k' h = more_string b s (leb_string (take k bs)) (leb_string bs) k' h

-- the first string is skipped
skip-string : (v w : View) (s : List ℕ) → leb_string (take 10 v.bytes) ≡ Some s → after (length s) v ≡ w
    → skip_leb v ≡ leaves w
unfolding skip_leb
skip-string v w s e h = ap (rest_after_string v) (string_at-take 10 v.bytes s e) ∙ ap leaves h

unsigned-skip : (n : ℕ) (v w : View) → unsigned v ≡ Ok (n, w) → skip_leb v ≡ leaves w
unfolding unsigned
unsigned-skip n v w e = by_string (leb_string (take 10 v.bytes)) refl e
  where
    by_test : (s : List ℕ) → leb_string (take 10 v.bytes) ≡ Some s → (t : Bool)
        → number_and_rest BadUnsignedLeb128 v (cond t (Ok (unsigned_number s, length s)) (Err Bad)) ≡ read n w
        → skip_leb v ≡ leaves w
    by_test s p true h = skip-string v w s p (state_is (unsigned_number s) n _ _ h)
    by_test s p false h = absurd cc

    by_string : (o : Option (List ℕ)) → leb_string (take 10 v.bytes) ≡ o
        → number_and_rest BadUnsignedLeb128 v (unsigned_of (2 ^ 64) (ok_or o (cond (ltb (length v.bytes) 10) Cut Bad)))
        ≡ read n w → skip_leb v ≡ leaves w
    by_string None p h = absurd cc
    by_string (Some s) p h = by_test s p (ltb (unsigned_number s) (2 ^ 64)) h

signed-skip : (n : ℤ) (v w : View) → signed v ≡ Ok (n, w) → skip_leb v ≡ leaves w
unfolding signed
signed-skip n v w e = by_string (leb_string (take 10 v.bytes)) refl e
  where
    by_test : (s : List ℕ) → leb_string (take 10 v.bytes) ≡ Some s → (t : Bool)
        → number_and_rest BadSignedLeb128 v (cond t (Ok (signed_number s, length s)) (Err Bad)) ≡ read n w
        → skip_leb v ≡ leaves w
    by_test s p true h = skip-string v w s p (state_is (signed_number s) n _ _ h)
    by_test s p false h = absurd cc

    by_string : (o : Option (List ℕ)) → leb_string (take 10 v.bytes) ≡ o
        → number_and_rest BadSignedLeb128 v (signed_of (ok_or o (cond (ltb (length v.bytes) 10) Cut Bad))) ≡ read n w
        → skip_leb v ≡ leaves w
    by_string None p h = absurd cc
    by_string (Some s) p h = by_test s p (fits_i64 (signed_number s)) h

-- ---- one value

-- The way past a value leads from v to w: as a run, or as a look and the run that it returns.
abbrev pub Leads : Way → View → View → Type 0
Leads (by_width n) v w = run n v ≡ leaves w
Leads (by_look look) v w = (n : ℕ) × (u : View) × (look v ≡ Ok (n, u)) × (run n u ≡ leaves w)

-- a part that was lifted moved nothing
lift-value : {A B : Type 0} (f : A → Result B Error) (r : Result (A × View) Error) (x : B) (w : View)
    → proceed r (λ n. lift (f n)) ≡ Ok (x, w) → (n : A) × (r ≡ Ok (n, w))
lift-value {A} {B} f r x w e =
    let b = begins r (λ n. lift (f n)) x w e in
    let l = lift-Ok (f b.0) b.1 x w b.3 in
    (b.0, b.2 ∙ ap (λ (t : View). read b.0 t) (sym l.1))

-- a value that was mapped moved as before
map-value : {A B : Type 0} (f : A → B) (r : Result (A × View) Error) (x : B) (w : View)
    → proceed r (λ n. give (f n)) ≡ Ok (x, w) → (n : A) × (r ≡ Ok (n, w))
map-value {A} {B} f r x w e =
    let b = begins r (λ n. give (f n)) x w e in
    (b.0, b.2 ∙ ap (λ (t : View). read b.0 t) (state_is (f b.0) x b.1 w b.3))

-- an offset is its number
offset_is : (limit n o : ℕ) → offset_below limit n ≡ Ok o → n ≡ o
offset_is limit n o e = by_test (ltb n limit) e
  where
    by_test : (t : Bool) → cond t (Ok n) (Err UnsupportedOffset) ≡ Ok o → n ≡ o
    by_test true h = cc
    by_test false h = absurd cc

-- a length and its bytes
bytes_by_length-leads : (limit : ℕ) (field : Parser ℕ) (v p w : View) → bytes_by_length limit field v ≡ Ok (p, w)
    → Leads (by_look field) v w
unfolding bytes_by_length
bytes_by_length-leads limit field v p w e =
    let a = begins (field v) (λ n. lift (offset_below limit n) >>= part) p w e in
    let b = begins (lift (offset_below limit a.0) a.1) part p w a.3 in
    let l = lift-Ok (offset_below limit a.0) a.1 b.0 b.1 b.2 in
    let same : a.0 ≡ b.0 = offset_is limit a.0 b.0 l.0 in
    let whole : run b.0 b.1 ≡ leaves w = part-run b.0 b.1 p w b.3 in
    (a.0, a.1, a.2, ap (λ (k : ℕ). run k a.1) same ∙ ap (run b.0) (sym l.1) ∙ whole)

-- the way past what is spelled leads where reading it leads
pub spelled_value-leads : (limit : ℕ) (e : Encoding) (name form : ℕ) (constant : Option ℤ) (s : Spelling) (v : View)
    (x : RawValue) (w : View)
    → spelled_value limit e name form constant s v ≡ Ok (x, w) → Leads (plain_way e form s) v w
spelled_value-leads limit e name form constant Address v x w h =
    let n = lift-value (number_value limit e name form) (address e.address_size v) x w h in
    address-run e.address_size n.0 v w n.1
spelled_value-leads limit e name form constant (Fixed width) v x w h =
    let n = lift-value (number_value limit e name form) (fixed width v) x w h in fixed-run width n.0 v w n.1
spelled_value-leads limit e name form constant Sixteen v x w h =
    let n = map-value data_16 (fixed 16 v) x w h in fixed-run 16 n.0 v w n.1
spelled_value-leads limit e name form constant (Block width) v x w h =
    let n = map-value (bytes_value form) (bytes_by_length limit (fixed width) v) x w h in
    bytes_by_length-leads limit (fixed width) v n.0 w n.1
spelled_value-leads limit e name form constant LongBlock v x w h =
    let n = map-value (bytes_value form) (bytes_by_length limit unsigned v) x w h in
    bytes_by_length-leads limit unsigned v n.0 w n.1
spelled_value-leads limit e name form constant Unsigned v x w h =
    let n = lift-value (number_value limit e name form) (unsigned v) x w h in
    (0, w, ap (λ (r : Result (Unit {0} × View) Error). proceed r (λ _. give 0)) (unsigned-skip n.0 v w n.1), run-zero w)
spelled_value-leads limit e name form constant Signed v x w h =
    let n = map-value signed_data (signed v) x w h in
    (0, w, ap (λ (r : Result (Unit {0} × View) Error). proceed r (λ _. give 0)) (signed-skip n.0 v w n.1), run-zero w)
spelled_value-leads limit e name form constant Text v x w h =
    let n = map-value string (null_terminated v) x w h in
    (0, w, ap (λ (r : Result (View × View) Error). proceed (proceed r (λ _. give tt)) (λ _. give 0)) n.1, run-zero w)
spelled_value-leads limit e name form constant Constant v x w h =
    let n = map-value signed_data (some_or InvalidImplicitConst constant v) x w h in
    run-zero v ∙ ap leaves (some_moves constant n.0 n.1)
  where
    some_moves : (o : Option ℤ) (n : ℤ) → some_or InvalidImplicitConst o v ≡ Ok (n, w) → v ≡ w
    some_moves (Some c) n k = state_is c n v w k
    some_moves None n k = absurd cc
spelled_value-leads limit e name form constant Indirect v x w h = absurd cc
spelled_value-leads limit e name form constant Unknown v x w h = absurd cc

-- ---- one attribute

-- looking along a way leads where it leads
pub look-leads : (way : Way) (v w : View) → Leads way v w
    → (n : ℕ) × (u : View) × (look_of way v ≡ Ok (n, u)) × (run n u ≡ leaves w)
look-leads (by_width n) v w h = (n, v, refl, h)
look-leads (by_look look) v w h = h

-- an attribute by its parts
abbrev attribute_by : ℕ → ℕ → RawValue → RawAttribute
attribute_by name form x = record { name = name; form = form; value = x }

-- the way past a form leads where the way past the form that it stands for leads
way-leads : (e : Encoding) (form final : ℕ) (v u w : View) → final_form form v ≡ Ok (final, u)
    → Leads (plain_way e final (spelling e final)) u w → Leads (way_of e form) v w
unfolding way_of look_at_value
way-leads e form final v u w h plain = by_test (eqb form 0x16) refl
  where
    by_test : (t : Bool) → eqb form 0x16 ≡ t
        → Leads (cond t (by_look (look_at_value e form)) (plain_way e form (spelling e form))) v w
    by_test true t =
        let l = look-leads (plain_way e final (spelling e final)) u w plain in (
          l.0,
          l.1,
          ap (λ (r : Result (ℕ × View) Error). proceed r (λ f. look_of (plain_way e f (spelling e f)))) h
              ∙ l.2,
          l.3,
        )
    by_test false t =
        let same = sym (final_form-other form v t) ∙ h in
        let form_is : form ≡ final = value_is form final v u same in
        let view_is : v ≡ u = state_is form final v u same in
        subst (λ (x : View). Leads (plain_way e form (spelling e form)) x w) (sym view_is)
        (subst (λ (f : ℕ). Leads (plain_way e f (spelling e f)) u w) (sym form_is) plain)

-- the way past an attribute leads where reading it leads
pub attribute-leads : (limit : ℕ) (e : Encoding) (s : Attribute) (v : View) (a : RawAttribute) (w : View)
    → attribute limit e s v ≡ Ok (a, w) → Leads (way_of e s.form) v w
unfolding attribute value
attribute-leads limit e s v a w h =
    let b = begins (final_form s.form v)
    (λ form. value limit e s.name s.implicit_const form
    >>= λ x. give (record { name = s.name; form = form; value = x })) a w h in
    let x = map-value (λ y. attribute_by s.name b.0 y) (value limit e s.name s.implicit_const b.0 b.1) a w b.3 in
    way-leads e s.form b.0 v b.1 w b.2
    (spelled_value-leads limit e s.name b.0 s.implicit_const (spelling e b.0) b.1 x.0 w x.1)

-- ---- attributes

-- where ways lead, they are skipped
skip_ways-leads : (n : ℕ) (way : Way) (ways : List Way) (u v w : View) (answer : Result (Unit {0} × View) Error)
    → run n u ≡ leaves v → Leads way v w
    → ((m : ℕ) (t : View) → run m t ≡ leaves w → skip_ways m ways t ≡ answer) → skip_ways n (way ∷ ways) u ≡ answer
unfolding skip_ways
skip_ways-leads n (by_width m) ways u v w answer r l k = k (n + m) u (run-run n m u v w r l)
skip_ways-leads n (by_look look) ways u v w answer r l k =
    ap (λ (x : Result (Unit {0} × View) Error). proceed x (λ _ s. proceed (look s) (λ more. skip_ways more ways))) r
    ∙ ap (λ (x : Result (ℕ × View) Error). proceed x (λ more. skip_ways more ways)) l.2
    ∙ k l.0 l.1 l.3

attributes-skip_ways : (limit : ℕ) (e : Encoding) (ss : List Attribute) (n : ℕ) (u v : View) (all : List RawAttribute)
    (w : View)
    → run n u ≡ leaves v → attributes limit e ss v ≡ Ok (all, w)
    → skip_ways n (map (λ s. way_of e s.form) ss) u ≡ leaves w
unfolding attributes skip_ways
attributes-skip_ways limit e [] n u v all w r h = r ∙ ap leaves (state_is [] all v w h)
attributes-skip_ways limit e (s ∷ ss) n u v all w r h =
    let b = begins (attribute limit e s v) (λ a. attributes limit e ss >>= λ rest. give (a ∷ rest)) all w h in
    let rest = map-value (λ more. b.0 ∷ more) (attributes limit e ss b.1) all w b.3 in
    skip_ways-leads n (way_of e s.form) (map (λ s'. way_of e s'.form) ss) u v b.1 (leaves w) r
    (attribute-leads limit e s v b.0 b.1 b.2)
    (λ m t k. attributes-skip_ways limit e ss m t b.1 rest.0 w k rest.1)

-- what is read is skipped, and leaves the same
pub skip_values-attributes : (limit : ℕ) (e : Encoding) (ss : List Attribute) (v w : View) (all : List RawAttribute)
    → attributes limit e ss v ≡ Ok (all, w) → skip_values e ss v ≡ leaves w
unfolding skip_values
skip_values-attributes limit e ss v w all h = attributes-skip_ways limit e ss 0 v v all w (run-zero v) h
