-- The form after indirect ones: each number of a form takes a byte, so counting bytes never ends the search early.
use Rattle.std.proofs.Common.{◌≡◌, ℕ, zero, suc, ◌+◌, ◌<◌, ◌≤◌, true, false, cond, eqb, List, ◌∷◌, get_or, drop, Result, Ok, Err, refl, sym, ap, ◌∙◌, arith}
use Rattle.std.proofs.lemmas.Bool.{eqb-true}
use Rattle.std.proofs.lemmas.List.{drop_more}
use Rattle.gimli_core_abbrev.specs.Error.{Error}
use Rattle.gimli_core_abbrev.specs.View.{View, after, bytes_left}
use Rattle.gimli_core_abbrev.specs.Parsers.{proceed}
use Rattle.gimli_core_abbrev.proofs.NumberReadSizes.{Below-unsigned_16}
use Rattle.gimli_core_abbrev.specs.NumberParsers.{unsigned_16, number_and_rest}
use Rattle.gimli_core_abbrev.specs.Error.TheVariants.{BadUnsignedLeb128}
use Rattle.gimli_core_abbrev.specs.Leb128.{unsigned_at}
use Rattle.gimli_core_abbrev.proofs.ViewCuts.{after-after}
use Rattle.gimli_core_abbrev.proofs.PlaceLemmas.{after-zero}
use Rattle.gimli_units_forms.specs.AttributeReading.{form_within, final_form}

-- steps that go on in the same way from a value
pub proceed_same : {S A B : Type 0} (r : Result (A × S) Error) (f g : A → S → Result (B × S) Error)
    → ((x : A) (s : S) → r ≡ Ok (x, s) → f x s ≡ g x s) → proceed r f ≡ proceed r g
proceed_same (Ok r) f g h = h r.0 r.1 refl
proceed_same (Err e) f g h = refl

form_within-enough : (m n form : ℕ) (v : View) → bytes_left v < m → bytes_left v < n
    → form_within m form v ≡ form_within n form v
unfolding form_within
form_within-enough zero n form v h k = absurd (omega arith)
form_within-enough (suc m) zero form v h k = absurd (omega arith)
form_within-enough (suc m) (suc n) form v h k =
    let same = proceed_same (unsigned_16 v) (form_within m) (form_within n) (λ x s e.
    let less = (Below-unsigned_16 {n = bytes_left v} v (omega arith)).left x s e in
    form_within-enough m n x s (omega arith) (omega arith)) in
    ap (λ (r : Result (ℕ × View) Error). cond (eqb form 0x16) r (Ok (form, v))) same

-- after indirect comes the number of a form, and what follows it
pub final_form-indirect : (form : ℕ) (v : View) → eqb form 0x16 ≡ true
    → final_form form v ≡ proceed (unsigned_16 v) final_form
unfolding final_form form_within
final_form-indirect form v t =
    rw t (proceed_same (unsigned_16 v) (form_within (bytes_left v)) final_form (λ x s e.
    let less = (Below-unsigned_16 {n = bytes_left v} v (omega arith)).left x s e in
    form_within-enough (bytes_left v) (suc (bytes_left s)) x s less (omega arith)))

pub final_form-next : (form n : ℕ) (v w : View) → eqb form 0x16 ≡ true → unsigned_16 v ≡ Ok (n, w)
    → final_form form v ≡ final_form n w
final_form-next form n v w t e =
    final_form-indirect form v t ∙ ap (λ (r : Result (ℕ × View) Error). proceed r final_form) e

pub final_form-fault : (form : ℕ) (v : View) (fault : Error) → eqb form 0x16 ≡ true → unsigned_16 v ≡ Err fault
    → final_form form v ≡ Err fault
final_form-fault form v fault t e =
    final_form-indirect form v t ∙ ap (λ (r : Result (ℕ × View) Error). proceed r final_form) e

-- another form stands for itself
pub final_form-other : (form : ℕ) (v : View) → eqb form 0x16 ≡ false → final_form form v ≡ Ok (form, v)
unfolding final_form form_within
final_form-other form v h = rw h refl

-- what follows the indirect form may be told from another place
pub final_form-same : (form : ℕ) (v w : View) → eqb form 0x16 ≡ true → final_form 0x16 w ≡ final_form 0x16 v
    → final_form form w ≡ final_form form v
final_form-same form v w t same =
    let is = eqb-true form 0x16 t in
    ap (λ (f : ℕ). final_form f w) is ∙ same ∙ ap (λ (f : ℕ). final_form f v) (sym is)

-- the number of the indirect form is a byte
indirect_number : (v : View) (bs : List ℕ) → v.bytes ≡ 0x16 ∷ bs → unsigned_16 v ≡ Ok (0x16, after 1 v)
unfolding unsigned_16
indirect_number v bs h =
    ap (λ (xs : List ℕ). number_and_rest BadUnsignedLeb128 v (unsigned_at 3 65536 xs)) h

-- after numbers of the indirect form, what follows is the same
pub final_form-run : (n : ℕ) (v : View) → n ≤ bytes_left v → ((k : ℕ) → k < n → get_or v.bytes k 0 ≡ 0x16)
    → final_form 0x16 (after n v) ≡ final_form 0x16 v
final_form-run zero v there each = ap (final_form 0x16) (after-zero v)
final_form-run (suc n) v there each =
    let next : n + 1 ≡ suc n = omega arith in
    let first = drop_more v.bytes n 0 (omega (arith, there)) in
    let number =
    indirect_number (after n v) (drop (n + 1) v.bytes)
    (first ∙ ap (λ (b : ℕ). b ∷ drop (n + 1) v.bytes) (each n (omega arith))) in
    ap (λ (m : ℕ). final_form 0x16 (after m v)) (sym next)
    ∙ ap (final_form 0x16) (sym (after-after 1 n v))
    ∙ sym (final_form-next 0x16 0x16 (after n v) (after 1 (after n v)) refl number)
    ∙ final_form-run n v (omega (arith, there)) (λ k below. each k (omega (arith, below)))
