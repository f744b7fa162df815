-- How much of the bytes attributes take, read or skipped: what follows them is what the bytes left begin with.
use Rattle.std.proofs.Common.{◌≡◌, ℕ, ◌≤◌, List, Option, Ok, ap, ◌∙◌, arith}
use Rattle.std.specs.Prelude.{ℤ}
use Rattle.gimli_core_abbrev.specs.View.{View, bytes_left}
use Rattle.gimli_core_abbrev.specs.Parsers.{map_value, give}
use Rattle.gimli_core_abbrev.proofs.StepParts.{begins, state_is, read}
use Rattle.gimli_core_abbrev.proofs.StepSizes.{AtMost}
use Rattle.gimli_core_abbrev.specs.Encoding.{Encoding}
use Rattle.gimli_core_abbrev.specs.Declarations.{Attribute}
use Rattle.gimli_units_forms.specs.AttributeValues.{RawAttribute, RawValue}
use Rattle.gimli_units_forms.specs.AttributeReading.{value, attribute, attributes}
use Rattle.gimli_units_forms.specs.AttributeSkipping.{skip_values, way_of, plain_way}
use Rattle.gimli_units_forms.specs.FormSpellings.{spelling}
use Rattle.gimli_units_forms.proofs.SkipAgreementLemmas.{attribute-leads, look-leads, spelled_value-leads, skip_values-attributes}
use Rattle.gimli_core_abbrev.specs.Places.{IsAfter}
use Rattle.gimli_core_abbrev.proofs.PlaceLemmas.{IsAfter-IsAfter, IsAfter-fewer}
use Rattle.gimli_units_forms.proofs.AfterLemmas.{IsAfter-run, Goes-plain_way, Goes-way_of, skip_values-after}

-- what is left after an attribute comes after some of the bytes
pub attribute-after : (limit : ℕ) (e : Encoding) (s : Attribute) (v w : View) (a : RawAttribute)
    → attribute limit e s v ≡ Ok (a, w) → IsAfter v w
attribute-after limit e s v w a h =
    let l = look-leads (way_of e s.form) v w (attribute-leads limit e s v a w h) in
    IsAfter-IsAfter v l.1 w ((Goes-way_of e s.form).goes v l.0 l.1 l.2) (IsAfter-run l.0 l.1 w l.3)

-- and after a value of a form that isn't indirect
pub value-after : (limit : ℕ) (e : Encoding) (name : ℕ) (constant : Option ℤ) (form : ℕ) (v w : View) (x : RawValue)
    → value limit e name constant form v ≡ Ok (x, w) → IsAfter v w
unfolding value
value-after limit e name constant form v w x h =
    let way = plain_way e form (spelling e form) in
    let l = look-leads way v w (spelled_value-leads limit e name form constant (spelling e form) v x w h) in
    IsAfter-IsAfter v l.1 w ((Goes-plain_way e form (spelling e form)).goes v l.0 l.1 l.2) (IsAfter-run l.0 l.1 w l.3)

-- and after one that something is made of
pub made-after : {A : Type 0} (limit : ℕ) (e : Encoding) (s : Attribute) (f : RawAttribute → A) (v w : View) (x : A)
    → map_value f (attribute limit e s) v ≡ Ok (x, w) → IsAfter v w
made-after limit e s f v w x h =
    let b = begins (attribute limit e s v) (λ a. give (f a)) x w h in
    attribute-after limit e s v w b.0 (b.2 ∙ ap (λ (t : View). read b.0 t) (state_is (f b.0) x b.1 w b.3))

-- and after several
pub attributes-after : (limit : ℕ) (e : Encoding) (ss : List Attribute) (v w : View) (all : List RawAttribute)
    → attributes limit e ss v ≡ Ok (all, w) → IsAfter v w
attributes-after limit e ss v w all h = skip_values-after e ss v w (skip_values-attributes limit e ss v w all h)

pub AtMost-attribute : {n : ℕ} (limit : ℕ) (e : Encoding) (s : Attribute) (v : View) → bytes_left v ≤ n
    → AtMost bytes_left n (attribute limit e s v)
AtMost-attribute limit e s v h =
    record { left = λ a w k. let f = IsAfter-fewer v w (attribute-after limit e s v w a k) in omega arith }

pub AtMost-attributes : {n : ℕ} (limit : ℕ) (e : Encoding) (ss : List Attribute) (v : View) → bytes_left v ≤ n
    → AtMost bytes_left n (attributes limit e ss v)
AtMost-attributes limit e ss v h =
    record { left = λ all w k. let f = IsAfter-fewer v w (attributes-after limit e ss v w all k) in omega arith }

pub AtMost-skip_values : {n : ℕ} (e : Encoding) (ss : List Attribute) (v : View) → bytes_left v ≤ n
    → AtMost bytes_left n (skip_values e ss v)
AtMost-skip_values e ss v h =
    record { left = λ u w k. let f = IsAfter-fewer v w (skip_values-after e ss v w k) in omega arith }
