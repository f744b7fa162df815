-- The value that a declaration itself holds, by the form of its attribute.
use Rattle.std.proofs.Common.{◌≡◌, ℕ, ℤ, Bool, true, false, eqb, Option, Some, None, is_some, Ok, sym, ap}
use Rattle.gimli_core_readers.specs.View.{View}
use Rattle.gimli_core_readers.specs.Parsers.{◌>>=◌, give, branch}
use Rattle.gimli_core_readers.specs.NumberParsers.{signed}
use Rattle.gimli_core_readers.proofs.StepParts.{begins, value_is}
use Rattle.gimli_core_abbrev.specs.TableParsing.{implicit_const_form, implicit_const}

pub has_constant : (form : ℕ) (v w : View) (o : Option ℤ) → implicit_const form v ≡ Ok (o, w)
    → is_some o ≡ eqb form implicit_const_form
unfolding implicit_const
has_constant form v w o e = by_test (eqb form implicit_const_form) e
  where
    by_test : (b : Bool) → branch b (signed >>= λ value. give (Some value)) (give None) v ≡ Ok (o, w) → is_some o ≡ b
    by_test true h =
        let b = begins (signed v) (λ (value : ℤ). give (Some value)) o w h in
        sym (ap is_some (value_is {A = Option ℤ} (Some b.0) o b.1 w b.3))
    by_test false h = sym (ap is_some (value_is {A = Option ℤ} None o v w h))
