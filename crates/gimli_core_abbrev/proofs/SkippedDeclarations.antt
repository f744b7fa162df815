-- What is known of a declaration that was skipped for its code alone.
use Rattle.std.proofs.Common.{◌≡◌, ℕ, Option, Some, None, option_map, Result, Ok, Err, ap, ◌∙◌}
use Rattle.gimli_core_readers.specs.Error.{Error}
use Rattle.gimli_core_readers.specs.View.{View}
use Rattle.gimli_core_readers.specs.Parsers.{proceed, give, map_value}
use Rattle.gimli_core_readers.proofs.StepParts.{begins, value_is, state_is}
use Rattle.gimli_core_abbrev.specs.Declarations.{Declaration}
use Rattle.gimli_core_abbrev.specs.TableParsing.{declaration}

abbrev pub code_of : Option Declaration → Option ℕ
code_of o = option_map (λ (d : Declaration). d.code) o

abbrev read : Option Declaration → View → Result (Option Declaration × View) Error
read o u = Ok (o, u)

pub skipped_some : (v u : View) (code : ℕ) → map_value code_of declaration v ≡ Ok (Some code, u)
    → (d : Declaration) × (declaration v ≡ Ok (Some d, u)) × (d.code ≡ code)
skipped_some v u code e =
    let b = begins (declaration v) (λ o. give (code_of o)) (Some code) u e in by_option b.0 b.1 b.2 b.3
  where
    by_option : (o : Option Declaration) (w : View) → declaration v ≡ Ok (o, w)
        → give (code_of o) w ≡ Ok (Some code, u)
        → (d : Declaration) × (declaration v ≡ Ok (Some d, u)) × (d.code ≡ code)
    by_option None w is h = let no = value_is {A = Option ℕ} None (Some code) w u h in absurd cc
    by_option (Some d) w is h =
        let same = value_is {A = Option ℕ} (Some d.code) (Some code) w u h in (
          d,
          is ∙ ap (read (Some d)) (state_is {A = Option ℕ} (Some d.code) (Some code) w u h),
          (let code_is : d.code ≡ code = cc in code_is),
        )

pub skipped_none : (v u : View) → map_value code_of declaration v ≡ Ok (None, u) → declaration v ≡ Ok (None, u)
skipped_none v u e = let b = begins (declaration v) (λ o. give (code_of o)) None u e in by_option b.0 b.1 b.2 b.3
  where
    by_option : (o : Option Declaration) (w : View) → declaration v ≡ Ok (o, w) → give (code_of o) w ≡ Ok (None, u)
        → declaration v ≡ Ok (None, u)
    by_option (Some d) w is h = let no = value_is {A = Option ℕ} (Some d.code) None w u h in absurd cc
    by_option None w is h = is ∙ ap (read None) (state_is {A = Option ℕ} None None w u h)

pub skipped_fault : (v : View) (e : Error) → map_value code_of declaration v ≡ Err e → declaration v ≡ Err e
skipped_fault v e h = by_result (declaration v) h
  where
    by_result : (r : Result (Option Declaration × View) Error) → proceed r (λ o. give (code_of o)) ≡ Err e → r ≡ Err e
    by_result (Ok p) h = absurd cc
    by_result (Err f) h = let same : f ≡ e = cc in ap (λ (x : Error). Err x) same
