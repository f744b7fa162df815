-- A LEB128 string is no longer than the bytes that it is in.
use Rattle.std.proofs.Common.{◌≡◌, ℕ, ℤ, ◌≤◌, Bool, true, false, cond, List, length, Option, Some, None, option_map, Result, Ok, Err, refl, ap, arith}
use Rattle.gimli_core_base.specs.declared.leb128.Fault.{Fault}
use Rattle.gimli_core_base.specs.declared.leb128.Fault.TheVariants.{Bad}
use Rattle.gimli_core_base.specs.Leb128.{leb_string, bounded_string, signed_of, signed_at, signed_number, fits_i64}
use Rattle.gimli_core_base.proofs.NumberReadSizes.{string_fits_in, judged_fits_in}

pub skipped_fits : (bytes : List ℕ) (n : ℕ) → option_map length (leb_string bytes) ≡ Some n → n ≤ length bytes
skipped_fits bytes n e = at (leb_string bytes) refl e
  where
    at : (o : Option (List ℕ)) → leb_string bytes ≡ o → option_map length o ≡ Some n → n ≤ length bytes
    at None s h = absurd cc
    at (Some string) s h = let is : length string
        ≡ n = cc in let fits = (string_fits_in bytes string s).fits in omega arith

pub signed_fits : (bytes : List ℕ) (z : ℤ) (n : ℕ) → signed_at bytes ≡ Ok (z, n) → n ≤ length bytes
signed_fits bytes z n e = at (bounded_string 10 bytes) refl e
  where
    at : (r : Result (List ℕ) Fault) → bounded_string 10 bytes ≡ r → signed_of r ≡ Ok (z, n) → n ≤ length bytes
    at (Err fault) j h = absurd cc
    at (Ok s) j h = fits (fits_i64 (signed_number s)) h
      where
        fits : (b : Bool) → cond {A = Result (ℤ × ℕ) Fault} b (Ok (signed_number s, length s)) (Err Bad) ≡ Ok (z, n)
            → n ≤ length bytes
        fits true h =
            let is : (signed_number s, length s) ≡ (z, n) = cc in
            let long : length s ≡ n = ap (λ (p : ℤ × ℕ). p.1) is in
            let within = (judged_fits_in 10 bytes s j).fits in
            omega arith
        fits false h = absurd cc
