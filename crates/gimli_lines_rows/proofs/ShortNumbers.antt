-- Numbers of few bytes, read where a view begins with them.
use Rattle.std.proofs.Common.{◌≡◌, ℕ, ◌^◌, List, Result, Ok, sym, ap, ◌∙◌}
use Rattle.std.specs.Prelude.{ℤ}
use Rattle.gimli_lines_machine.specs.Error.{Error}
use Rattle.gimli_lines_machine.specs.Error.TheVariants.{BadUnsignedLeb128, BadSignedLeb128}
use Rattle.gimli_lines_machine.specs.View.{View, after}
use Rattle.gimli_lines_machine.specs.Leb128.{unsigned_at, signed_at}
use Rattle.gimli_lines_machine.specs.NumberParsers.{unsigned, signed, number_and_rest as number_then_rest}

abbrev read_to : {A : Type 0} → A → View → Result (A × View) Error
read_to x w = Ok (x, w)

pub short_unsigned_read : (v w : View) (bytes : List ℕ) (n k : ℕ) → bytes ≡ v.bytes
    → unsigned_at 10 (2 ^ 64) bytes ≡ Ok (n, k) → w ≡ after k v → unsigned v ≡ Ok (n, w)
unfolding unsigned
short_unsigned_read v w bytes n k same found at =
    ap (λ (bs : List ℕ). number_then_rest BadUnsignedLeb128 v (unsigned_at 10 (2 ^ 64) bs)) (sym same)
    ∙ ap (number_then_rest BadUnsignedLeb128 v) found ∙ ap (read_to n) (sym at)

pub short_signed_read : (v w : View) (bytes : List ℕ) (z z1 : ℤ) (k : ℕ) → bytes ≡ v.bytes
    → signed_at bytes ≡ Ok (z, k) → w ≡ after k v → z1 ≡ z → signed v ≡ Ok (z1, w)
unfolding signed
short_signed_read v w bytes z z1 k same found at is =
    ap (λ (bs : List ℕ). number_then_rest BadSignedLeb128 v (signed_at bs)) (sym same)
    ∙ ap (number_then_rest BadSignedLeb128 v) found ∙ ap (read_to z) (sym at) ∙ ap (λ (x : ℤ). read_to x w) (sym is)
