-- What a format writes of an address in 16 digits.
use Rattle.std.proofs.Common.{◌≡◌, ◌∙◌, ℕ, ◌-◌, ◌^◌, false, List, [], ◌++◌, length, replicate, ap, append-nil, arith}
use Rattle.std.specs.Fmt.{char_count, padded_integral, format_spec}

no_less : (n : ℕ) → n - 0 - 0 ≡ n
no_less n = omega arith

pub padded_to_16 : (ds : List ℕ) → padded_integral (format_spec 32 0 4 16 (2 ^ 64 - 1)) false [] ds
    ≡ replicate (16 - length ds) 48 ++ ds
unfolding padded_integral char_count
padded_to_16 ds =
    ap (λ k. replicate k 48 ++ (ds ++ [])) (no_less (16 - length ds))
    ∙ ap (λ xs. replicate (16 - length ds) 48 ++ xs) (append-nil ds)
