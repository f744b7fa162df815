-- Texts of a string table: each begins at an offset and ends at a zero byte (System V ABI, "String
-- Table").
use Rattle.std.specs.Prelude.{ℕ, ◌==◌, nat_eq, Bool, false, List, take, drop, Option, Some, None, option_map}
use Rattle.std.specs.List.{position}
use Rattle.std.specs.Cmp.Lexicographic.{pointwise}

-- the bytes before the first zero byte, if there is one
abbrev pub text_before_zero : List ℕ → Option (List ℕ)
text_before_zero bytes = option_map (λ n. take n bytes) (position (λ b. b == 0) bytes)

-- the text at an offset
abbrev pub text_at : List ℕ → ℕ → Option (List ℕ)
text_at texts offset = text_before_zero (drop offset texts)

-- there is a text, and it is this one
abbrev pub is_text : Option (List ℕ) → List ℕ → Bool
is_text None text = false
is_text (Some other) text = pointwise nat_eq other text
