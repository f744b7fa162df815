-- CRC-32, the check sequence of 32 bits (ISO 3309; ITU-T V.42, 8.1.1.6.2): the remainder of a
-- text's polynomial over GF(2), one bit at a time.
use Rattle.std.specs.Prelude.{ℕ, zero, suc, ◌-◌, ◌/◌, ◌%◌, ◌^◌, ◌==◌, bit_xor, List, [], ◌∷◌, ◌++◌, if◌then◌else◌}
use Rattle.addr2line_debug_files.specs.declared.checksum.TheConstants.{GENERATOR}

-- A number of 32 bits stands for the polynomial whose coefficient of x^31 is the lowest bit, and
-- whose coefficient of x^0 is the highest.

-- x times a polynomial, modulo the generator
abbrev pub times_x : ℕ → ℕ
times_x r = if r % 2 == 1 then bit_xor (r / 2) GENERATOR else r / 2

-- the remainder after further coefficients of the text, the highest first
abbrev pub remainder : ℕ → List ℕ → ℕ
remainder r [] = r
remainder r (bit ∷ bits) = remainder (times_x (bit_xor r bit)) bits

-- the lowest n bits of a number, the lowest first
unfoldable pub low_bits : ℕ → ℕ → List ℕ
low_bits zero b = []
low_bits (suc n) b = b % 2 ∷ low_bits n (b / 2)

-- the coefficients of a text: the bits of its bytes, the lowest of a byte first
abbrev pub coefficients : List ℕ → List ℕ
coefficients [] = []
coefficients (b ∷ bs) = low_bits 8 b ++ coefficients bs

-- what a register of ones holds after the text, each bit complemented
abbrev pub crc32 : List ℕ → ℕ
crc32 text = 2 ^ 32 - 1 - remainder (2 ^ 32 - 1) (coefficients text)
