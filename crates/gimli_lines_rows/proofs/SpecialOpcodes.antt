-- What special opcodes add, computed opcode by opcode.
use Rattle.std.proofs.Common.{◌≡◌, ◌≢◌, ℕ, ◌+◌, ◌<◌, List, length, get_or, set, arith, get_or-set_other, get_or-set_same, below_more}

-- one more number of a table
pub table_more : (xs : List ℕ) (i v : ℕ) (f : ℕ → ℕ) → i < length xs → v ≡ f i
    → ((k : ℕ) → k < i → get_or xs k 0 ≡ f k) → (k : ℕ) → k < i + 1 → get_or (set xs i v) k 0 ≡ f k
table_more xs i v f inside is below =
    below_more (λ (k : ℕ). get_or (set xs i v) k 0 ≡ f k) i
    (λ k h. let ne : k ≢ i = omega arith in rw get_or-set_other (below k h))
    (rw get_or-set_same is)
