-- The header of a line number program is read again, in versions 2 to 5.
use Rattle.std.proofs.Common.{◌≡◌, ℕ, suc, ◌+◌, ◌-◌, ◌<◌, ◌≤◌, ◌≢◌, Bool, true, false, List, [], ◌∷◌, ◌++◌, length, Ok, refl, sym, ap, subst, ◌∙◌, arith}
use Rattle.std.specs.Prelude.{ℤ, pos, negsuc, ◌+ℤ◌, ◌<ℤ◌, ◌≤ℤ◌, ◌==◌, not, nat_le, if◌then◌else◌}
use Rattle.std.specs.Int.{w8, cast_signed}
use Rattle.std.proofs.lemmas.Bool.{leb-false, ne_eqb}
use Rattle.std.proofs.lemmas.Int.{ints}
use Rattle.std.proofs.Math.Facts.{to_z_pos, to_z-neg}
use Rattle.gimli_lines_write_rows.specs.Error.TheVariants.{MinimumInstructionLengthZero, MaximumOperationsPerInstructionZero, LineRangeZero}
use Rattle.gimli_lines_write_rows.specs.Parsers.{Parser, give, demand, ◌>>=◌, ◌>>◌}
use Rattle.gimli_lines_write_rows.specs.LineEncoding.{LineEncoding}
use Rattle.gimli_lines_write_rows.specs.NumberParsers.{fixed, fixed_signed}
use Rattle.gimli_lines_write_rows.specs.NumberBytes.{complement}
use Rattle.gimli_lines_write_rows.specs.LineRules.{LineRules}
use Rattle.gimli_lines_write_rows.specs.RowPieces.{IsBuildable}
use Rattle.gimli_lines_header.specs.HeaderParsing.{operations, operations_of_4, line_parameters, opcodes}
use Rattle.gimli_lines_write_spec.specs.HeaderSpelling.{operand_counts, spelled_parameters, spelled_opcodes}
use Rattle.gimli_lines_write_rows.proofs.FollowedReads.{Again, again_nothing, again_onward, again_then, again_same, one_byte, part_is}
use Rattle.gimli_lines_write_rows.specs.BytesAt.{bytes_at}

-- ---- parameters

-- a line base that can be built with is one of a signed byte
base_again : (is_big : Bool) (first range : ℕ) (base : ℤ) → base ≤ℤ pos 0 → pos 0 <ℤ (base +ℤ pos range) → range ≤ 127
    → Again is_big first (fixed_signed w8) base (complement 1 base ∷ [])
unfolding fixed_signed
base_again is_big first range (pos n) low covers few =
    let none : n ≡ 0 = omega (arith, ints) in
    again_then _ (one_byte is_big first n (omega arith)) (λ v. ap (λ (z : ℤ). Ok (z, v)) (to_z_pos w8 (omega arith)))
base_again is_big first range (negsuc n) low covers few =
    let short : suc n < range = omega (arith, ints) in
    again_then _ (one_byte is_big first (256 - (n + 1)) (omega arith))
    (λ v. ap (λ (z : ℤ). Ok (z, v)) (ap (cast_signed w8) (let same : 256 - (n + 1) ≡ 256 - suc n = omega arith in
    same) ∙ to_z-neg w8 n (omega arith)))

statement_flag : Bool → ℕ
statement_flag b = if b then 1 else 0

flag_is : (b : Bool) → not (statement_flag b == 0) ≡ b
unfolding statement_flag
flag_is true = refl
flag_is false = refl

flag_low : (b : Bool) → statement_flag b < 256
unfolding statement_flag
flag_low true = omega arith
flag_low false = omega arith

-- the parameters after the operations of an instruction
abbrev rest_of : ℕ → ℕ → Parser LineEncoding
rest_of instruction most = do
  is_stmt ← fixed 1
  base ← fixed_signed w8
  range ← fixed 1
  demand (not (range == 0)) LineRangeZero
  give (record {
    minimum_instruction_length = instruction;
    maximum_operations_per_instruction = most;
    default_is_stmt = not (is_stmt == 0);
    line_base = base;
    line_range = range;
  })

-- those after the length of an instruction
abbrev rest_length : Parser ℕ → ℕ → Parser LineEncoding
rest_length most instruction =
    demand (not (instruction == 0)) MinimumInstructionLengthZero >> (most >>= rest_of instruction)

rest_again : (is_big : Bool) (first : ℕ) (rules : LineRules) (operations : ℕ) → IsBuildable rules
    → Again is_big first (rest_of rules.line_encoding.minimum_instruction_length operations)
    (record rules.line_encoding { maximum_operations_per_instruction = operations })
    ((if rules.line_encoding.default_is_stmt then 1 else 0) ∷ complement 1 rules.line_encoding.line_base
    ∷ rules.line_encoding.line_range ∷ [])
unfolding statement_flag
rest_again is_big first rules operations can_build =
    let e = rules.line_encoding in
    let last : LineEncoding → LineEncoding = λ r. record r { maximum_operations_per_instruction = operations } in
    let range_low = can_build.range_is_low in
    let not_zero : e.line_range ≢ 0 = (let covers = can_build.covers_zero in let low = can_build.base_is_low in
    λ none. zero_covers e.line_base e.line_range low covers none) in
    again_onward _ (one_byte is_big first (statement_flag e.default_is_stmt) (flag_low e.default_is_stmt))
    (again_onward _ (base_again is_big (first + 1) e.line_range e.line_base can_build.base_is_low can_build.covers_zero
    can_build.range_is_low)
    (again_then _ (one_byte is_big (first + 1 + 1) e.line_range (omega arith))
    (λ v. rw (ne_eqb e.line_range 0 not_zero, flag_is e.default_is_stmt) refl)))
  where
    zero_covers : (base : ℤ) (range : ℕ) → base ≤ℤ pos 0 → pos 0 <ℤ (base +ℤ pos range) → range ≡ 0 → ⊥
    zero_covers base range low covers none = omega (arith, ints)

not_zero : (n : ℕ) → 0 < n → n ≢ 0
not_zero n h none = omega arith

-- the parameters, whose operations are read by a parser
after_again : (is_big : Bool) (first : ℕ) (rules : LineRules) (operations : ℕ) (most : Parser ℕ) (xs : List ℕ)
    → IsBuildable rules → rules.line_encoding.minimum_instruction_length < 256
    → Again is_big (first + 1) most operations xs
    → Again is_big first (fixed 1 >>= rest_length most)
    (record rules.line_encoding { maximum_operations_per_instruction = operations })
    (rules.line_encoding.minimum_instruction_length
    ∷ (xs ++ ((if rules.line_encoding.default_is_stmt then 1 else 0) ∷ complement 1 rules.line_encoding.line_base
    ∷ rules.line_encoding.line_range ∷ [])))
after_again is_big first rules operations most xs can_build byte h =
    let e = rules.line_encoding in
    again_onward (rest_length most) (one_byte is_big first e.minimum_instruction_length byte)
    (again_same {p = most >>= rest_of e.minimum_instruction_length}
    {q = rest_length most e.minimum_instruction_length}
    (λ v. rw (ne_eqb e.minimum_instruction_length 0 (not_zero e.minimum_instruction_length can_build.has_bytes)) refl)
    (again_onward (rest_of e.minimum_instruction_length) h
    (rest_again is_big (first + 1 + length xs) rules operations can_build)))

operations_again : (is_big : Bool) (first n : ℕ) → 0 < n → n < 256 → Again is_big first operations_of_4 n (n ∷ [])
unfolding operations_of_4
operations_again is_big first n above few =
    again_then (λ n. demand (not (n == 0)) MaximumOperationsPerInstructionZero >> give n) (one_byte is_big first n few)
    (λ v. rw (ne_eqb n 0 (not_zero n above)) refl)

pub parameters_again : (is_big : Bool) (first : ℕ) (rules : LineRules) → IsBuildable rules
    → rules.line_encoding.minimum_instruction_length < 256 → rules.line_encoding.maximum_operations_per_instruction
    < 256
    → (rules.encoding.version ≤ 3 → rules.line_encoding.maximum_operations_per_instruction ≡ 1)
    → Again is_big first (line_parameters rules.encoding.version) rules.line_encoding (spelled_parameters rules)
unfolding line_parameters operations
parameters_again is_big first rules can_build byte few one = by_version (nat_le 4 rules.encoding.version) refl
  where
    by_version : (b : Bool) → nat_le 4 rules.encoding.version ≡ b
        → Again is_big first (line_parameters rules.encoding.version) rules.line_encoding (spelled_parameters rules)
    by_version true later =
        let most = rules.line_encoding.maximum_operations_per_instruction in
        rw later (after_again is_big first rules most operations_of_4 (most ∷ []) can_build byte
        (operations_again is_big (first + 1) most can_build.has_operations few))
    by_version false earlier =
        let single : rules.line_encoding.maximum_operations_per_instruction ≡ 1 =
        one (let low = leb-false 4 rules.encoding.version earlier in omega arith) in
        subst (λ (x : LineEncoding). Again is_big first (line_parameters rules.encoding.version) x
        (spelled_parameters rules))
        (ap (λ (n : ℕ). record rules.line_encoding { maximum_operations_per_instruction = n }) (sym single))
        (rw earlier (after_again is_big first rules 1 (give 1) [] can_build byte (again_nothing is_big (first + 1) 1)))

pub opcodes_again : (is_big : Bool) (first : ℕ)
    → Again is_big first opcodes (13, bytes_at is_big (first + 1) operand_counts) spelled_opcodes
unfolding opcodes
opcodes_again is_big first =
    again_onward _ (one_byte is_big first 13 (omega arith))
    (again_then (λ lengths. give (13, lengths)) (part_is is_big (first + 1) operand_counts) (λ v. refl))
