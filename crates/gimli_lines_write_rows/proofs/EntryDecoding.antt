-- What is written for entries is parsed again as their instructions (DWARF 5, 6.2.5).
use Rattle.std.proofs.Common.{◌≡◌, ℕ, ℤ, pos, negsuc, zero, suc, ◌+◌, ◌-◌, ◌*◌, ◌/◌, ◌%◌, ◌<◌, ◌≤◌, ◌^◌, ◌-ℤ◌, lit<, ◌==◌, ◌&&◌, not, nat_lt, nat_le, Bool, true, false, cond, IsTrue, List, [], ◌∷◌, ◌++◌, length, Some, None, Result, Ok, Err, refl, sym, ap, subst, ◌∙◌, append_assoc, arith, FitsSigned}
use Rattle.std.specs.Int.{w64}
use Rattle.std.proofs.lemmas.Bool.{le-ltb, lt-ltb, ne_eqb, ltb-true}
use Rattle.std.proofs.lemmas.List.{length-append, append-nil}
use Rattle.std.proofs.Math.Seq.{take-append_seam, drop-append_seam}
use Rattle.gimli_lines_write_bytes.specs.Error.TheVariants.{UnsupportedOffset, UnsupportedAddressSize}
use Rattle.gimli_lines_write_bytes.specs.View.{View, after, prefix, unexpected_end, bytes_left}
use Rattle.gimli_lines_write_bytes.specs.Parsers.{Parser, ◌>>=◌, proceed, give, fail, lift, branch, part, within, value_of}
use Rattle.gimli_lines_write_bytes.specs.Repetition.{listing_in, items_within, until_end, prepend, next_item}
use Rattle.gimli_lines_write_bytes.specs.Fixed.{number_bytes}
use Rattle.gimli_lines_write_bytes.specs.NumberParsers.{fixed, offset_below, address, is_address_size}
use Rattle.gimli_lines_write_bytes.specs.Spelling.{unsigned_within, unsigned_string, signed_string}
use Rattle.gimli_lines_write_bytes.proofs.NumberRoundTrip.{length-spelled}
use Rattle.gimli_lines_machine.specs.declared.rules.LineRules.{LineRules}
use Rattle.gimli_lines_machine.specs.LineInstructions.{InstructionOf, special, advance_pc, advance_line, set_file, set_column, negate_stmt, set_basic_block, const_add_pc, set_prologue_end, set_epilogue_begin, set_isa, end_sequence, set_address, set_discriminator}
use Rattle.gimli_lines_machine.specs.Decoding.{FileMaker, standard_instruction, extended_of, extended_in, extended_instruction, of_opcode, instruction_with}
use Rattle.gimli_lines_write_rows.specs.declared.instruction.LineInstruction.{LineInstruction}
use Rattle.gimli_lines_write_rows.specs.declared.instruction.LineInstruction.TheVariants.{Special, AdvancePc, AdvanceLine, SetFile, SetColumn, NegateStatement, SetBasicBlock, ConstAddPc, SetPrologueEnd, SetEpilogueBegin, SetIsa, EndSequence as EndInstruction, SetDiscriminator}
use Rattle.gimli_lines_write_rows.specs.declared.row.LineRow.{LineRow}
use Rattle.gimli_lines_write_rows.specs.declared.entry.LineEntry.{LineEntry}
use Rattle.gimli_lines_write_rows.specs.declared.entry.LineEntry.TheVariants.{SetAddress, Row, EndSequence}
use Rattle.gimli_lines_write_bytes.specs.declared.address.Address.{Address}
use Rattle.gimli_lines_write_bytes.specs.declared.address.Address.TheVariants.{Constant, Symbol}
use Rattle.gimli_lines_write_bytes.specs.declared.error.Error.{Error as WriteError}
use Rattle.gimli_lines_write_bytes.specs.declared.error.Error.TheVariants.{ValueTooLarge, UnsupportedWordSize}
use Rattle.gimli_lines_write_bytes.specs.NumberBytes.{bytes_in_width}
use Rattle.gimli_lines_write_rows.specs.BuiltRows.{raw_file, operations_to, operations_between, can_place, can_follow, are_words, follows, IsReadable, row_at_address, row_after_row, first_row}
use Rattle.gimli_lines_write_rows.specs.EntryBytes.{join_bytes, address_entry, entries_bytes}
use Rattle.gimli_lines_write_rows.specs.EntryInstructions.{onto, instructions_from}
use Rattle.gimli_lines_write_rows.specs.RowPieces.{IsBuildable, to_instruction, when, flags, changes, is_special, line_step, room, is_const, advance, opcode_operations, moves, row_piece, end_piece}
use Rattle.gimli_lines_write_rows.proofs.Moves.{and-first, and-second}
use Rattle.gimli_lines_write_rows.proofs.ProgramRuns.{follows_by}
use Rattle.gimli_lines_write_rows.proofs.RowTests.{row_fits_place, row_high, row_words}
use Rattle.gimli_lines_machine.proofs.Wrapping.{at_most_eight}
use Rattle.std.proofs.Math.Bool.{beq}
use Rattle.std.proofs.Math.Nat.{mod-lt}
use Rattle.std.specs.Prelude.{unsigned_abs}
use Rattle.std.proofs.lemmas.Int.{ints, fits_signed_from_abs}
use Rattle.gimli_lines_write_rows.specs.LineInstructionBytes.{instruction_bytes, instructions_bytes}
use Rattle.gimli_lines_write_rows.proofs.BytesAgain.{view_after, Again, reads_same, again_then, again_mapped, again_give, again_unsigned, again_signed, again_fixed, again_byte, again_small}

-- the numbers of an instruction have 64 bits, and a special opcode is one
abbrev pub IsWritten : LineInstruction → Type 0
IsWritten (Special opcode) = 13 ≤ opcode
IsWritten (AdvancePc n) = n < 2 ^ 64
IsWritten (AdvanceLine n) = FitsSigned w64 n
IsWritten (SetFile n) = n < 2 ^ 64
IsWritten (SetColumn n) = n < 2 ^ 64
IsWritten (SetIsa n) = n < 2 ^ 64
IsWritten (SetDiscriminator n) = n < 2 ^ 64
IsWritten _ = Unit {0}

-- a string has at most as many bytes as were allowed
pub length-within : (k n : ℕ) → length (unsigned_within k n) ≤ k
unfolding unsigned_within
length-within zero n = omega arith
length-within (suc k) n = by (nat_lt n 128) (length-within k (n / 128))
  where
    by : (b : Bool) → length (unsigned_within k (n / 128)) ≤ k
        → length (cond b (n ∷ []) ((128 + n % 128) ∷ unsigned_within k (n / 128))) ≤ suc k
    by true h = omega arith
    by false h = omega arith

module _ {F : Type 0} {is_big : Bool} (make : FileMaker F) (limit : ℕ) (wide : 128 ≤ limit) (rules : LineRules)
    (base : rules.opcode_base ≡ 13) (counts : List ℕ) where
  -- an extended opcode in n bytes
  extended_again : (s : List ℕ) (x : InstructionOf F) → length s < 128 → Again is_big (extended_in make rules) s x
      → Again is_big (extended_instruction make limit rules) (length s ∷ s) x
  unfolding extended_instruction
  extended_again s x low a = record {
    read = λ rest v o e.
        ap (λ r. proceed r (λ n. (lift (offset_below limit n) >>= λ l.
        (part l >>= λ bytes. within bytes (extended_in make rules)))))
        ((again_small (length s) low).read (s ++ rest) v o e)
        ∙ ap (λ c. proceed (lift (cond c (Ok (length s)) (Err UnsupportedOffset)) (view_after v 1 (s ++ rest)))
        (λ l. (part l >>= λ bytes. within bytes (extended_in make rules))))
        (lt-ltb (length s) limit (below (length s) limit low wide))
        ∙ ap (λ c. proceed (cond c (Err (unexpected_end (view_after v 1 (s ++ rest))))
        (Ok (prefix (length s) (view_after v 1 (s ++ rest)), after (length s) (view_after v 1 (s ++ rest)))))
        (λ bytes. within bytes (extended_in make rules)))
        (le-ltb (length (s ++ rest)) (length s)
        (front_fits (length s) (length rest) (length (s ++ rest)) (length-append s rest)))
        ∙ ap (λ r. lift (value_of r) (after (length s) (view_after v 1 (s ++ rest))))
        (a.read [] (prefix (length s) (view_after v 1 (s ++ rest))) o (take-append_seam s rest ∙ sym (append-nil s)))
        ∙ ap (λ l. Ok (x, record { bytes = l; is_big = v.is_big; first = (v.first + 1) + length s }))
        (drop-append_seam s rest)
        ∙ ap (λ n. Ok (x, record { bytes = rest; is_big = v.is_big; first = n })) (sum v.first (length s));
  }
    where
      below : (n m : ℕ) → n < 128 → 128 ≤ m → n < m
      below n m h g = omega arith

      front_fits : (a b c : ℕ) → c ≡ a + b → a ≤ c
      front_fits a b c e = omega arith

      sum : (a b : ℕ) → (a + 1) + b ≡ a + suc b
      sum a b = omega arith

  of_standard : (k : ℕ) (s : List ℕ) (x : InstructionOf F) → (k == 0) ≡ false → nat_lt k 13 ≡ true
      → Again is_big (standard_instruction counts k) s x
      → Again is_big (instruction_with make limit rules counts) (k ∷ s) x
  unfolding instruction_with
  of_standard k s x z l a =
      again_then (of_opcode make limit rules counts) (again_byte k) (reads_same (of_opcode make limit rules counts k)
      (λ v. ap (λ c. cond c (extended_instruction make limit rules v)
      (cond (nat_lt k rules.opcode_base) (standard_instruction counts k v) (Ok (special k, v)))) z
      ∙ ap (λ b. cond (nat_lt k b) (standard_instruction counts k v) (Ok (special k, v))) base
      ∙ ap (λ c. cond c (standard_instruction counts k v) (Ok (special k, v))) l) a)

  of_special : (k : ℕ) → 13 ≤ k → Again is_big (instruction_with make limit rules counts) (k ∷ []) (special k)
  unfolding instruction_with
  of_special k h =
      again_then (of_opcode make limit rules counts) (again_byte k) (reads_same (of_opcode make limit rules counts k)
      (λ v. ap (λ c. cond c (extended_instruction make limit rules v)
      (cond (nat_lt k rules.opcode_base) (standard_instruction counts k v) (Ok (special k, v))))
      (ne_eqb k 0 (some k h))
      ∙ ap (λ b. cond (nat_lt k b) (standard_instruction counts k v) (Ok (special k, v))) base
      ∙ ap (λ c. cond c (standard_instruction counts k v) (Ok (special k, v))) (le-ltb k 13 h))
      (again_give (special k)))
    where
      some : (n : ℕ) → 13 ≤ n → n ≡ 0 → ⊥
      some n g e = absurd (omega arith)

  of_extended : (s : List ℕ) (x : InstructionOf F) → length s < 128 → Again is_big (extended_in make rules) s x
      → Again is_big (instruction_with make limit rules counts) (0 ∷ length s ∷ s) x
  unfolding instruction_with
  of_extended s x low a = again_then (of_opcode make limit rules counts) (again_byte 0)
      (reads_same (of_opcode make limit rules counts 0) (λ v. refl) (extended_again s x low a))

  pub instruction_again : (i : LineInstruction) → IsWritten i
      → Again is_big (instruction_with make limit rules counts) (instruction_bytes i) (to_instruction i)
  unfolding standard_instruction extended_in
  instruction_again (Special opcode) h = of_special opcode h
  instruction_again (AdvancePc n) h = of_standard 2 (unsigned_string n) (advance_pc n) refl refl
      (reads_same (standard_instruction counts 2) (λ v. refl) (again_mapped advance_pc (again_unsigned n h)))
  instruction_again (AdvanceLine z) h =
      of_standard 3 (signed_string z) (advance_line z) refl refl
      (reads_same (standard_instruction counts 3) (λ v. refl) (again_mapped advance_line (again_signed z h)))
  instruction_again (SetFile n) h = of_standard 4 (unsigned_string n) (set_file n) refl refl
      (reads_same (standard_instruction counts 4) (λ v. refl) (again_mapped set_file (again_unsigned n h)))
  instruction_again (SetColumn n) h = of_standard 5 (unsigned_string n) (set_column n) refl refl
      (reads_same (standard_instruction counts 5) (λ v. refl) (again_mapped set_column (again_unsigned n h)))
  instruction_again NegateStatement h =
      of_standard 6 [] negate_stmt refl refl
      (reads_same (standard_instruction counts 6) (λ v. refl) (again_give negate_stmt))
  instruction_again SetBasicBlock h = of_standard 7 [] set_basic_block refl refl
      (reads_same (standard_instruction counts 7) (λ v. refl) (again_give set_basic_block))
  instruction_again ConstAddPc h = of_standard 8 [] const_add_pc refl refl
      (reads_same (standard_instruction counts 8) (λ v. refl) (again_give const_add_pc))
  instruction_again SetPrologueEnd h =
      of_standard 10 [] set_prologue_end refl refl
      (reads_same (standard_instruction counts 10) (λ v. refl) (again_give set_prologue_end))
  instruction_again SetEpilogueBegin h =
      of_standard 11 [] set_epilogue_begin refl refl
      (reads_same (standard_instruction counts 11) (λ v. refl) (again_give set_epilogue_begin))
  instruction_again (SetIsa n) h = of_standard 12 (unsigned_string n) (set_isa n) refl refl
      (reads_same (standard_instruction counts 12) (λ v. refl) (again_mapped set_isa (again_unsigned n h)))
  instruction_again EndInstruction h =
      of_extended (1 ∷ []) end_sequence (lit< tt)
      (again_then (extended_of make rules) (again_byte 1)
      (reads_same (extended_of make rules 1) (λ v. refl) (again_give end_sequence)))
  instruction_again (SetDiscriminator n) h =
      subst (λ k. Again is_big (instruction_with make limit rules counts) (0 ∷ k ∷ 4 ∷ unsigned_string n)
      (set_discriminator n)) (one_more (length (unsigned_string n)))
      (of_extended (4 ∷ unsigned_string n) (set_discriminator n) (low (length (unsigned_string n)) (length-within 10 n))
      (again_then (extended_of make rules) (again_byte 4)
      (reads_same (extended_of make rules 4) (λ v. refl) (again_mapped set_discriminator (again_unsigned n h)))))
    where
      one_more : (k : ℕ) → suc k ≡ 1 + k
      one_more k = omega arith

      low : (k : ℕ) → k ≤ 10 → suc k < 128
      low k g = omega arith

  -- an address that is set
  pub address_again : (n : ℕ) → IsTrue (is_address_size rules.encoding.address_size) → rules.encoding.address_size ≤ 8
      → n < 256 ^ rules.encoding.address_size
      → Again is_big (instruction_with make limit rules counts) (0 ∷ (1 + rules.encoding.address_size) ∷ 2
      ∷ number_bytes is_big rules.encoding.address_size n) (set_address n)
  unfolding extended_in address
  address_again n is small fits =
      subst (λ k. Again is_big (instruction_with make limit rules counts)
      (0 ∷ k ∷ 2 ∷ number_bytes is_big rules.encoding.address_size n) (set_address n))
      (one_more (length (number_bytes is_big rules.encoding.address_size n)) rules.encoding.address_size
      (length-spelled is_big rules.encoding.address_size n))
      (of_extended (2 ∷ number_bytes is_big rules.encoding.address_size n) (set_address n)
      (low (length (number_bytes is_big rules.encoding.address_size n)) rules.encoding.address_size
      (length-spelled is_big rules.encoding.address_size n) small)
      (again_then (extended_of make rules) (again_byte 2)
      (reads_same (extended_of make rules 2) (λ v. refl) (again_mapped set_address
      (reads_same (address rules.encoding.address_size)
      (λ v. ap (λ c. branch c (fixed rules.encoding.address_size)
      (fail (UnsupportedAddressSize rules.encoding.address_size)) v) is)
      (again_fixed is_big rules.encoding.address_size n fits))))))
    where
      one_more : (k s : ℕ) → k ≡ s → suc k ≡ 1 + s
      one_more k s e = omega arith

      low : (k s : ℕ) → k ≡ s → s ≤ 8 → suc k < 128
      low k s e g = omega arith

-- ---- instructions laid end to end

-- bytes that a parser reads item by item
abbrev pub IsTiledBy : {A : Type 0} → Bool → Parser A → List ℕ → List A → Type 0
IsTiledBy is_big p bytes [] = bytes ≡ []
IsTiledBy is_big p bytes (x ∷ xs) =
    (s : List ℕ) × (t : List ℕ) × (bytes ≡ s ++ t) × (0 < length s) × Again is_big p s x × IsTiledBy is_big p t xs

-- they are listed, and nothing is left
pub tiled_within : {A : Type 0} (is_big : Bool) (p : Parser A) (xs : List A) (bytes : List ℕ) (fuel : ℕ) (v : View)
    → IsTiledBy is_big p bytes xs → v.is_big ≡ is_big → v.bytes ≡ bytes → length bytes < fuel
    → items_within fuel (until_end p) v ≡ record { items = xs; ending = Ok (view_after v (length bytes) []) }
unfolding items_within
tiled_within is_big p xs bytes zero v tiled o e h = absurd (omega arith)
tiled_within is_big p [] bytes (suc fuel) v tiled o e h =
    let none : v.bytes ≡ [] = e ∙ tiled in
    ap (λ c. next_item (cond c (Ok (None, v)) (proceed (p v) (λ x. give (Some x)))) (items_within fuel (until_end p)))
    (ap (λ l. length l == 0) none)
    ∙ ap (λ l. record { items = []; ending = Ok (record { bytes = l; is_big = v.is_big; first = v.first }) }) none
    ∙ ap (λ n. record { items = []; ending = Ok (record { bytes = []; is_big = v.is_big; first = n }) })
    (no_further v.first (length bytes) (ap length tiled))
  where
    no_further : (a b : ℕ) → b ≡ 0 → a ≡ a + b
    no_further a b z = omega arith
tiled_within is_big p (x ∷ xs) bytes (suc fuel) v tiled o e h =
    let whole : v.bytes ≡ tiled.0 ++ tiled.1 = e ∙ tiled.2 in
    ap (λ c. next_item (cond c (Ok (None, v)) (proceed (p v) (λ y. give (Some y)))) (items_within fuel (until_end p)))
    (ne_eqb (length v.bytes) 0 (some (length v.bytes) (length tiled.0) (length tiled.1) (ap length whole
    ∙ length-append tiled.0 tiled.1) tiled.3))
    ∙ ap (λ r. next_item (proceed r (λ y. give (Some y))) (items_within fuel (until_end p)))
    (tiled.4.read tiled.1 v o whole)
    ∙ ap (prepend (x ∷ [])) (tiled_within is_big p xs tiled.1 fuel (view_after v (length tiled.0) tiled.1) tiled.5 o
    refl
    (shorter (length bytes) (length tiled.0) (length tiled.1) fuel (ap length tiled.2 ∙ length-append tiled.0 tiled.1)
    tiled.3 h))
    ∙ ap (λ n. record { items = x ∷ xs; ending = Ok (record { bytes = []; is_big = v.is_big; first = n }) })
    (sum v.first (length tiled.0) (length tiled.1) (length bytes) (ap length tiled.2 ∙ length-append tiled.0 tiled.1))
  where
    some : (n a b : ℕ) → n ≡ a + b → 0 < a → n ≡ 0 → ⊥
    some n a b q z y = absurd (omega arith)

    shorter : (n a b f : ℕ) → n ≡ a + b → 0 < a → n < suc f → b < f
    shorter n a b f q z y = omega arith

    sum : (a b c d : ℕ) → d ≡ b + c → (a + b) + c ≡ a + d
    sum a b c d q = omega arith

pub tiled_listed : {A : Type 0} (is_big : Bool) (p : Parser A) (xs : List A) (v : View) → IsTiledBy is_big p v.bytes xs
    → v.is_big ≡ is_big
    → listing_in bytes_left (until_end p) v ≡ record { items = xs; ending = Ok (view_after v (length v.bytes) []) }
unfolding listing_in
tiled_listed is_big p xs v tiled o =
    tiled_within is_big p xs v.bytes (suc (length v.bytes)) v tiled o refl (more (length v.bytes))
  where
    more : (n : ℕ) → n < suc n
    more n = omega arith

some_bytes : (i : LineInstruction) → 0 < length (instruction_bytes i)
some_bytes (Special opcode) = omega arith
some_bytes (AdvancePc n) = omega arith
some_bytes (AdvanceLine n) = omega arith
some_bytes (SetFile n) = omega arith
some_bytes (SetColumn n) = omega arith
some_bytes NegateStatement = omega arith
some_bytes SetBasicBlock = omega arith
some_bytes ConstAddPc = omega arith
some_bytes SetPrologueEnd = omega arith
some_bytes SetEpilogueBegin = omega arith
some_bytes (SetIsa n) = omega arith
some_bytes EndInstruction = omega arith
some_bytes (SetDiscriminator n) = omega arith

abbrev pub AllWritten : List LineInstruction → Type 0
AllWritten [] = Unit {0}
AllWritten (i ∷ is) = IsWritten i × AllWritten is

written-append : (a b : List LineInstruction) → AllWritten a → AllWritten b → AllWritten (a ++ b)
written-append [] b g h = h
written-append (i ∷ a) b g h = (g.0, written-append a b g.1 h)

written-when : (b : Bool) (i : LineInstruction) → IsWritten i → AllWritten (when b i)
written-when true i h = (h, tt)
written-when false i h = tt

-- ---- what is written for a row and an end

difference_fits : (a b : ℕ) → a < 2 ^ 63 → b < 2 ^ 63 → FitsSigned w64 (pos a -ℤ pos b)
difference_fits a b g h = fits_signed_from_abs w64 (pos a -ℤ pos b) (by (pos a -ℤ pos b) refl)
  where
    by : (z : ℤ) → (pos a -ℤ pos b) ≡ z → unsigned_abs z < 2 ^ 63
    by (pos n) e = omega (arith, ints)
    by (negsuc n) e = omega (arith, ints)

pub row_written : (w : LineRules) (previous row : LineRow) → can_follow w previous row ≡ true → previous.line < 2 ^ 63
    → AllWritten (row_piece w previous row)
unfolding row_piece flags changes moves are_words
row_written w previous row can low =
    let words = row_words w previous row can in
    let file_column_isa = and-first (nat_lt row.file.0 (2 ^ 64) && nat_lt row.column (2 ^ 64)
    && nat_lt row.isa (2 ^ 64)) (nat_lt row.discriminator (2 ^ 64)) words in
    let file_column = and-first (nat_lt row.file.0 (2 ^ 64) && nat_lt row.column (2 ^ 64)) (nat_lt row.isa (2 ^ 64))
    file_column_isa in
    let discriminator : row.discriminator < 2 ^ 64 =
    ltb-true row.discriminator (2 ^ 64)
    (and-second (nat_lt row.file.0 (2 ^ 64) && nat_lt row.column (2 ^ 64) && nat_lt row.isa (2 ^ 64))
    (nat_lt row.discriminator (2 ^ 64)) words) in
    let isa : row.isa < 2 ^ 64 = ltb-true row.isa (2 ^ 64)
    (and-second (nat_lt row.file.0 (2 ^ 64) && nat_lt row.column (2 ^ 64)) (nat_lt row.isa (2 ^ 64))
    file_column_isa) in
    let column : row.column < 2 ^ 64 = ltb-true row.column (2 ^ 64)
    (and-second (nat_lt row.file.0 (2 ^ 64)) (nat_lt row.column (2 ^ 64)) file_column) in
    let file : row.file.0 < 2 ^ 64 = ltb-true row.file.0 (2 ^ 64)
    (and-first (nat_lt row.file.0 (2 ^ 64)) (nat_lt row.column (2 ^ 64)) file_column) in
    let f = follows_by w previous row.address_offset row.op_index (row_fits_place w previous row can) in
    written-append (flags row) _
    (written-append (when (not (row.discriminator == 0)) (SetDiscriminator row.discriminator)) _
    (written-when (not (row.discriminator == 0)) (SetDiscriminator row.discriminator) discriminator)
    (written-append (when row.basic_block SetBasicBlock) _ (written-when row.basic_block SetBasicBlock tt)
    (written-append (when row.prologue_end SetPrologueEnd) _ (written-when row.prologue_end SetPrologueEnd tt)
    (written-when row.epilogue_begin SetEpilogueBegin tt))))
    (written-append (changes w.encoding.version previous row) _
    (written-append (when (not (beq row.is_statement previous.is_statement)) NegateStatement) _
    (written-when (not (beq row.is_statement previous.is_statement)) NegateStatement tt)
    (written-append (when (not (raw_file w.encoding.version row.file.0 == raw_file w.encoding.version previous.file.0))
    (SetFile (raw_file w.encoding.version row.file.0))) _
    (written-when (not (raw_file w.encoding.version row.file.0 == raw_file w.encoding.version previous.file.0))
    (SetFile (raw_file w.encoding.version row.file.0)) (raw_fits w.encoding.version row.file.0 file))
    (written-append (when (not (row.column == previous.column)) (SetColumn row.column)) _
    (written-when (not (row.column == previous.column)) (SetColumn row.column) column)
    (written-when (not (row.isa == previous.isa)) (SetIsa row.isa) isa))))
    (written-append (when (not (is_special w.line_encoding (pos row.line -ℤ pos previous.line)))
    (AdvanceLine (pos row.line -ℤ pos previous.line))) _
    (written-when (not (is_special w.line_encoding (pos row.line -ℤ pos previous.line)))
    (AdvanceLine (pos row.line -ℤ pos previous.line))
    (difference_fits row.line previous.line (row_high w previous row can) low))
    (written-append (advance w.line_encoding (line_step w.line_encoding (pos row.line -ℤ pos previous.line))
    (operations_between w previous row.address_offset row.op_index)) _
    (advanced_written (nat_le (operations_between w previous row.address_offset row.op_index)
    (room w.line_encoding (line_step w.line_encoding (pos row.line -ℤ pos previous.line))))
    (is_const w.line_encoding (line_step w.line_encoding (pos row.line -ℤ pos previous.line))
    (operations_between w previous row.address_offset row.op_index))
    (operations_between w previous row.address_offset row.op_index)
    (fewer previous.op_index (operations_to w previous row.address_offset row.op_index) f.counted)) (
      above (line_step w.line_encoding (pos row.line -ℤ pos previous.line))
          (w.line_encoding.line_range * opcode_operations w.line_encoding
          (line_step w.line_encoding (pos row.line -ℤ pos previous.line))
          (operations_between w previous row.address_offset row.op_index)),
      tt,
    ))))
  where
    raw_fits : (version place : ℕ) → place < 2 ^ 64 → raw_file version place < 2 ^ 64
    raw_fits version place h = by (nat_le version 4)
      where
        by : (b : Bool) → cond b ((place + 1) % 2 ^ 64) place < 2 ^ 64
        by true = mod-lt (place + 1) (lit< tt)
        by false = h

    advanced_written : (b c : Bool) (n : ℕ) → n < 2 ^ 64
        → AllWritten (cond b [] (cond c (ConstAddPc ∷ []) (AdvancePc n ∷ [])))
    advanced_written true c n h = tt
    advanced_written false true n h = (tt, tt)
    advanced_written false false n h = (h, tt)

    above : (a b : ℕ) → 13 ≤ 13 + a + b
    above a b = omega arith

    fewer : (o n : ℕ) → n < 2 ^ 64 → n - o < 2 ^ 64
    fewer o n h = omega arith

pub end_written : (w : LineRules) (previous : LineRow) (offset op_index : ℕ) → can_place w previous offset op_index
    ≡ true → AllWritten (end_piece w previous offset op_index)
unfolding end_piece
end_written w previous offset op_index can =
    let f = follows_by w previous offset op_index can in
    written-append (when (not (operations_between w previous offset op_index == 0))
    (AdvancePc (operations_between w previous offset op_index))) (EndInstruction ∷ [])
    (written-when (not (operations_between w previous offset op_index == 0))
    (AdvancePc (operations_between w previous offset op_index))
    (fewer previous.op_index (operations_to w previous offset op_index) f.counted)) (tt, tt)
  where
    fewer : (o n : ℕ) → n < 2 ^ 64 → n - o < 2 ^ 64
    fewer o n h = omega arith

-- ---- whole programs

-- what two parts make, where they make something
joined_parts : (r s : Result (List ℕ) WriteError) (bytes : List ℕ) → join_bytes r s ≡ Ok bytes → (a : List ℕ)
    × (b : List ℕ) × (r ≡ Ok a) × (s ≡ Ok b) × (bytes ≡ a ++ b)
joined_parts (Ok a) (Ok b) bytes e = (a, b, refl, refl, let t : a ++ b ≡ bytes = cc in sym t)
joined_parts (Ok a) (Err f) bytes e = absurd (cc)
joined_parts (Err f) s bytes e = absurd (cc)

module _ {F : Type 0} (is_big : Bool) (make : FileMaker F) (limit : ℕ) (wide : 128 ≤ limit) (rules : LineRules)
    (can_build : IsBuildable rules) (counts : List ℕ) where
  onto_tiled : (is : List LineInstruction) (rest : List (InstructionOf F)) (t : List ℕ) → AllWritten is
      → IsTiledBy is_big (instruction_with make limit rules counts) t rest
      → IsTiledBy is_big (instruction_with make limit rules counts) (instructions_bytes is ++ t) (onto is rest)
  onto_tiled [] rest t h tiled = tiled
  onto_tiled (i ∷ is) rest t h tiled = (
    instruction_bytes i,
    instructions_bytes is ++ t,
    append_assoc (instruction_bytes i) (instructions_bytes is) t,
    some_bytes i,
    instruction_again make limit wide rules can_build.first_special counts i h.0,
    onto_tiled is rest t h.1 tiled,
  )

  -- the bytes of a known address
  address_parts : (n : ℕ) (bytes : List ℕ) → address_entry is_big rules.encoding.address_size (Ok n) ≡ Ok bytes
      → (bytes ≡ 0 ∷ (1 + rules.encoding.address_size) ∷ 2 ∷ number_bytes is_big rules.encoding.address_size n)
      × (n < 256 ^ rules.encoding.address_size)
  address_parts n bytes e =
      let parts = joined_parts (Ok (0 ∷ (1 + rules.encoding.address_size) ∷ 2 ∷ []))
      (bytes_in_width is_big rules.encoding.address_size n) bytes e in
      let prefix : 0 ∷ (1 + rules.encoding.address_size) ∷ 2 ∷ [] ≡ parts.0 = cc (parts.2) in
      by (nat_lt n (256 ^ rules.encoding.address_size)) refl parts.0 parts.1 prefix
      (sym (ap (λ c. cond c (cond (nat_lt n (256 ^ rules.encoding.address_size))
      (Ok (number_bytes is_big rules.encoding.address_size n)) (Err ValueTooLarge)) (Err UnsupportedWordSize))
      can_build.has_address_size) ∙ parts.3) parts.4
    where
      by : (b : Bool) → nat_lt n (256 ^ rules.encoding.address_size) ≡ b → (f s : List ℕ)
          → 0 ∷ (1 + rules.encoding.address_size) ∷ 2 ∷ [] ≡ f
          → cond b (Ok (number_bytes is_big rules.encoding.address_size n)) (Err ValueTooLarge) ≡ Ok s → bytes ≡ f ++ s
          → (bytes ≡ 0 ∷ (1 + rules.encoding.address_size) ∷ 2 ∷ number_bytes is_big rules.encoding.address_size n)
          × (n < 256 ^ rules.encoding.address_size)
      by true t f s g h q =
          let same : number_bytes is_big rules.encoding.address_size n ≡ s = cc in (
            q ∙ ap (λ l. l ++ s) (sym g) ∙ ap (λ l. 0 ∷ (1 + rules.encoding.address_size) ∷ 2 ∷ l) (sym same),
            ltb-true n (256 ^ rules.encoding.address_size) t,
          )
      by false t f s g h q = absurd (cc)

  -- The bytes that are written of entries are those of their instructions.
  pub entries_tiled : (address_of : Address → Result ℕ WriteError) → ((n : ℕ) → address_of (Constant n) ≡ Ok n)
      → (entries : List LineEntry) (address : ℕ) (previous : LineRow) (bytes : List ℕ) → follows rules previous entries
      ≡ true → IsReadable rules address previous entries → previous.line < 2 ^ 63
      → entries_bytes address_of is_big rules previous entries ≡ Ok bytes
      → IsTiledBy is_big (instruction_with make limit rules counts) bytes (instructions_from rules previous entries)
  unfolding instructions_from
  entries_tiled address_of constants [] address previous bytes f readable low e = let t : [] ≡ bytes = cc in sym t
  entries_tiled address_of constants (SetAddress (Constant n) ∷ entries) address previous bytes f readable low e =
      let parts = joined_parts (address_entry is_big rules.encoding.address_size (address_of (Constant n)))
      (entries_bytes address_of is_big rules (row_at_address previous) entries) bytes e in
      let first = address_parts n parts.0 (ap (address_entry is_big rules.encoding.address_size) (sym (constants n))
      ∙ parts.2) in (
        0 ∷ (1 + rules.encoding.address_size) ∷ 2 ∷ number_bytes is_big rules.encoding.address_size n,
        parts.1,
        parts.4 ∙ ap (λ l. l ++ parts.1) first.0,
        omega arith,
        address_again make limit wide rules can_build.first_special counts n can_build.has_address_size
            (at_most_eight rules.encoding.address_size can_build.has_address_size) first.1,
        entries_tiled address_of constants entries n (row_at_address previous) parts.1 f readable.2 low parts.3,
      )
  entries_tiled address_of constants (SetAddress (Symbol s a) ∷ entries) address previous bytes f readable low e =
      absurd readable
  entries_tiled address_of constants (Row row ∷ entries) address previous bytes f readable low e =
      let parts = joined_parts (Ok (instructions_bytes (row_piece rules previous row)))
      (entries_bytes address_of is_big rules (row_after_row row) entries) bytes e in
      let can = and-first (can_follow rules previous row) (follows rules (row_after_row row) entries) f in
      let prefix : instructions_bytes (row_piece rules previous row) ≡ parts.0 = cc (parts.2) in
      subst (λ b. IsTiledBy is_big (instruction_with make limit rules counts) b
      (onto (row_piece rules previous row) (instructions_from rules (row_after_row row) entries)))
      (ap (λ l. l ++ parts.1) prefix ∙ sym parts.4)
      (onto_tiled (row_piece rules previous row) (instructions_from rules (row_after_row row) entries) parts.1
      (row_written rules previous row can low)
      (entries_tiled address_of constants entries address (row_after_row row) parts.1
      (and-second (can_follow rules previous row) (follows rules (row_after_row row) entries) f) readable.1
      (row_high rules previous row can) parts.3))
  entries_tiled address_of constants (EndSequence offset op_index ∷ entries) address previous bytes f readable low e =
      let parts = joined_parts (Ok (instructions_bytes (end_piece rules previous offset op_index)))
      (entries_bytes address_of is_big rules (first_row rules) entries) bytes e in
      let can = and-first (can_place rules previous offset op_index) (follows rules (first_row rules) entries) f in
      let prefix : instructions_bytes (end_piece rules previous offset op_index) ≡ parts.0 = cc (parts.2) in
      subst (λ b. IsTiledBy is_big (instruction_with make limit rules counts) b
      (onto (end_piece rules previous offset op_index) (instructions_from rules (first_row rules) entries)))
      (ap (λ l. l ++ parts.1) prefix ∙ sym parts.4)
      (onto_tiled (end_piece rules previous offset op_index) (instructions_from rules (first_row rules) entries) parts.1
      (end_written rules previous offset op_index can)
      (entries_tiled address_of constants entries 0 (first_row rules) parts.1
      (and-second (can_place rules previous offset op_index) (follows rules (first_row rules) entries) f) readable.1
      (lit< tt) parts.3))
