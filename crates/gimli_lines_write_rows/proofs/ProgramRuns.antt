-- Whole programs: what is written for entries runs to their rows.
use Rattle.std.proofs.Common.{◌≡◌, ℕ, pos, ◌+◌, ◌-◌, ◌*◌, ◌/◌, ◌%◌, ◌^◌, ◌<◌, ◌≤◌, ◌-ℤ◌, ◌==◌, ◌&&◌, ◌||◌, not, nat_lt, nat_le, Bool, true, false, cond, IsTrue, List, [], ◌∷◌, Ok, refl, sym, ap, subst, ◌∙◌, arith}
use Rattle.std.proofs.lemmas.Bool.{eqb-true, leb-true, ltb-true, le-ltb}
use Rattle.std.proofs.lemmas.Nat.{div-mul-add, mod-mul-add}
use Rattle.std.proofs.Math.Nat.{add-mul-mod_self_right, mod-add-div', div-add-mod, mod-eq_of_lt, div-eq_of_lt, pow-le-pow_right}
use Rattle.gimli_lines_machine.proofs.Wrapping.{at_most_eight}
use Rattle.gimli_lines_write_bytes.specs.Repetition.{prepend}
use Rattle.gimli_lines_write_bytes.specs.NumberParsers.{is_address_size}
use Rattle.gimli_lines_machine.specs.Addresses.{is_tombstone}
use Rattle.gimli_lines_write_bytes.specs.declared.address.Address.TheVariants.{Constant, Symbol}
use Rattle.gimli_lines_machine.specs.declared.rules.LineRules.{LineRules}
use Rattle.gimli_lines_machine.specs.declared.registers.Registers.{Registers}
use Rattle.gimli_lines_machine.specs.LineInstructions.{InstructionOf, advance_pc, end_sequence, set_address}
use Rattle.gimli_lines_machine.specs.Machine.{after_row, start, with_line}
use Rattle.gimli_lines_write_rows.specs.declared.row.LineRow.{LineRow}
use Rattle.gimli_lines_write_rows.specs.declared.entry.LineEntry.{LineEntry}
use Rattle.gimli_lines_write_rows.specs.declared.entry.LineEntry.TheVariants.{SetAddress, Row, EndSequence}
use Rattle.gimli_lines_write_rows.specs.declared.instruction.LineInstruction.TheVariants.{AdvancePc}
use Rattle.gimli_lines_write_rows.specs.BuiltRows.{first_row, row_after_row, row_at_address, registers_of_row, registers_of_end, rows_from, FitsSize, IsReadable, operations_to, operations_between, can_place, can_follow, follows}
use Rattle.gimli_lines_write_rows.specs.RowPieces.{IsBuildable, when, flags, changes, moves, row_piece, end_piece}
use Rattle.gimli_lines_write_rows.specs.EntryInstructions.{shows, onto, instructions_from}
use Rattle.gimli_lines_write_rows.proofs.PieceRuns.{onto-append, plain_step, row_step, with_flags, with_changes, flags_told, changes_told}
use Rattle.gimli_lines_write_rows.proofs.RowTests.{row_fits_place, row_high}
use Rattle.gimli_lines_write_rows.proofs.Moves.{moved_by, CanMove, advanced_is, moves_told, and-first, and-second}

-- the registers after a row
abbrev pub registers_before : LineRules → ℕ → LineRow → Registers
registers_before w address previous = registers_of_row w address (row_after_row previous)

-- what holds of the row before: its offset is one of an instruction, its operation one of the instruction
pub record IsPlaced (w : LineRules) (previous : LineRow) : Type 0 where
  pub aligned : previous.address_offset % w.line_encoding.minimum_instruction_length ≡ 0
  pub within : previous.op_index < w.line_encoding.maximum_operations_per_instruction
  pub low : previous.line < 2 ^ 63

-- a place that can follow, by its cases
pub record Follows (w : LineRules) (previous : LineRow) (offset op_index : ℕ) : Type 0 where
  pub onward : previous.address_offset ≤ offset
  pub aligned : offset % w.line_encoding.minimum_instruction_length ≡ 0
  pub within : op_index < w.line_encoding.maximum_operations_per_instruction
  pub later : previous.op_index ≤ operations_to w previous offset op_index
  pub counted : operations_to w previous offset op_index < 2 ^ 64

pub follows_by : (w : LineRules) (previous : LineRow) (offset op_index : ℕ) → can_place w previous offset op_index
    ≡ true → Follows w previous offset op_index
follows_by w previous offset op_index h =
    let a = nat_le previous.address_offset offset in
    let b = offset % w.line_encoding.minimum_instruction_length == 0 in
    let c = nat_lt op_index w.line_encoding.maximum_operations_per_instruction in
    let d = nat_le previous.op_index (operations_to w previous offset op_index) in
    let e = nat_lt (operations_to w previous offset op_index) (2 ^ 64) in
    let abcd = and-first (((a && b) && c) && d) e h in
    let abc = and-first ((a && b) && c) d abcd in
    let ab = and-first (a && b) c abc in
    record {
      onward = leb-true previous.address_offset offset (and-first a b ab);
      aligned = eqb-true (offset % w.line_encoding.minimum_instruction_length) 0 (and-second a b ab);
      within = ltb-true op_index w.line_encoding.maximum_operations_per_instruction (and-second (a && b) c abc);
      later = leb-true previous.op_index (operations_to w previous offset op_index) (and-second ((a && b) && c) d abcd);
      counted = ltb-true (operations_to w previous offset op_index) (2 ^ 64) (and-second (((a && b) && c) && d) e h);
    }

-- ---- the place that is reached

module _ (w : LineRules) (can_build : IsBuildable w) (address : ℕ) (previous : LineRow) (placed : IsPlaced w previous)
    (offset op_index : ℕ) (f : Follows w previous offset op_index) where
  step_aligned : (offset - previous.address_offset) % w.line_encoding.minimum_instruction_length ≡ 0
  step_aligned =
      sym (add-mul-mod_self_right (offset - previous.address_offset)
      (previous.address_offset / w.line_encoding.minimum_instruction_length)
      w.line_encoding.minimum_instruction_length)
      ∙ ap (λ v. v % w.line_encoding.minimum_instruction_length)
      (together offset previous.address_offset (previous.address_offset / w.line_encoding.minimum_instruction_length
      * w.line_encoding.minimum_instruction_length)
      (previous.address_offset % w.line_encoding.minimum_instruction_length)
      (mod-add-div' previous.address_offset w.line_encoding.minimum_instruction_length) placed.aligned f.onward)
      ∙ f.aligned
    where
      together : (o p q r : ℕ) → r + q ≡ p → r ≡ 0 → p ≤ o → (o - p) + q ≡ o
      together o p q r e z h = omega arith

  step_whole : w.line_encoding.minimum_instruction_length
      * ((offset - previous.address_offset) / w.line_encoding.minimum_instruction_length)
      ≡ offset - previous.address_offset
  step_whole = whole (w.line_encoding.minimum_instruction_length
      * ((offset - previous.address_offset) / w.line_encoding.minimum_instruction_length))
      ((offset - previous.address_offset) % w.line_encoding.minimum_instruction_length)
      (offset - previous.address_offset)
      (div-add-mod (offset - previous.address_offset) w.line_encoding.minimum_instruction_length) step_aligned
    where
      whole : (a b c : ℕ) → a + b ≡ c → b ≡ 0 → a ≡ c
      whole a b c e z = omega arith

  counted_to : previous.op_index + operations_between w previous offset op_index
      ≡ operations_to w previous offset op_index
  counted_to = back previous.op_index (operations_to w previous offset op_index) f.later
    where
      back : (a b : ℕ) → a ≤ b → a + (b - a) ≡ b
      back a b h = omega arith

  pub reached_address : (r : Registers) → r.op_index ≡ previous.op_index → r.address ≡ address + previous.address_offset
      → (moved_by w (operations_between w previous offset op_index) r).address ≡ address + offset
  reached_address r o a =
      ap (λ v. v + w.line_encoding.minimum_instruction_length
      * ((r.op_index + operations_between w previous offset op_index)
      / w.line_encoding.maximum_operations_per_instruction)) a
      ∙ ap (λ v. (address + previous.address_offset) + w.line_encoding.minimum_instruction_length
      * (v / w.line_encoding.maximum_operations_per_instruction))
      (ap (λ v. v + operations_between w previous offset op_index) o ∙ counted_to)
      ∙ ap (λ v. (address + previous.address_offset) + w.line_encoding.minimum_instruction_length * v)
      (div-mul-add ((offset - previous.address_offset) / w.line_encoding.minimum_instruction_length)
      w.line_encoding.maximum_operations_per_instruction op_index f.within)
      ∙ ap (λ v. (address + previous.address_offset) + v) step_whole
      ∙ onward address previous.address_offset offset f.onward
    where
      onward : (a p o : ℕ) → p ≤ o → (a + p) + (o - p) ≡ a + o
      onward a p o h = omega arith

  pub reached_operation : (r : Registers) → r.op_index ≡ previous.op_index
      → (moved_by w (operations_between w previous offset op_index) r).op_index ≡ op_index
  reached_operation r o =
      ap (λ v. v % w.line_encoding.maximum_operations_per_instruction)
      (ap (λ v. v + operations_between w previous offset op_index) o ∙ counted_to)
      ∙ mod-mul-add ((offset - previous.address_offset) / w.line_encoding.minimum_instruction_length)
      w.line_encoding.maximum_operations_per_instruction op_index f.within

  pub can_move : (r : Registers) → r.op_index ≡ previous.op_index → r.address ≡ address + previous.address_offset
      → r.is_hidden ≡ false → FitsSize w (address + offset)
      → 2 ^ (8 * w.encoding.address_size) ≤ 2 ^ 64 → CanMove w (operations_between w previous offset op_index) r
  can_move r o a v fits size = record {
    visible = v;
    counted = subst (λ n. n < 2 ^ 64) (sym (ap (λ v. v + operations_between w previous offset op_index) o ∙ counted_to))
        f.counted;
    fits = subst (λ n. n < 2 ^ (8 * w.encoding.address_size)) (sym (reached_address r o a)) fits;
    size = size;
  }

-- the first row of a sequence gives the registers at its start
pub start_is : (w : LineRules) → registers_before w 0 (first_row w) ≡ start w
start_is w = by (nat_le w.encoding.version 4)
  where
    by : (b : Bool) → record (start w) { file = cond b ((cond b 0 1 + 1) % 2 ^ 64) (cond b 0 1) } ≡ start w
    by true = refl
    by false = refl

-- ---- a row, an end, an address

module _ {F : Type 0} (w : LineRules) (can_build : IsBuildable w) (size : 2 ^ (8 * w.encoding.address_size) ≤ 2 ^ 64)
  where
    pub row_told : (address : ℕ) (previous row : LineRow) (rest : List (InstructionOf F)) → IsPlaced w previous
        → Follows w previous row.address_offset row.op_index → row.line < 2 ^ 63
        → FitsSize w (address + row.address_offset)
        → shows w (registers_before w address previous) (onto (row_piece w previous row) rest)
        ≡ prepend (registers_of_row w address row ∷ []) (shows w (registers_before w address row) rest)
    unfolding row_piece
    row_told address previous row rest placed f high fits =
        let n = operations_between w previous row.address_offset row.op_index in
        let r = with_changes w.encoding.version (with_flags (registers_before w address previous) row) row in
        let laid : onto (row_piece w previous row) rest
        ≡ onto (flags row) (onto (changes w.encoding.version previous row) (onto
        (moves w.line_encoding (pos row.line -ℤ pos previous.line)
        (operations_between w previous row.address_offset row.op_index)) rest)) =
        simp onto-append in
        let there : with_line row.line (moved_by w (operations_between w previous row.address_offset row.op_index)
        (with_changes w.encoding.version (with_flags (registers_before w address previous) row) row))
        ≡ registers_of_row w address row =
        ap (λ a. record (registers_of_row w address row) {
          address = a;
          op_index = (moved_by w (operations_between w previous row.address_offset row.op_index)
              (registers_before w address previous)).op_index;
        })
        (reached_address w can_build address previous placed row.address_offset row.op_index f
        (registers_before w address previous) refl refl)
        ∙ ap (λ o. record (registers_of_row w address row) { op_index = o })
        (reached_operation w can_build address previous placed row.address_offset row.op_index f
        (registers_before w address previous) refl) in
        ap (shows w (registers_before w address previous)) laid
        ∙ flags_told w (registers_before w address previous) row
        (onto (changes w.encoding.version previous row)
        (onto (moves w.line_encoding (pos row.line -ℤ pos previous.line)
        (operations_between w previous row.address_offset row.op_index)) rest)) refl refl refl refl
        ∙ changes_told w (with_flags (registers_before w address previous) row) previous row
        (onto (moves w.line_encoding (pos row.line -ℤ pos previous.line)
        (operations_between w previous row.address_offset row.op_index)) rest) refl refl refl refl
        ∙ moves_told w can_build row.line (operations_between w previous row.address_offset row.op_index)
        (with_changes w.encoding.version (with_flags (registers_before w address previous) row) row) rest high
        (can_move w can_build address previous placed row.address_offset row.op_index f
        (with_changes w.encoding.version (with_flags (registers_before w address previous) row) row) refl refl refl fits
        size)
        ∙ ap (λ to. prepend (to ∷ []) (shows w (after_row w to) rest)) there

    pub end_told : (address : ℕ) (previous : LineRow) (offset op_index : ℕ) (rest : List (InstructionOf F))
        → IsPlaced w previous → Follows w previous offset op_index
        → FitsSize w (address + offset)
        → shows w (registers_before w address previous) (onto (end_piece w previous offset op_index) rest)
        ≡ prepend (registers_of_end w address (row_after_row previous) offset op_index ∷ [])
        (shows w (registers_before w 0 (first_row w)) rest)
    unfolding end_piece
    end_told address previous offset op_index rest placed f fits =
        let laid : onto (end_piece w previous offset op_index) rest
        ≡ onto (when (not (operations_between w previous offset op_index == 0))
        (AdvancePc (operations_between w previous offset op_index))) (end_sequence ∷ rest) =
        simp onto-append in
        let there : moved_by w (operations_between w previous offset op_index) (registers_before w address previous)
        ≡ record (registers_before w address previous) { address = address + offset; op_index = op_index } =
        ap (λ a. record (registers_before w address previous) {
          address = a;
          op_index = (moved_by w (operations_between w previous offset op_index)
              (registers_before w address previous)).op_index;
        })
        (reached_address w can_build address previous placed offset op_index f (registers_before w address previous)
        refl
        refl)
        ∙ ap (λ o. record (registers_before w address previous) { address = address + offset; op_index = o })
        (reached_operation w can_build address previous placed offset op_index f (registers_before w address previous)
        refl) in
        ap (shows w (registers_before w address previous)) laid
        ∙ by (operations_between w previous offset op_index == 0) refl
        ∙ ap (λ r. shows w r (end_sequence ∷ rest)) there
        ∙ row_step w end_sequence (record (registers_before w address previous) {
          address = address + offset;
          op_index = op_index;
        }) (registers_of_end w address (row_after_row previous) offset op_index) rest refl refl refl
        ∙ ap (λ r. prepend (registers_of_end w address (row_after_row previous) offset op_index ∷ []) (shows w r rest))
        (sym (start_is w))
      where
        none_moved : moved_by w 0 (registers_before w address previous) ≡ registers_before w address previous
        none_moved =
            ap (λ v. record (registers_before w address previous) {
              address = (address + previous.address_offset) + w.line_encoding.minimum_instruction_length
                  * (v / w.line_encoding.maximum_operations_per_instruction);
              op_index =
                  v % w.line_encoding.maximum_operations_per_instruction;
            }) (plus_zero previous.op_index)
            ∙ ap (λ v. record (registers_before w address previous) {
              address = (address + previous.address_offset) + w.line_encoding.minimum_instruction_length * v;
              op_index = previous.op_index % w.line_encoding.maximum_operations_per_instruction;
            })
            (div-eq_of_lt placed.within)
            ∙ ap (λ v. record (registers_before w address previous)
            { address = v; op_index = previous.op_index % w.line_encoding.maximum_operations_per_instruction })
            (nothing (address + previous.address_offset) w.line_encoding.minimum_instruction_length)
            ∙ ap (λ v. record (registers_before w address previous) { op_index = v }) (mod-eq_of_lt placed.within)
          where
            plus_zero : (v : ℕ) → v + 0 ≡ v
            plus_zero v = omega arith

            nothing : (a m : ℕ) → a + m * 0 ≡ a
            nothing a m = omega arith

        by : (b : Bool) → (operations_between w previous offset op_index == 0) ≡ b
            → shows w (registers_before w address previous)
            (onto (when (not b) (AdvancePc (operations_between w previous offset op_index))) (end_sequence ∷ rest))
            ≡ shows w (moved_by w (operations_between w previous offset op_index) (registers_before w address previous))
            (end_sequence ∷ rest)
        by true e = ap (λ r. shows w r (end_sequence ∷ rest))
            (sym none_moved ∙ ap (λ v. moved_by w v (registers_before w address previous))
            (sym (eqb-true (operations_between w previous offset op_index) 0 e)))
        by false e = plain_step w (advance_pc (operations_between w previous offset op_index))
            (registers_before w address previous)
            (moved_by w (operations_between w previous offset op_index) (registers_before w address previous))
            (end_sequence ∷ rest)
            (advanced_is w (operations_between w previous offset op_index) (registers_before w address previous)
            (can_move w can_build address previous placed offset op_index f (registers_before w address previous) refl
            refl refl fits size)) refl

    pub address_told : (address : ℕ) (previous : LineRow) (n : ℕ) (rest : List (InstructionOf F))
        → address + previous.address_offset ≤ n → is_tombstone w.encoding.address_size n ≡ false
        → shows w (registers_before w address previous) (set_address n ∷ rest)
        ≡ shows w (registers_before w n (row_at_address previous)) rest
    address_told address previous n rest on known =
        plain_step w (set_address n) (registers_before w address previous)
        (registers_before w n (row_at_address previous)) rest
        (ap (λ b. Ok (cond (b || is_tombstone w.encoding.address_size n)
        (record (registers_before w address previous) { is_hidden = true })
        (record (registers_before w address previous) { address = n; op_index = 0; is_hidden = false })))
        (le-ltb n (address + previous.address_offset) on)
        ∙ ap (λ b. Ok (cond b (record (registers_before w address previous) { is_hidden = true })
        (record (registers_before w address previous) { address = n; op_index = 0; is_hidden = false }))) known
        ∙ ap (λ a. Ok (record (registers_before w address previous) { address = a; op_index = 0 })) (plus_zero n)) refl
      where
        plus_zero : (v : ℕ) → v ≡ v + 0
        plus_zero v = omega arith

-- ---- the program

pub first_placed : (w : LineRules) → IsBuildable w → IsPlaced w (first_row w)
first_placed w can_build = record { aligned = zero_aligned; within = can_build.has_operations; low = omega arith }
  where
    zero_aligned : 0 % w.line_encoding.minimum_instruction_length ≡ 0
    zero_aligned = mod-eq_of_lt can_build.has_bytes

module _ (F : Type 0) (w : LineRules) (can_build : IsBuildable w) (size : 2 ^ (8 * w.encoding.address_size) ≤ 2 ^ 64)
  where
    -- The instructions of entries run to their rows, and to some end.
    pub program_told : (entries : List LineEntry) (address : ℕ) (previous : LineRow) → IsPlaced w previous
        → follows w previous entries ≡ true → IsReadable w address previous entries
        → (end : Registers) × (shows w (registers_before w address previous)
        (instructions_from {F = F} w previous entries)
        ≡ record { items = rows_from w address (row_after_row previous) entries; ending = Ok end })
    unfolding instructions_from
    program_told [] address previous placed f readable = (registers_before w address previous, refl)
    program_told (SetAddress (Constant n) ∷ entries) address previous placed f readable =
        let r = program_told entries n (row_at_address previous)
        (record { aligned = (first_placed w can_build).aligned; within = can_build.has_operations; low = placed.low })
        f readable.2 in (
          r.0,
          address_told {F = F} w can_build size address previous n
              (instructions_from w (row_at_address previous) entries) readable.0 readable.1 ∙ r.1,
        )
    program_told (SetAddress (Symbol s a) ∷ entries) address previous placed f readable = absurd readable
    program_told (Row row ∷ entries) address previous placed f readable =
        let come = and-first (can_follow w previous row) (follows w (row_after_row row) entries) f in
        let here = follows_by w previous row.address_offset row.op_index (row_fits_place w previous row come) in
        let high = row_high w previous row come in
        let r = program_told entries address (row_after_row row)
        (record { aligned = here.aligned; within = here.within; low = high })
        (and-second (can_follow w previous row) (follows w (row_after_row row) entries) f) readable.1 in (
          r.0,
          row_told {F = F} w can_build size address previous row (instructions_from w (row_after_row row) entries)
              placed here high readable.0 ∙ ap (prepend (registers_of_row w address row ∷ [])) r.1,
        )
    program_told (EndSequence offset op_index ∷ entries) address previous placed f readable =
        let here = follows_by w previous offset op_index
        (and-first (can_place w previous offset op_index) (follows w (first_row w) entries) f) in
        let r = program_told entries 0 (first_row w) (first_placed w can_build)
        (and-second (can_place w previous offset op_index) (follows w (first_row w) entries) f) readable.1 in (
          r.0,
          end_told {F = F} w can_build size address previous offset op_index
              (instructions_from w (first_row w) entries) placed here readable.0
              ∙ ap (prepend (registers_of_end w address (row_after_row previous) offset op_index ∷ [])) r.1,
        )

-- an address of 1, 2, 4 or 8 bytes has at most 64 bits
pub fits_64 : (w : LineRules) → IsBuildable w → 2 ^ (8 * w.encoding.address_size) ≤ 2 ^ 64
fits_64 w can_build = by w.encoding.address_size can_build.has_address_size
  where
    by : (n : ℕ) → IsTrue (is_address_size n) → 2 ^ (8 * n) ≤ 2 ^ 64
    by n h = pow-le-pow_right (omega arith) (eight n (at_most_eight n h))
      where
        eight : (m : ℕ) → m ≤ 8 → 8 * m ≤ 64
        eight m g = omega arith
