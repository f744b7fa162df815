-- Lines and addresses moved, as a run shows them.
use Rattle.std.proofs.Common.{◌≡◌, ℕ, ℤ, pos, negsuc, ◌+◌, ◌-◌, ◌*◌, ◌/◌, ◌%◌, ◌^◌, ◌<◌, ◌≤◌, ◌+ℤ◌, ◌-ℤ◌, ◌<ℤ◌, ◌≤ℤ◌, ◌&&◌, not, nat_le, Bool, true, false, cond, List, [], ◌∷◌, Ok, Err, refl, sym, ap, subst, ◌∙◌, true≢false, arith}
use Rattle.std.specs.Prelude.{int_lt, int_le, unsigned_abs}
use Rattle.std.proofs.lemmas.Int.{ints}
use Rattle.std.proofs.lemmas.Float.{T_from_true}
use Rattle.std.specs.Int.Signed.{le_z_yes, lt_z_yes}
use Rattle.std.proofs.lemmas.Bool.{lt-ltb, leb-true}
use Rattle.std.proofs.lemmas.Nat.{div-mul-add, mod-mul-add}
use Rattle.std.proofs.Math.Nat.{add-mul-div_right, add-mul-mod_self_right, mod-add-div', mod-eq_of_lt}
use Rattle.gimli_lines_write_bytes.specs.Error.TheVariants.{AddressOverflow}
use Rattle.gimli_lines_write_bytes.specs.Repetition.{Listing, prepend}
use Rattle.gimli_lines_machine.specs.declared.rules.LineRules.{LineRules}
use Rattle.gimli_lines_machine.specs.declared.registers.Registers.{Registers}
use Rattle.gimli_lines_machine.specs.LineInstructions.{InstructionOf, special, advance_pc, advance_line, const_add_pc}
use Rattle.gimli_lines_machine.specs.Machine.{after_row, after_operations, to_operation, address_within, registers_at, line_after, with_line, line_advance, operation_advance}
use Rattle.gimli_lines_write_rows.specs.declared.instruction.LineInstruction.TheVariants.{ConstAddPc, AdvancePc, AdvanceLine}
use Rattle.gimli_lines_write_rows.specs.BuiltRows.{FitsSize}
use Rattle.gimli_lines_write_rows.specs.RowPieces.{IsBuildable, when, is_special, opcode_lines, line_step, most_operations, room, is_const, advance, opcode_operations, moves}
use Rattle.gimli_lines_write_rows.specs.EntryInstructions.{shows, onto}
use Rattle.gimli_lines_write_rows.proofs.PieceRuns.{onto-append, plain_step, row_step}

-- the registers after n more operations
abbrev pub moved_by : LineRules → ℕ → Registers → Registers
moved_by w n r = record r {
  address = r.address + w.line_encoding.minimum_instruction_length
      * ((r.op_index + n) / w.line_encoding.maximum_operations_per_instruction);
  op_index = (r.op_index + n) % w.line_encoding.maximum_operations_per_instruction;
}

-- what an advance needs: the counted operations and the address don't overflow
pub record CanMove (w : LineRules) (n : ℕ) (r : Registers) : Type 0 where
  pub visible : r.is_hidden ≡ false
  pub counted : r.op_index + n < 2 ^ 64
  pub fits : FitsSize w (moved_by w n r).address
  pub size : 2 ^ (8 * w.encoding.address_size) ≤ 2 ^ 64

pub advanced_is : (w : LineRules) (n : ℕ) (r : Registers) → CanMove w n r → after_operations w n r ≡ Ok (moved_by w n r)
advanced_is w n r can =
    ap (λ b. cond b (Ok r) (to_operation w r ((r.op_index + n) % 2 ^ 64))) can.visible
    ∙ ap (to_operation w r) (mod-eq_of_lt can.counted)
    ∙ ap (λ a. registers_at r ((r.op_index + n) % w.line_encoding.maximum_operations_per_instruction)
    (address_within w.encoding.address_size (r.address + a)))
    (mod-eq_of_lt step_fits)
    ∙ ap (λ b. registers_at r ((r.op_index + n) % w.line_encoding.maximum_operations_per_instruction)
    (cond b (Ok (moved_by w n r).address) (Err AddressOverflow)))
    (lt-ltb (moved_by w n r).address (2 ^ (8 * w.encoding.address_size)) can.fits)
  where
    step_fits : w.line_encoding.minimum_instruction_length
        * ((r.op_index + n) / w.line_encoding.maximum_operations_per_instruction) < 2 ^ 64
    step_fits = below r.address (w.line_encoding.minimum_instruction_length
        * ((r.op_index + n) / w.line_encoding.maximum_operations_per_instruction)) (2 ^ (8 * w.encoding.address_size))
        (2 ^ 64) can.fits can.size
      where
        below : (a s x y : ℕ) → a + s < x → x ≤ y → s < y
        below a s x y h g = omega arith

-- ---- one advance after another

module _ (w : LineRules) (some : 0 < w.line_encoding.maximum_operations_per_instruction) (n k : ℕ) (r : Registers) where
  regroup : r.op_index + (n + k) ≡ ((r.op_index + n) % w.line_encoding.maximum_operations_per_instruction + k)
      + (r.op_index + n) / w.line_encoding.maximum_operations_per_instruction
      * w.line_encoding.maximum_operations_per_instruction
  regroup = group r.op_index n k ((r.op_index + n) % w.line_encoding.maximum_operations_per_instruction)
      ((r.op_index + n) / w.line_encoding.maximum_operations_per_instruction
      * w.line_encoding.maximum_operations_per_instruction)
      (mod-add-div' (r.op_index + n) w.line_encoding.maximum_operations_per_instruction)
    where
      group : (o a b t g : ℕ) → t + g ≡ o + a → o + (a + b) ≡ (t + b) + g
      group o a b t g e = omega arith

  quotient : (r.op_index + (n + k)) / w.line_encoding.maximum_operations_per_instruction
      ≡ ((r.op_index + n) % w.line_encoding.maximum_operations_per_instruction + k)
      / w.line_encoding.maximum_operations_per_instruction + (r.op_index + n)
      / w.line_encoding.maximum_operations_per_instruction
  quotient = ap (λ v. v / w.line_encoding.maximum_operations_per_instruction) regroup
      ∙ add-mul-div_right ((r.op_index + n) % w.line_encoding.maximum_operations_per_instruction + k)
      ((r.op_index + n) / w.line_encoding.maximum_operations_per_instruction) some

  pub remainder : (r.op_index + (n + k)) % w.line_encoding.maximum_operations_per_instruction
      ≡ ((r.op_index + n) % w.line_encoding.maximum_operations_per_instruction + k)
      % w.line_encoding.maximum_operations_per_instruction
  remainder = ap (λ v. v % w.line_encoding.maximum_operations_per_instruction) regroup
      ∙ add-mul-mod_self_right ((r.op_index + n) % w.line_encoding.maximum_operations_per_instruction + k)
      ((r.op_index + n) / w.line_encoding.maximum_operations_per_instruction)
      w.line_encoding.maximum_operations_per_instruction

  pub address_twice : (moved_by w (n + k) r).address ≡ (moved_by w k (moved_by w n r)).address
  address_twice = ap (λ v. r.address + w.line_encoding.minimum_instruction_length * v) quotient
      ∙ distribute r.address w.line_encoding.minimum_instruction_length
      (((r.op_index + n) % w.line_encoding.maximum_operations_per_instruction + k)
      / w.line_encoding.maximum_operations_per_instruction)
      ((r.op_index + n) / w.line_encoding.maximum_operations_per_instruction)
    where
      distribute : (a m u v : ℕ) → a + m * (u + v) ≡ (a + m * v) + m * u
      distribute a m u v = omega arith

  pub moved_twice : moved_by w k (moved_by w n r) ≡ moved_by w (n + k) r
  moved_twice = sym (ap (λ a. record r
      { address = a; op_index = (r.op_index + (n + k)) % w.line_encoding.maximum_operations_per_instruction })
      address_twice
      ∙ ap (λ o. record r { address = (moved_by w k (moved_by w n r)).address; op_index = o }) remainder)

  pub first_move : CanMove w (n + k) r → CanMove w n r
  first_move can = record {
    visible = can.visible;
    counted = less r.op_index n k (2 ^ 64) can.counted;
    fits = within (moved_by w (n + k) r).address (moved_by w n r).address
        (w.line_encoding.minimum_instruction_length
        * (((r.op_index + n) % w.line_encoding.maximum_operations_per_instruction + k)
        / w.line_encoding.maximum_operations_per_instruction)) (2 ^ (8 * w.encoding.address_size)) address_twice
        can.fits;
    size = can.size;
  }
    where
      less : (o a b y : ℕ) → o + (a + b) < y → o + a < y
      less o a b y h = omega arith

      within : (c a g y : ℕ) → c ≡ a + g → c < y → a < y
      within c a g y e h = omega arith

  pub second_move : CanMove w (n + k) r → CanMove w k (moved_by w n r)
  second_move can = record {
    visible = can.visible;
    counted = less (r.op_index + (n + k)) (((r.op_index + n) % w.line_encoding.maximum_operations_per_instruction) + k)
        ((r.op_index + n) / w.line_encoding.maximum_operations_per_instruction
        * w.line_encoding.maximum_operations_per_instruction) (2 ^ 64) regroup can.counted;
    fits = subst (λ a. a < 2 ^ (8 * w.encoding.address_size)) address_twice can.fits;
    size = can.size;
  }
    where
      less : (c a g y : ℕ) → c ≡ a + g → c < y → a < y
      less c a g y e h = omega arith

-- ---- special opcodes

pub and-first : (a b : Bool) → (a && b) ≡ true → a ≡ true
and-first true b h = refl
and-first false b h = h

pub and-second : (a b : Bool) → (a && b) ≡ true → b ≡ true
and-second true b h = h
and-second false b h = absurd (true≢false (sym h))

add_difference : (m n : ℕ) → m ≤ n → m + (n - m) ≡ n
add_difference m n h = omega arith

zero_more : (n : ℕ) → n ≡ n + 0
zero_more n = omega arith

module _ {F : Type 0} (w : LineRules) (can_build : IsBuildable w) where
  -- the row of a special opcode
  pub special_told : (d k : ℕ) (r : Registers) (rest : List (InstructionOf F)) → d < w.line_encoding.line_range
      → CanMove w k r
      → shows w r (special (13 + d + w.line_encoding.line_range * k) ∷ rest)
      ≡ prepend (with_line (line_after r.line (w.line_encoding.line_base +ℤ pos d)) (moved_by w k r) ∷ [])
      (shows w (after_row w (with_line (line_after r.line (w.line_encoding.line_base +ℤ pos d)) (moved_by w k r))) rest)
  special_told d k r rest low can =
      row_step w (special (13 + d + w.line_encoding.line_range * k)) r
      (with_line (line_after r.line (w.line_encoding.line_base +ℤ pos d)) (moved_by w k r)) rest
      (ap (λ v. after_operations w v (with_line
      (line_after r.line (line_advance w (13 + d + w.line_encoding.line_range * k))) r)) operations
      ∙ ap (λ v. after_operations w k (with_line (line_after r.line (w.line_encoding.line_base +ℤ pos v)) r)) lines
      ∙ advanced_is w k (with_line (line_after r.line (w.line_encoding.line_base +ℤ pos d)) r)
      (record { visible = can.visible; counted = can.counted; fits = can.fits; size = can.size }))
      refl can.visible
    where
      above : (13 + d + w.line_encoding.line_range * k) - w.opcode_base ≡ k * w.line_encoding.line_range + d
      above = ap (λ b. (13 + d + w.line_encoding.line_range * k) - b) can_build.first_special
          ∙ less d w.line_encoding.line_range k
        where
          less : (a b c : ℕ) → (13 + a + b * c) - 13 ≡ c * b + a
          less a b c = omega arith

      operations : operation_advance w (13 + d + w.line_encoding.line_range * k) ≡ k
      operations = ap (λ v. v / w.line_encoding.line_range) above ∙ div-mul-add k w.line_encoding.line_range d low

      lines : ((13 + d + w.line_encoding.line_range * k) - w.opcode_base) % w.line_encoding.line_range ≡ d
      lines = ap (λ v. v % w.line_encoding.line_range) above ∙ mod-mul-add k w.line_encoding.line_range d low

  -- the row at registers, a number of lines above the line base
  abbrev row_at : ℕ → ℕ → List (InstructionOf F) → Registers → Listing Registers Registers
  row_at line d rest to = prepend (with_line (line_after line (w.line_encoding.line_base +ℤ pos d)) to ∷ [])
      (shows w (after_row w (with_line (line_after line (w.line_encoding.line_base +ℤ pos d)) to)) rest)

  -- the row after what moves the address
  pub advance_told : (d n : ℕ) (r : Registers) (rest : List (InstructionOf F)) → d < w.line_encoding.line_range
      → CanMove w n r
      → shows w r (onto (advance w.line_encoding d n)
      (special (13 + d + w.line_encoding.line_range * opcode_operations w.line_encoding d n) ∷ rest))
      ≡ prepend (with_line (line_after r.line (w.line_encoding.line_base +ℤ pos d)) (moved_by w n r) ∷ [])
      (shows w (after_row w (with_line (line_after r.line (w.line_encoding.line_base +ℤ pos d)) (moved_by w n r))) rest)
  advance_told d n r rest low can = by (nat_le n (room w.line_encoding d)) (is_const w.line_encoding d n) refl
    where
      by : (b c : Bool) → is_const w.line_encoding d n ≡ c
          → shows w r (onto (cond b [] (cond c (ConstAddPc ∷ []) (AdvancePc n ∷ [])))
          (special (13 + d + w.line_encoding.line_range * (cond b n (cond c (n - most_operations w.line_encoding) 0)))
          ∷ rest)) ≡ row_at r.line d rest (moved_by w n r)
      by true c e = special_told d n r rest low can
      by false true e =
          let enough : most_operations w.line_encoding ≤ n =
          leb-true (most_operations w.line_encoding) n
          (and-first (nat_le (most_operations w.line_encoding) n)
          (nat_le (n - most_operations w.line_encoding) (room w.line_encoding d)) e) in
          let whole : most_operations w.line_encoding + (n - most_operations w.line_encoding) ≡ n =
          add_difference (most_operations w.line_encoding) n enough in
          let can' : CanMove w (most_operations w.line_encoding + (n - most_operations w.line_encoding)) r =
          subst (λ v. CanMove w v r) (sym whole) can in
          plain_step w const_add_pc r (moved_by w (most_operations w.line_encoding) r)
          (special (13 + d + w.line_encoding.line_range * (n - most_operations w.line_encoding)) ∷ rest)
          (ap (λ b. after_operations w ((255 - b) / w.line_encoding.line_range) r) can_build.first_special
          ∙ advanced_is w (most_operations w.line_encoding) r
          (first_move w can_build.has_operations (most_operations w.line_encoding)
          (n - most_operations w.line_encoding) r can')) refl
          ∙ special_told d (n - most_operations w.line_encoding) (moved_by w (most_operations w.line_encoding) r) rest
          low
          (second_move w can_build.has_operations (most_operations w.line_encoding)
          (n - most_operations w.line_encoding) r can')
          ∙ ap (row_at r.line d rest) (moved_twice w can_build.has_operations (most_operations w.line_encoding)
          (n - most_operations w.line_encoding) r ∙ ap (λ v. moved_by w v r) whole)
      by false false e =
          let can' : CanMove w (n + 0) r = subst (λ v. CanMove w v r) (zero_more n) can in
          plain_step w (advance_pc n) r (moved_by w n r) (special (13 + d + w.line_encoding.line_range * 0) ∷ rest)
          (advanced_is w n r can) refl
          ∙ special_told d 0 (moved_by w n r) rest low (second_move w can_build.has_operations n 0 r can')
          ∙ ap (row_at r.line d rest) (moved_twice w can_build.has_operations n 0 r
          ∙ ap (λ v. moved_by w v r) (sym (zero_more n)))

-- ---- lines

-- a line moved by the difference to another one is that one
pub line_reached : (line to : ℕ) → to < 2 ^ 63 → line_after line (pos to -ℤ pos line) ≡ to
line_reached line to h = by (pos to -ℤ pos line) refl
  where
    by : (z : ℤ) → (pos to -ℤ pos line) ≡ z → line_after line z ≡ to
    by (pos n) e = let g : line + n ≡ to = omega (arith, ints) in ap (λ v. v % 2 ^ 64) g ∙ mod-eq_of_lt (wide to h)
      where
        wide : (v : ℕ) → v < 2 ^ 63 → v < 2 ^ 64
        wide v g = omega arith
    by (negsuc n) e = omega (arith, ints)

pub line_kept : (line : ℕ) → line < 2 ^ 63 → line_after line (pos 0) ≡ line
line_kept line h = mod-eq_of_lt (wide line h) ∙ zero_less line
  where
    wide : (v : ℕ) → v < 2 ^ 63 → v + 0 < 2 ^ 64
    wide v g = omega arith

    zero_less : (v : ℕ) → v + 0 ≡ v
    zero_less v = omega arith

-- the distance from the line base
step_back : (b z : ℤ) → b ≤ℤ z → b +ℤ pos (unsigned_abs (z -ℤ b)) ≡ z
step_back b z h = by (z -ℤ b) refl
  where
    by : (v : ℤ) → (z -ℤ b) ≡ v → b +ℤ pos (unsigned_abs v) ≡ z
    by (pos n) e = omega (arith, ints)
    by (negsuc n) e = omega (arith, ints)

step_low : (b z : ℤ) (n : ℕ) → b ≤ℤ z → z <ℤ (b +ℤ pos n) → unsigned_abs (z -ℤ b) < n
step_low b z n h g = by (z -ℤ b) refl
  where
    by : (v : ℤ) → (z -ℤ b) ≡ v → unsigned_abs v < n
    by (pos k) e = omega (arith, ints)
    by (negsuc k) e = omega (arith, ints)

module _ (w : LineRules) (can_build : IsBuildable w) (z : ℤ) where
  -- what a special opcode is to move lies between its bounds
  left_bounds : (w.line_encoding.line_base ≤ℤ opcode_lines w.line_encoding z)
      × (opcode_lines w.line_encoding z <ℤ (w.line_encoding.line_base +ℤ pos w.line_encoding.line_range))
  left_bounds = by (is_special w.line_encoding z) refl
    where
      by : (b : Bool) → is_special w.line_encoding z ≡ b → (w.line_encoding.line_base ≤ℤ cond b z (pos 0))
          × (cond b z (pos 0) <ℤ (w.line_encoding.line_base +ℤ pos w.line_encoding.line_range))
      by true e = (
        le_z_yes (T_from_true (int_le w.line_encoding.line_base z)
            (and-first (int_le w.line_encoding.line_base z)
            (int_lt z (w.line_encoding.line_base +ℤ pos w.line_encoding.line_range)) e)),
        lt_z_yes (T_from_true (int_lt z (w.line_encoding.line_base +ℤ pos w.line_encoding.line_range))
            (and-second (int_le w.line_encoding.line_base z)
            (int_lt z (w.line_encoding.line_base +ℤ pos w.line_encoding.line_range)) e)),
      )
      by false e = (can_build.base_is_low, can_build.covers_zero)

  pub step_is_low : line_step w.line_encoding z < w.line_encoding.line_range
  step_is_low = step_low w.line_encoding.line_base (opcode_lines w.line_encoding z) w.line_encoding.line_range
      left_bounds.0 left_bounds.1

  pub step_is_back : w.line_encoding.line_base +ℤ pos (line_step w.line_encoding z) ≡ opcode_lines w.line_encoding z
  step_is_back = step_back w.line_encoding.line_base (opcode_lines w.line_encoding z) left_bounds.0

-- ---- all moves of a row

module _ {F : Type 0} (w : LineRules) (can_build : IsBuildable w) where
  pub moves_told : (line n : ℕ) (r : Registers) (rest : List (InstructionOf F)) → line < 2 ^ 63 → CanMove w n r
      → shows w r (onto (moves w.line_encoding (pos line -ℤ pos r.line) n) rest)
      ≡ prepend (with_line line (moved_by w n r) ∷ []) (shows w (after_row w (with_line line (moved_by w n r))) rest)
  unfolding moves
  moves_told line n r rest high can =
      let laid : onto (moves w.line_encoding (pos line -ℤ pos r.line) n) rest
      ≡ onto (when (not (is_special w.line_encoding (pos line -ℤ pos r.line))) (AdvanceLine (pos line -ℤ pos r.line)))
      (onto (advance w.line_encoding (line_step w.line_encoding (pos line -ℤ pos r.line)) n)
      (special (13 + line_step w.line_encoding (pos line -ℤ pos r.line) + w.line_encoding.line_range
      * opcode_operations w.line_encoding (line_step w.line_encoding (pos line -ℤ pos r.line)) n) ∷ rest)) =
      simp onto-append in
      ap (shows w r) laid ∙ by (is_special w.line_encoding (pos line -ℤ pos r.line)) refl
      (line_step w.line_encoding (pos line -ℤ pos r.line)) (step_is_low w can_build (pos line -ℤ pos r.line))
      (step_is_back w can_build (pos line -ℤ pos r.line))
    where
      by : (b : Bool) → is_special w.line_encoding (pos line -ℤ pos r.line) ≡ b → (d : ℕ)
          → d < w.line_encoding.line_range
          → w.line_encoding.line_base +ℤ pos d ≡ opcode_lines w.line_encoding (pos line -ℤ pos r.line)
          → shows w r (onto (when (not b) (AdvanceLine (pos line -ℤ pos r.line)))
          (onto (advance w.line_encoding d n)
          (special (13 + d + w.line_encoding.line_range * opcode_operations w.line_encoding d n) ∷ rest)))
          ≡ prepend (with_line line (moved_by w n r) ∷ [])
          (shows w (after_row w (with_line line (moved_by w n r))) rest)
      by true e d low back_to =
          advance_told w can_build d n r rest low can
          ∙ ap (λ l. prepend (with_line l (moved_by w n r) ∷ [])
          (shows w (after_row w (with_line l (moved_by w n r))) rest))
          (ap (line_after r.line) (back_to ∙ ap (λ b. cond b (pos line -ℤ pos r.line) (pos 0)) e)
          ∙ line_reached r.line line high)
      by false e d low back_to =
          plain_step w (advance_line (pos line -ℤ pos r.line)) r (with_line line r)
          (onto (advance w.line_encoding d n)
          (special (13 + d + w.line_encoding.line_range * opcode_operations w.line_encoding d n) ∷ rest))
          (ap (λ l. Ok (with_line l r)) (line_reached r.line line high)) refl
          ∙ advance_told w can_build d n (with_line line r) rest low
          (record { visible = can.visible; counted = can.counted; fits = can.fits; size = can.size })
          ∙ ap (λ l. prepend (with_line l (moved_by w n r) ∷ [])
          (shows w (after_row w (with_line l (moved_by w n r))) rest))
          (ap (line_after line) (back_to ∙ ap (λ b. cond b (pos line -ℤ pos r.line) (pos 0)) e) ∙ line_kept line high)
