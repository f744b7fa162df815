-- How many bytes the instructions take that show a unit's rows, and that none of them is refused.
use Rattle.std.proofs.Common.{◌≡◌, ℕ, suc, ◌+◌, ◌*◌, ◌-◌, ◌<◌, ◌≤◌, ◌^◌, ◌==◌, not, Bool, true, false, List, [], ◌∷◌, ◌++◌, length, sum_by, Result, Ok, refl, sym, ap, subst, ◌∙◌, arith, append_assoc}
use Rattle.std.proofs.lemmas.Bool.{lt-ltb}
use Rattle.std.proofs.lemmas.List.{length-append}
use Rattle.std.proofs.lemmas.List.Sums.{sum_by-cons}
use Rattle.linemap_emit_units.specs.Encoding.{Encoding}
use Rattle.linemap_emit_units.specs.Fixed.{number_bytes}
use Rattle.linemap_emit_units.specs.NumberParsers.{is_address_size}
use Rattle.linemap_emit_units.proofs.NumberRoundTrip.{length-spelled}
use Rattle.linemap_emit_units.specs.WriteError.{Error}
use Rattle.linemap_emit_units.specs.NumberBytes.{constant_of, bytes_in_width}
use Rattle.linemap_emit_units.specs.LineRules.{LineRules}
use Rattle.linemap_emit_units.specs.LineRow.{LineRow}
use Rattle.linemap_emit_units.specs.LineEntry.{LineEntry}
use Rattle.linemap_emit_units.specs.LineEntry.TheVariants.{EndSequence}
use Rattle.linemap_emit_units.specs.LineInstruction.{LineInstruction}
use Rattle.linemap_emit_units.specs.LineInstruction.TheVariants.{Special, AdvancePc, AdvanceLine, SetFile, SetColumn, NegateStatement, SetBasicBlock, ConstAddPc, SetPrologueEnd, SetEpilogueBegin, SetIsa, EndSequence as EndInstruction, SetDiscriminator}
use Rattle.linemap_emit_units.specs.BuiltRows.{first_row, row_after_row, row_at_address, operations_between}
use Rattle.linemap_emit_units.specs.RowPieces.{when, row_piece, end_piece}
use Rattle.linemap_emit_units.specs.LineInstructionBytes.{instruction_bytes, instructions_bytes}
use Rattle.linemap_emit_units.specs.EntryBytes.{join_bytes, entries_bytes, address_entry}
use Rattle.linemap_emit_units.proofs.FewInstructions.{length-row_piece}
use Rattle.linemap_emit_units.proofs.EmittedRangesRead.{bytes_bits}
use Rattle.linemap_emit_units.proofs.Wrapping.{at_most_eight}
use Rattle.linemap_emit_units.specs.TableParts.{RowPart, SequencePart}
use Rattle.linemap_emit_units.specs.TableWeight.{sequence_weight}
use Rattle.linemap_emit_units.specs.EmittedRows.{emitted_row, emitted_rows, emitted_sequence, emitted_sequences, emitted_rules, CanBuild, AllCanBuild}
use Rattle.linemap_emit_fits.proofs.NumberSizes.{length-unsigned, length-signed}

-- ---- instructions

length-encoded : (i : LineInstruction) → length (instruction_bytes i) ≤ 13
length-encoded (Special opcode) = omega arith
length-encoded (AdvancePc n) = let h = length-unsigned n in omega arith
length-encoded (AdvanceLine n) = let h = length-signed n in omega arith
length-encoded (SetFile n) = let h = length-unsigned n in omega arith
length-encoded (SetColumn n) = let h = length-unsigned n in omega arith
length-encoded NegateStatement = omega arith
length-encoded SetBasicBlock = omega arith
length-encoded ConstAddPc = omega arith
length-encoded SetPrologueEnd = omega arith
length-encoded SetEpilogueBegin = omega arith
length-encoded (SetIsa n) = let h = length-unsigned n in omega arith
length-encoded EndInstruction = omega arith
length-encoded (SetDiscriminator n) = let h = length-unsigned n in omega arith

length-all_encoded : (is : List LineInstruction) → length (instructions_bytes is) ≤ 13 * length is
length-all_encoded [] = omega arith
length-all_encoded (i ∷ is) =
    sum (length (instruction_bytes i)) (length (instructions_bytes is)) (length is) _ (length-encoded i)
    (length-all_encoded is)
    (length-append (instruction_bytes i) (instructions_bytes is))
  where
    sum : (a b n x : ℕ) → a ≤ 13 → b ≤ 13 * n → x ≡ a + b → x ≤ 13 * suc n
    sum a b n x g h e = omega arith

row_few : (rules : LineRules) (previous row : LineRow)
    → length (instructions_bytes (row_piece rules previous row)) ≤ 160
row_few rules previous row =
    sum (length (row_piece rules previous row)) _ (length-row_piece rules previous row)
    (length-all_encoded (row_piece rules previous row))
  where
    sum : (n x : ℕ) → n ≤ 11 → x ≤ 13 * n → x ≤ 160
    sum n x g h = omega arith

end_few : (rules : LineRules) (previous : LineRow) (offset op_index : ℕ)
    → length (instructions_bytes (end_piece rules previous offset op_index)) ≤ 26
unfolding end_piece
end_few rules previous offset op_index =
    by (not (operations_between rules previous offset op_index == 0))
    (operations_between rules previous offset op_index)
  where
    by : (b : Bool) (n : ℕ) → length (instructions_bytes (when b (AdvancePc n) ++ EndInstruction ∷ [])) ≤ 26
    by true n = length-all_encoded (AdvancePc n ∷ EndInstruction ∷ [])
    by false n = omega arith

-- ---- entries

-- bytes that aren't refused, and at most a number of them
pub record IsWithin (n : ℕ) (r : Result (List ℕ) Error) : Type 0 where
  pub bytes : List ℕ
  pub are : r ≡ Ok bytes
  pub few : length bytes ≤ n

pub bytes_within : (n : ℕ) (bytes : List ℕ) → length bytes ≤ n → IsWithin n (Ok bytes)
bytes_within n bytes h = record { bytes = bytes; are = refl; few = h }

pub joined_within : {a b : Result (List ℕ) Error} (m n limit : ℕ) → IsWithin m a → IsWithin n b → m + n ≤ limit
    → IsWithin limit (join_bytes a b)
joined_within {a} {b} m n limit g h fits = record {
  bytes = g.bytes ++ h.bytes;
  are = ap (λ x. join_bytes x b) g.are ∙ ap (join_bytes (Ok g.bytes)) h.are;
  few = let l = length-append g.bytes h.bytes in let p = g.few in let q = h.few in omega arith;
}

pub sized_within : (is_big : Bool) (size n : ℕ) → is_address_size size ≡ true → n < 2 ^ (8 * size)
    → IsWithin 8 (bytes_in_width is_big size n)
sized_within is_big size n is_size low = record {
  bytes = number_bytes is_big size n;
  are =
      rw (is_size, lt-ltb n (256 ^ size) (subst (λ (k : ℕ). n < k) (sym (bytes_bits size)) low))
      refl;
  few = let l = length-spelled is_big size n in let narrow = at_most_eight size is_size in omega arith;
}

address_within : (is_big : Bool) (size n : ℕ) → is_address_size size ≡ true → n < 2 ^ (8 * size)
    → IsWithin 11 (address_entry is_big size (Ok n))
address_within is_big size n is_size low =
    joined_within 3 8 11 (bytes_within 3 (0 ∷ (1 + size) ∷ 2 ∷ []) (omega arith))
    (sized_within is_big size n is_size low) (omega arith)

module _ (e : Encoding) (is_big : Bool) (is_size : is_address_size e.address_size ≡ true) (place : ℕ → ℕ) where
  rows_within : (m begin offset : ℕ) (previous : LineRow) (rs : List RowPart) (rest : List LineEntry)
      → IsWithin m (entries_bytes constant_of is_big (emitted_rules e) (first_row (emitted_rules e)) rest)
      → IsWithin (160 * length rs + (26 + m))
      (entries_bytes constant_of is_big (emitted_rules e) previous
      (emitted_rows place begin rs ++ EndSequence offset 0 ∷ rest))
  rows_within m begin offset previous [] rest h =
      joined_within 26 m _ (bytes_within 26 _ (end_few (emitted_rules e) previous offset 0)) h (omega arith)
  rows_within m begin offset previous (r ∷ rs) rest h =
      joined_within 160 (160 * length rs + (26 + m)) _
      (bytes_within 160 _ (row_few (emitted_rules e) previous (emitted_row place begin r)))
      (rows_within m begin offset (row_after_row (emitted_row place begin r)) rs rest h) (omega arith)

  -- a first row whose address is one of the size
  FirstIsLow : List RowPart → Type 0
  FirstIsLow [] = Unit {0}
  FirstIsLow (r ∷ rs) = r.address < 2 ^ (8 * e.address_size)

  sequence_within : (m end : ℕ) (rs : List RowPart) (rest : List LineEntry) → FirstIsLow rs
      → IsWithin m (entries_bytes constant_of is_big (emitted_rules e) (first_row (emitted_rules e)) rest)
      → IsWithin ((64 + 160 * length rs) + m)
      (entries_bytes constant_of is_big (emitted_rules e) (first_row (emitted_rules e))
      (emitted_sequence place (record { rows = rs; end = end }) ++ rest))
  unfolding FirstIsLow
  sequence_within m end [] rest low h = record { bytes = h.bytes; are = h.are; few = let few = h.few in omega arith }
  sequence_within m end (r ∷ rs) rest low h =
      subst (λ es. IsWithin ((64 + 160 * length (r ∷ rs)) + m)
      (join_bytes (address_entry is_big e.address_size (Ok r.address))
      (entries_bytes constant_of is_big (emitted_rules e) (row_at_address (first_row (emitted_rules e))) es)))
      (sym (append_assoc (emitted_rows place r.address (r ∷ rs)) (EndSequence (end - r.address) 0 ∷ []) rest))
      (joined_within 11 (160 * length (r ∷ rs) + (26 + m)) _
      (address_within is_big e.address_size r.address is_size low)
      (rows_within m r.address (end - r.address) (row_at_address (first_row (emitted_rules e))) (r ∷ rs) rest h)
      (omega arith))

  pub sequences_within : (ss : List SequencePart) → AllCanBuild e.address_size ss
      → IsWithin (sum_by sequence_weight ss)
      (entries_bytes constant_of is_big (emitted_rules e) (first_row (emitted_rules e)) (emitted_sequences place ss))
  unfolding AllCanBuild CanBuild FirstIsLow
  sequences_within [] all = bytes_within 0 [] (omega arith)
  sequences_within (s ∷ ss) all =
      let known = all.0 in
      subst (λ n. IsWithin n
      (entries_bytes constant_of is_big (emitted_rules e) (first_row (emitted_rules e))
      (emitted_sequences place (s ∷ ss))))
      (sym (sum_by-cons sequence_weight s ss))
      (sequence_within (sum_by sequence_weight ss) s.end s.rows (emitted_sequences place ss)
      (subst FirstIsLow (sym known.rows) known.ascend.1) (sequences_within ss all.1))
