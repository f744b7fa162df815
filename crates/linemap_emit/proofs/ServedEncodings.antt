-- What holds in the encodings of targets.
use Rattle.std.proofs.Common.{◌≡◌, ℕ, ◌≤◌, ◌^◌, Bool, true, not, ◌==◌, ◌&&◌, ◌||◌, nat_le, List, ap, inl, inr, arith}
use Rattle.std.specs.Prelude.{All}
use Rattle.std.proofs.lemmas.Bool.{and_parts, or_cases, eqb-true, leb-true}
use Rattle.linemap_emit_fits.specs.Encoding.{Encoding}
use Rattle.linemap_emit_fits.specs.NumberParsers.{is_address_size}
use Rattle.linemap_table.specs.EmissionTargets.{encoding_of}
use Rattle.linemap_table.specs.TargetEncodings.{is_64_bit}
use Rattle.linemap_table.specs.declared.target.Target.{Target}
use Rattle.linemap_emit_fits.specs.Entry.{Entry}
use Rattle.linemap_emit_laws.proofs.EmittedFunctionLemmas.{entries_below}
use Rattle.linemap_emit_fits.specs.EmittedEntries.{AllFit, attributes_of}
use Rattle.linemap_emit_fits.specs.EmittedUnits.{IsWritten}

-- entries that fit below a limit fit below a larger one
pub entries_fit : (e : Encoding) (xs : List Entry) → All (λ x. AllFit (2 ^ 31) e (attributes_of x)) xs
    → All (λ x. AllFit (2 ^ 64) e (attributes_of x)) xs
entries_fit e xs h = entries_below (2 ^ 64) e xs (omega arith) h

-- ---- the encoding of a target can be written

-- the version and the size of addresses
not_before_2 : (version : ℕ) (b : Bool)
    → (((version == 2) && b) || (nat_le 3 version && nat_le version 5)) ≡ true → 2 ≤ version
not_before_2 version b h = elim (or_cases ((version == 2) && b) (nat_le 3 version && nat_le version 5) h) [
  | inl old ↦ let two = eqb-true version 2 (and_parts (version == 2) b old).0 in omega arith
  | inr new ↦ let three = leb-true 3 version (and_parts (nat_le 3 version) (nat_le version 5) new).0 in omega arith
]

is_size : (size : ℕ) → ((size == 4) || (size == 8)) ≡ true → is_address_size size ≡ true
is_size size h = elim (or_cases (size == 4) (size == 8) h) [
  | inl four ↦ ap is_address_size (eqb-true size 4 four)
  | inr eight ↦ ap is_address_size (eqb-true size 8 eight)
]

not_after_5 : (version : ℕ) (b : Bool)
    → (((version == 2) && b) || (nat_le 3 version && nat_le version 5)) ≡ true → version ≤ 5
not_after_5 version b h = elim (or_cases ((version == 2) && b) (nat_le 3 version && nat_le version 5) h) [
  | inl old ↦ let two = eqb-true version 2 (and_parts (version == 2) b old).0 in omega arith
  | inr new ↦ leb-true version 5 (and_parts (nat_le 3 version) (nat_le version 5) new).1
]

pub target_is_written : (t : Target) → IsWritten (encoding_of t)
target_is_written t =
    let e = encoding_of t in
    let version = ((e.version == 2) && not (is_64_bit e.format)) || (nat_le 3 e.version && nat_le e.version 5) in
    let parts = and_parts version ((e.address_size == 4) || (e.address_size == 8)) t.served in
    record {
      not_before_2 = not_before_2 e.version (not (is_64_bit e.format)) parts.0;
      not_after_5 = not_after_5 e.version (not (is_64_bit e.format)) parts.0;
      has_address_size = is_size e.address_size parts.1;
    }
