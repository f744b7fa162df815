-- A length that is written once it is known.
use Rattle.std.proofs.Common.{◌≡◌, ◌≢◌, ℕ, ◌+◌, ◌-◌, ◌≤◌, ◌^◌, nat_lt, Bool, true, false, cond, List, [], ◌++◌, length, take, drop, replicate, Result, Ok, Err, refl, sym, ap, subst, ◌∙◌, arith, append_assoc}
use Rattle.std.proofs.lemmas.Bool.{le-ltb}
use Rattle.std.proofs.lemmas.List.{length-append, append-nil}
use Rattle.std.proofs.Math.Seq.{take-append_seam, drop-append_seam, drop-append-add}
use Rattle.gimli_lines_write_tables.specs.Format.{Format}
use Rattle.gimli_lines_write_tables.specs.Format.TheVariants.{Dwarf32, Dwarf64}
use Rattle.gimli_lines_write_tables.specs.FormatSizes.{word_size}
use Rattle.gimli_lines_write_tables.specs.Fixed.{number_bytes}
use Rattle.gimli_lines_write_tables.proofs.NumberRoundTrip.{length-spelled}
use Rattle.gimli_lines_write_tables.specs.WriteError.{Error}
use Rattle.gimli_lines_write_tables.specs.WriteError.TheVariants.{Memory, OffsetOutOfBounds, LengthOutOfBounds, InitialLengthOverflow, ValueTooLarge}
use Rattle.gimli_lines_write_tables.specs.OutputBytes.{WriterContents, append, append_result, replace, replace_within, replace_result, Overwrites}
use Rattle.gimli_lines_write_tables.specs.NumberBytes.{escape, length_bytes}
use Rattle.gimli_lines_write_tables.specs.EntryBytes.{join_bytes, Extends, Continues}
use Rattle.gimli_lines_write_unit.specs.UnitBytes.{with_length}

-- nothing written
pub extends_self : (w : WriterContents) → Extends w w
extends_self w = record { more = []; bytes = sym (append-nil w.bytes); order = refl }

-- a first write that was refused
pub refused_first : {A : Type 0} (r : Result A Error) (e : Error) (old new made : WriterContents)
    (bytes : Result (List ℕ) Error) → r ≡ Err e → (e ≢ Memory → Ok made ≡ Err e) × (new ≡ old)
    → Continues r old new bytes
refused_first (Ok x) e old new made bytes is h = absurd (cc)
refused_first (Err d) e old new made bytes is h = (
  λ n. absurd (let q : e ≢ Memory = subst (λ x. x ≢ Memory) (let s : d ≡ e = cc in s) n in let k = h.0 q in cc),
  record {
    more = [];
    bytes = ap (λ (w : WriterContents). w.bytes) h.1 ∙ sym (append-nil old.bytes);
    order = ap (λ (w : WriterContents). w.is_big) h.1;
  },
)

-- bytes in the place of as many
length_splice : (o esc zs b lb : List ℕ) → length zs ≡ length lb
    → (take (length o + length esc) ((o ++ (esc ++ zs)) ++ b) ++ lb)
    ++ drop ((length o + length esc) + length lb) ((o ++ (esc ++ zs)) ++ b) ≡ o ++ (esc ++ (lb ++ b))
length_splice o esc zs b lb e =
    ap (λ l. (take (length o + length esc) l ++ lb) ++ drop ((length o + length esc) + length lb) l) regroup
    ∙ ap (λ n. (take n ((o ++ esc) ++ (zs ++ b)) ++ lb) ++ drop (n + length lb) ((o ++ esc) ++ (zs ++ b)))
    (sym (length-append o esc))
    ∙ ap (λ l. (l ++ lb) ++ drop (length (o ++ esc) + length lb) ((o ++ esc) ++ (zs ++ b)))
    (take-append_seam (o ++ esc) (zs ++ b))
    ∙ ap (λ l. ((o ++ esc) ++ lb) ++ l) (drop-append-add (o ++ esc) (zs ++ b) (length lb)
    ∙ ap (λ n. drop n (zs ++ b)) (sym e) ∙ drop-append_seam zs b)
    ∙ append_assoc (o ++ esc) lb b ∙ append_assoc o esc (lb ++ b)
  where
    regroup : (o ++ (esc ++ zs)) ++ b ≡ (o ++ esc) ++ (zs ++ b)
    regroup = ap (λ l. l ++ b) (sym (append_assoc o esc zs)) ∙ append_assoc (o ++ esc) zs b

-- a length has the bytes of its format
length_takes_room : (is_big : Bool) (format : Format) (n : ℕ) (lb : List ℕ) → length_bytes is_big format n ≡ Ok lb
    → length {A = ℕ} (replicate (word_size format) 0) ≡ length lb
length_takes_room is_big Dwarf32 n lb e = by (nat_lt n 0xfffffff0) e
  where
    by : (b : Bool) → cond b (Ok (number_bytes is_big 4 n)) (Err InitialLengthOverflow) ≡ Ok lb → 4 ≡ length lb
    by true h = let s : number_bytes is_big 4 n ≡ lb = cc in sym (length-spelled is_big 4 n) ∙ ap length s
    by false h = absurd (cc)
length_takes_room is_big Dwarf64 n lb e = by (nat_lt n (256 ^ 8)) e
  where
    by : (b : Bool) → cond b (Ok (number_bytes is_big 8 n)) (Err ValueTooLarge) ≡ Ok lb → 8 ≡ length lb
    by true h = let s : number_bytes is_big 8 n ≡ lb = cc in sym (length-spelled is_big 8 n) ∙ ap length s
    by false h = absurd (cc)

-- a length over the room for it
module _ {A : Type 0} (r : Result A Error) (old new : WriterContents) (format : Format) (b : List ℕ) where
  -- what was written before it
  front : Extends old (append b (append (escape format ++ replicate (word_size format) 0) old))
  front = record {
    more = (escape format ++ replicate (word_size format) 0) ++ b;
    bytes = append_assoc old.bytes (escape format ++ replicate (word_size format) 0) b;
    order = refl;
  }

  over : (lb : List ℕ) → length {A = ℕ} (replicate (word_size format) 0) ≡ length lb
      → replace_within (length old.bytes + length (escape format)) lb
      (append b (append (escape format ++ replicate (word_size format) 0) old))
      ≡ Ok (append (escape format ++ (lb ++ b)) old)
  over lb e =
      ap (λ c. cond c (Err OffsetOutOfBounds)
      (cond (nat_lt (length whole) ((length old.bytes + length (escape format)) + length lb))
      (Err LengthOutOfBounds) (Ok (replace (length old.bytes + length (escape format)) lb
      (record { bytes = whole; is_big = old.is_big })))))
      (le-ltb (length whole) (length old.bytes + length (escape format)) (within.0))
      ∙ ap (λ c. cond c (Err LengthOutOfBounds)
      (Ok (replace (length old.bytes + length (escape format)) lb (record { bytes = whole; is_big = old.is_big }))))
      (le-ltb (length whole) ((length old.bytes + length (escape format)) + length lb) (within.1))
      ∙ ap (λ l. Ok (record { bytes = l; is_big = old.is_big }))
      (length_splice old.bytes (escape format) (replicate (word_size format) 0) b lb e)
    where
      whole : List ℕ
      whole = (old.bytes ++ (escape format ++ replicate (word_size format) 0)) ++ b

      counted_whole : length whole ≡ (length old.bytes
          + (length (escape format) + length {A = ℕ} (replicate (word_size format) 0))) + length b
      counted_whole = length-append (old.bytes ++ (escape format ++ replicate (word_size format) 0)) b
          ∙ ap (λ n. n + length b) (length-append old.bytes (escape format ++ replicate (word_size format) 0)
          ∙ ap (λ n. length old.bytes + n) (length-append (escape format) (replicate (word_size format) 0)))

      below : (w o s z c l : ℕ) → w ≡ (o + (s + z)) + c → z ≡ l → (o + s ≤ w) × ((o + s) + l ≤ w)
      below w o s z c l p q = (omega arith, omega arith)

      within : (length old.bytes + length (escape format) ≤ length whole)
          × ((length old.bytes + length (escape format)) + length lb ≤ length whole)
      within = below (length whole) (length old.bytes) (length (escape format))
          (length {A = ℕ} (replicate (word_size format) 0)) (length b) (length lb) counted_whole e

  by_length : (c : Result (List ℕ) Error) → length_bytes old.is_big format (length b) ≡ c
      → Overwrites r (append b (append (escape format ++ replicate (word_size format) 0) old)) new
      (replace_result (length old.bytes + length (escape format)) c
      (append b (append (escape format ++ replicate (word_size format) 0) old)))
      → Continues r old new (join_bytes (Ok (escape format)) (join_bytes c (Ok b)))
  by_length (Ok lb) e h = by r (subst (λ x.
      Overwrites r (append b (append (escape format ++ replicate (word_size format) 0) old)) new x)
      (over lb (length_takes_room old.is_big format (length b) lb e)) h)
    where
      by : (s : Result A Error) → Overwrites s (append b (append (escape format ++ replicate (word_size format) 0) old))
          new (Ok (append (escape format ++ (lb ++ b)) old)) → Continues s old new (Ok (escape format ++ (lb ++ b)))
      by (Ok x) g = g
      by (Err d) g = absurd (let k = g.0 in cc)
  by_length (Err f) e h = by r h
    where
      by : (s : Result A Error) → Overwrites s (append b (append (escape format ++ replicate (word_size format) 0) old))
          new (Err f) → Continues s old new (Err f)
      by (Ok x) g = absurd (cc)
      by (Err d) g = (λ n. let k : f ≡ d = (let q = g.0 in cc) in ap Err k, subst (λ x. Extends old x) (sym g.1) front)

pub length_patch : {A : Type 0} (r : Result A Error) (old first second new : WriterContents) (format : Format)
    (body : Bool → Result (List ℕ) Error) (place n : ℕ)
    → append (escape format ++ replicate (word_size format) 0) old ≡ first
    → place ≡ length old.bytes + length (escape format)
    → append_result (body first.is_big) first ≡ Ok second → n ≡ length second.bytes - length first.bytes
    → Overwrites r second new (replace_result place (length_bytes second.is_big format n) second)
    → Continues r old new (with_length old.is_big format (body old.is_big))
length_patch r old first second new format body place n e1 e2 e3 e4 h =
    by (body old.is_big) (subst (λ (f : WriterContents). append_result (body f.is_big) f ≡ Ok second) (sym e1) e3)
  where
    rest : (a m : ℕ) → (a + m) - a ≡ m
    rest a m = omega arith

    by : (c : Result (List ℕ) Error) → append_result c (append (escape format ++ replicate (word_size format) 0) old)
        ≡ Ok second → Continues r old new (with_length old.is_big format c)
    by (Err d) k = absurd (cc)
    by (Ok b) k =
        let there : append b (append (escape format ++ replicate (word_size format) 0) old) ≡ second = cc in
        let count : n ≡ length b = e4 ∙ ap (λ (f : WriterContents). length second.bytes - length f.bytes) (sym e1)
        ∙ ap (λ (s : WriterContents). length s.bytes
        - length (old.bytes ++ (escape format ++ replicate (word_size format) 0))) (sym there)
        ∙ ap (λ m. m - length (old.bytes ++ (escape format ++ replicate (word_size format) 0)))
        (length-append (old.bytes ++ (escape format ++ replicate (word_size format) 0)) b)
        ∙ rest (length (old.bytes ++ (escape format ++ replicate (word_size format) 0))) (length b) in
        by_length r old new format b (length_bytes old.is_big format (length b)) refl
        (subst (λ m. Overwrites r (append b (append (escape format ++ replicate (word_size format) 0) old)) new
        (replace_result (length old.bytes + length (escape format)) (length_bytes old.is_big format m)
        (append b (append (escape format ++ replicate (word_size format) 0) old)))) count
        (subst (λ p. Overwrites r (append b (append (escape format ++ replicate (word_size format) 0) old)) new
        (replace_result p (length_bytes old.is_big format n)
        (append b (append (escape format ++ replicate (word_size format) 0) old)))) e2
        (subst (λ (s : WriterContents). Overwrites r s new (replace_result place (length_bytes s.is_big format n) s))
        (sym there) h)))
