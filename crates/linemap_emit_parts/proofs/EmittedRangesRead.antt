-- The bytes of a range list are read as its ranges.
use Rattle.std.proofs.Common.{◌≡◌, ℕ, zero, suc, ◌<◌, ◌^◌, ◌+◌, ◌*◌, Bool, true, false, cond, leb, eqb, List, [], ◌∷◌, ◌++◌, length, map, unwrap_or, Option, Some, None, Result, Ok, refl, sym, ap, ◌∙◌, arith, append_assoc}
use Rattle.std.specs.Prelude.{nat_le, flat_map}
use Rattle.std.proofs.lemmas.Nat.{pow-add}
use Rattle.std.proofs.Math.Nat.{pow-suc, mod-eq_of_lt, one-le-pow}
use Rattle.std.proofs.lemmas.List.{length-append}
use Rattle.std.proofs.lemmas.Bool.{lt-ltb, lt-leb, ne_eqb}
use Rattle.gimli_lines_write_bytes.specs.Error.{Error}
use Rattle.gimli_lines_write_bytes.specs.View.{View}
use Rattle.gimli_lines_write_bytes.specs.Parsers.{give, ◌>>=◌}
use Rattle.gimli_lines_write_bytes.specs.Encoding.{Encoding}
use Rattle.gimli_lines_write_bytes.specs.NumberParsers.{is_address_size, address}
use Rattle.gimli_lines_write_bytes.specs.Fixed.{number_bytes}
use Rattle.gimli_lines_write_bytes.proofs.NumberRoundTrip.{length-spelled}
use Rattle.gimli_units_lists.specs.Addresses.{least_tombstone, greatest_address, wrap}
use Rattle.gimli_units_lists.specs.Range.{Range}
use Rattle.gimli_units_lists.proofs.ByteCountLemmas.{some_size}
use Rattle.gimli_units_lists.specs.ListEntries.{RawEntry, address_or_offset_pair, start_end, valid_range, relative_range, range_of, base_in, Setting}
use Rattle.gimli_units_lists.specs.ListEntryFields.{addresses}
use Rattle.gimli_units_lists.specs.RangeEntries.{RemainingRawRanges, range_entry, range_pair, range_kind}
use Rattle.gimli_units_lists.specs.ListSections.{RemainingRanges, ranges_to_come, from_low_pc}
use Rattle.gimli_units_lists.proofs.RawRanges.{raw_item, raw_end}
use Rattle.gimli_units_lists.proofs.RangeSteps.{range_step, range_end}
use Rattle.gimli_lines_write_bytes.proofs.FollowedReads.{Again, again_fixed, again_onward, again_then, again_same, one_byte}
use Rattle.linemap_emit_parts.specs.EmittedRanges.{spelled_pair, spelled_range, spelled_end, spelled_ranges, IsWritable, AllWritable}
use Rattle.gimli_lines_write_bytes.specs.BytesAt.{bytes_at}

-- bytes and bits
pub bytes_bits : (n : ℕ) → 256 ^ n ≡ 2 ^ (8 * n)
bytes_bits zero = refl
bytes_bits (suc n) =
    let eight : 8 * suc n ≡ 8 * n + 8 = omega arith in
    pow-suc 256 n ∙ ap (λ (x : ℕ). x * 256) (bytes_bits n) ∙ sym (ap (λ (k : ℕ). 2 ^ k) eight ∙ pow-add 2 (8 * n) 8)

address_again : (is_big : Bool) (first size a : ℕ) → is_address_size size ≡ true → a < 2 ^ (8 * size)
    → Again is_big first (address size) a (number_bytes is_big size a)
unfolding address
address_again is_big first size a is_size h =
    again_same (λ v. rw is_size refl) (again_fixed is_big first size a (rw (bytes_bits size) h))

pair_again : (is_big : Bool) (first size begin end : ℕ) → is_address_size size ≡ true → begin < 2 ^ (8 * size)
    → end < 2 ^ (8 * size) → Again is_big first (addresses size) (begin, end) (spelled_pair size is_big begin end)
unfolding addresses
pair_again is_big first size begin end is_size h k =
    again_onward (λ x. address size >>= λ y. give (x, y)) (address_again is_big first size begin is_size h)
    (again_then (λ y. give (begin, y))
    (address_again is_big (first + length (number_bytes is_big size begin)) size end is_size k) (λ v. refl))

-- what a range is read as
abbrev entry_for : Encoding → Range → RawEntry
entry_for e r = cond (nat_le e.version 4) (address_or_offset_pair r.begin r.end) (start_end r.begin r.end)

begin_fits : (size : ℕ) (r : Range) → IsWritable size r → r.begin < 2 ^ (8 * size)
begin_fits size r w = let a = w.begins_low in omega arith

range_again : (limit : ℕ) (e : Encoding) (is_big : Bool) (first : ℕ) (r : Range) → is_address_size e.address_size ≡ true
    → IsWritable e.address_size r
    → Again is_big first (range_entry limit e) (Some (entry_for e r)) (spelled_range e is_big r)
unfolding range_entry range_pair range_kind
range_again limit e is_big first r is_size w = by_version (nat_le e.version 4) refl
  where
    by_version : (b : Bool) → nat_le e.version 4 ≡ b
        → Again is_big first (range_entry limit e) (Some (entry_for e r)) (spelled_range e is_big r)
    by_version true earlier =
        let some = w.not_from_0 in
        let low = w.begins_low in
        let not_0 = ne_eqb r.begin 0 (omega arith) in
        let not_ones = ne_eqb r.begin (greatest_address e.address_size) (omega arith) in
        rw earlier (again_then _
        (pair_again is_big first e.address_size r.begin r.end is_size (begin_fits e.address_size r w) w.ends_low)
        (λ v. rw (not_0, not_ones) refl))
    by_version false later =
        rw later (again_onward _ (one_byte is_big first 6 (omega arith))
        (again_same (λ v. refl)
        (again_then (λ p. give (Some (start_end p.0 p.1)))
        (pair_again is_big (first + 1) e.address_size r.begin r.end is_size (begin_fits e.address_size r w)
        w.ends_low) (λ v. refl))))

end_again : (limit : ℕ) (e : Encoding) (is_big : Bool) (first : ℕ) → is_address_size e.address_size ≡ true
    → Again is_big first (range_entry limit e) None (spelled_end e is_big)
unfolding range_entry range_pair range_kind
end_again limit e is_big first is_size = by_version (nat_le e.version 4) refl
  where
    by_version : (b : Bool) → nat_le e.version 4 ≡ b
        → Again is_big first (range_entry limit e) None (spelled_end e is_big)
    by_version true earlier =
        let some = one-le-pow (8 * e.address_size) 2 (omega arith) in
        rw earlier (again_then _ (pair_again is_big first e.address_size 0 0 is_size (omega arith) (omega arith))
        (λ v. refl))
    by_version false later = rw later (again_then _ (one_byte is_big first 0 (omega arith)) (λ v. refl))

-- ---- the meaning of an entry, at the base 0

-- a range that can be written counts
pair_counts : (size : ℕ) (r : Range) → IsWritable size r → valid_range size r.begin r.end ≡ Some r
pair_counts size r w = rw (lt-ltb r.begin r.end w.not_empty, lt-ltb r.begin (least_tombstone size) w.begins_low) refl

pair_is_relative : (size : ℕ) (r : Range) → IsWritable size r → relative_range size 0 r.begin r.end ≡ Some r
pair_is_relative size r w =
    let low = w.begins_low in
    let some = w.not_from_0 in
    let none : leb (least_tombstone size) 0 ≡ false = lt-leb (least_tombstone size) 0 (omega arith) in
    let begin : wrap size (0 + r.begin) ≡ r.begin =
    ap (wrap size) (zero_before r.begin) ∙ mod-eq_of_lt (begin_fits size r w) in
    let end : wrap size (0 + r.end) ≡ r.end = ap (wrap size) (zero_before r.end) ∙ mod-eq_of_lt w.ends_low in
    ap (λ (b : Bool). cond {A = Option Range} b None
    (valid_range size (wrap size (0 + r.begin)) (wrap size (0 + r.end)))) none
    ∙ ap (λ (n : ℕ). valid_range size n (wrap size (0 + r.end))) begin ∙ ap (valid_range size r.begin) end
    ∙ pair_counts size r w
  where
    zero_before : (n : ℕ) → 0 + n ≡ n
    zero_before n = omega arith

-- the setting of a list that is read against the base 0
abbrev setting_for : Encoding → ℕ → View → Setting
setting_for e addr_base addresses = (from_low_pc e 0 addr_base addresses).setting

range_stands : (e : Encoding) (addr_base : ℕ) (addresses : View) (r : Range) → IsWritable e.address_size r
    → range_of (setting_for e addr_base addresses) 0 (entry_for e r) ≡ Ok (Some r)
range_stands e addr_base addresses r w = by_version (nat_le e.version 4) refl
  where
    by_version : (b : Bool) → nat_le e.version 4 ≡ b
        → range_of (setting_for e addr_base addresses) 0 (entry_for e r) ≡ Ok (Some r)
    by_version true earlier = rw earlier (ap (λ (o : Option Range). Ok o) (pair_is_relative e.address_size r w))
    by_version false later = rw later (ap (λ (o : Option Range). Ok o) (pair_counts e.address_size r w))

no_base : (e : Encoding) (addr_base : ℕ) (addresses : View) (r : Range)
    → base_in (setting_for e addr_base addresses) (entry_for e r) ≡ None
no_base e addr_base addresses r = by_version (nat_le e.version 4) refl
  where
    by_version : (b : Bool) → nat_le e.version 4 ≡ b
        → base_in (setting_for e addr_base addresses) (entry_for e r) ≡ None
    by_version true earlier = rw earlier refl
    by_version false later = rw later refl

-- ---- the list

-- bytes are left before a range, and before the end
some_left : (e : Encoding) (is_big : Bool) (begin end : ℕ) (rest : List ℕ) → is_address_size e.address_size ≡ true
    → eqb (length (spelled_pair e.address_size is_big begin end ++ rest)) 0 ≡ false
some_left e is_big begin end rest is_size =
    let some = some_size e.address_size is_size in
    ne_eqb _ 0 (omega (
      arith,
      length-append (spelled_pair e.address_size is_big begin end) rest,
      length-append (number_bytes is_big e.address_size begin) (number_bytes is_big e.address_size end),
      length-spelled is_big e.address_size begin,
      length-spelled is_big e.address_size end,
    ))

range_left : (e : Encoding) (is_big : Bool) (r : Range) (rest : List ℕ) → is_address_size e.address_size ≡ true
    → eqb (length (spelled_range e is_big r ++ rest)) 0 ≡ false
range_left e is_big r rest is_size = by_version (nat_le e.version 4) refl
  where
    by_version : (b : Bool) → nat_le e.version 4 ≡ b → eqb (length (spelled_range e is_big r ++ rest)) 0 ≡ false
    by_version true earlier = rw earlier (some_left e is_big r.begin r.end rest is_size)
    by_version false later = rw later (ne_eqb _ 0 (omega arith))

end_left : (e : Encoding) (is_big : Bool) (rest : List ℕ) → is_address_size e.address_size ≡ true
    → eqb (length (spelled_end e is_big ++ rest)) 0 ≡ false
end_left e is_big rest is_size = by_version (nat_le e.version 4) refl
  where
    by_version : (b : Bool) → nat_le e.version 4 ≡ b → eqb (length (spelled_end e is_big ++ rest)) 0 ≡ false
    by_version true earlier = rw earlier (some_left e is_big 0 0 rest is_size)
    by_version false later = rw later (ne_eqb _ 0 (omega arith))

-- four lists, one after the other
regroup : (a b c d : List ℕ) → ((a ++ b) ++ c) ++ d ≡ a ++ ((b ++ c) ++ d)
regroup a b c d =
    append_assoc (a ++ b) c d ∙ append_assoc a b (c ++ d) ∙ ap (λ (x : List ℕ). a ++ x) (sym (append_assoc b c d))

-- what is left of a list before some bytes
abbrev left_of : Encoding → ℕ → View → View → RemainingRanges
left_of e addr_base addresses left =
    record { raw = record { encoding = e; rest = left }; against = from_low_pc e 0 addr_base addresses }

-- a list before other bytes is read as its ranges
pub ranges_again : (limit : ℕ) (e : Encoding) (is_big : Bool) (first addr_base : ℕ) (addresses : View) (rs : List Range)
    (rest : List ℕ) → is_address_size e.address_size ≡ true → AllWritable e.address_size rs
    → ranges_to_come limit (left_of e addr_base addresses (bytes_at is_big first (spelled_ranges e is_big rs ++ rest)))
    ≡ map (λ r. Ok r) rs
ranges_again limit e is_big first addr_base addresses [] rest is_size w =
    range_end limit (left_of e addr_base addresses (bytes_at is_big first (spelled_end e is_big ++ rest)))
    (raw_end limit (record { encoding = e; rest = bytes_at is_big first (spelled_end e is_big ++ rest) })
    (bytes_at is_big (first + length (spelled_end e is_big)) rest) (end_left e is_big rest is_size)
    ((end_again limit e is_big first is_size).again rest))
ranges_again limit e is_big first addr_base addresses (r ∷ rs) rest is_size w =
    let more = spelled_ranges e is_big rs ++ rest in
    let next = bytes_at is_big (first + length (spelled_range e is_big r)) more in
    let raw_next : RemainingRawRanges = record { encoding = e; rest = next } in
    let raw_here : RemainingRawRanges =
    record { encoding = e; rest = bytes_at is_big first (spelled_range e is_big r ++ more) } in
    let regrouped : spelled_ranges e is_big (r ∷ rs) ++ rest ≡ spelled_range e is_big r ++ more =
    regroup (spelled_range e is_big r) (flat_map (spelled_range e is_big) rs) (spelled_end e is_big) rest in
    ap (λ (bytes : List ℕ). ranges_to_come limit (left_of e addr_base addresses (bytes_at is_big first bytes)))
    regrouped
    ∙ range_step limit (record { raw = raw_here; against = from_low_pc e 0 addr_base addresses })
    (left_of e addr_base addresses next) (left_of e addr_base addresses next) (entry_for e r) (Ok (Some r))
    (raw_item limit raw_here raw_next (entry_for e r) refl (range_left e is_big r more is_size)
    ((range_again limit e is_big first r is_size w.0).again more))
    refl (range_stands e addr_base addresses r w.0) refl refl
    (ap (λ (o : Option ℕ). unwrap_or o 0) (sym (no_base e addr_base addresses r)))
    ∙ ap (λ (l : List (Result Range Error)). Ok r ∷ l)
    (ranges_again limit e is_big (first + length (spelled_range e is_big r)) addr_base addresses rs rest is_size w.1)

-- ---- what can be written fits its bytes

pub begins_in_bytes : (size : ℕ) (r : Range) → IsWritable size r → r.begin < 256 ^ size
begins_in_bytes size r w = rw (bytes_bits size) (begin_fits size r w)

pub ends_in_bytes : (size : ℕ) (r : Range) → IsWritable size r → r.end < 256 ^ size
ends_in_bytes size r w = rw (bytes_bits size) w.ends_low

-- both ends of a range
pub ruleset range_ends = (begins_in_bytes, ends_in_bytes)
