-- Each entry takes a byte; and where addresses were read, their size is one that addresses have.
use Rattle.std.proofs.Common.{◌≡◌, ℕ, ◌<◌, ◌≤◌, Bool, true, false, cond, IsTrue, Ok, Err, refl, arith, eqb}
use Rattle.std.proofs.lemmas.Bool.Decides.{nat_tests}
use Rattle.gimli_core_readers.specs.Error.TheVariants.{UnsupportedAddressSize}
use Rattle.gimli_core_readers.specs.View.{View, bytes_left}
use Rattle.gimli_core_readers.specs.Parsers.{Parser}
use Rattle.gimli_core_readers.proofs.StepParts.{begins}
use Rattle.gimli_core_readers.proofs.StepSizes.{Below, SomeBelow, SomeBelow-Below, Below-Ok, Below-Err, Below-proceed, Below-cond, sizes}
use Rattle.gimli_core_readers.specs.NumberParsers.{fixed, unsigned, address, is_address_size}
use Rattle.gimli_core_readers.proofs.NumberReadSizes.{number_sizes, Below-fixed}
use Rattle.gimli_core_readers.specs.Encoding.{Encoding}
use Rattle.gimli_units_lists.specs.ListEntryFields.{both, index, indexes, offsets, addresses, address_and_length}
use Rattle.gimli_units_lists.specs.ListEntries.{RawEntry, base_address, base_addressx, startx_endx, startx_length, offset_pair, start_end, start_length}
use Rattle.gimli_units_lists.specs.RangeEntries.{entry_of_field, entry_of_fields, range_pair, range_kind, range_entry}
use Rattle.gimli_units_lists.proofs.RawListSteps.{Takes}

size_is_positive : (size : ℕ) → is_address_size size ≡ true → 0 < size
size_is_positive size is = grind (arith, nat_tests)

-- an address that was read has a size of addresses
pub address_has_size : (n : ℕ) (v : View) (x : ℕ) (w : View) → address n v ≡ Ok (x, w) → IsTrue (is_address_size n)
unfolding address
address_has_size n v x w e = cases (is_address_size n) e
  where
    cases : (b : Bool) → cond b (fixed n v) (Err (UnsupportedAddressSize n)) ≡ Ok (x, w) → IsTrue b
    cases true e = refl
    cases false e = absurd cc

pub addresses_have_size : (n : ℕ) (v : View) (x : ℕ × ℕ) (w : View) → addresses n v ≡ Ok (x, w)
    → IsTrue (is_address_size n)
unfolding addresses
addresses_have_size n v x w e = let b = begins (address n v) _ x w e in address_has_size n v b.0 b.1 b.2

pub Below-address : {n : ℕ} (size : ℕ) (v : View) → bytes_left v ≤ n → Below bytes_left n (address size v)
unfolding address
Below-address {n} size v h = cases (is_address_size size) refl
  where
    cases : (b : Bool) → is_address_size size ≡ b
        → Below bytes_left n (cond b (fixed size v) (Err (UnsupportedAddressSize size)))
    cases true is = Below-fixed size v (size_is_positive size is) h
    cases false is = Below-Err

pub ruleset basic = (sizes, number_sizes, Below-address)

pub Below-index : {n : ℕ} (limit : ℕ) (v : View) → bytes_left v ≤ n → Below bytes_left n (index limit v)
unfolding index
Below-index {n} limit v h = search (arith, basic) depth 40

pub Below-indexes : {n : ℕ} (limit : ℕ) (v : View) → bytes_left v ≤ n → Below bytes_left n (indexes limit v)
unfolding indexes
Below-indexes {n} limit v h = search (arith, basic, Below-index) depth 40

pub Below-offsets : {n : ℕ} (v : View) → bytes_left v ≤ n → Below bytes_left n (offsets v)
unfolding offsets
Below-offsets {n} v h = search (arith, basic) depth 40

pub Below-addresses : {n : ℕ} (size : ℕ) (v : View) → bytes_left v ≤ n → Below bytes_left n (addresses size v)
unfolding addresses
Below-addresses {n} size v h = search (arith, basic) depth 40

pub Below-address_and_length : {n : ℕ} (size : ℕ) (v : View) → bytes_left v ≤ n
    → Below bytes_left n (address_and_length size v)
unfolding address_and_length
Below-address_and_length {n} size v h = search (arith, basic) depth 40

pub ruleset field_sizes = (basic, Below-index, Below-indexes, Below-offsets, Below-addresses, Below-address_and_length)

-- ---- range lists

Below-range_pair : {n : ℕ} (size : ℕ) (v : View) → bytes_left v ≤ n → Below bytes_left n (range_pair size v)
unfolding range_pair
Below-range_pair {n} size v h = search (arith, field_sizes) depth 40

below_one : {n : ℕ} (entry : ℕ → RawEntry) (p : Parser ℕ) (v : View) → Below bytes_left n (p v)
    → Below bytes_left n (entry_of_field entry p v)
below_one entry p v h = Below-proceed h (λ x s lt. Below-Ok lt)

below_two : {n : ℕ} (entry : ℕ → ℕ → RawEntry) (p : Parser (ℕ × ℕ)) (v : View) → Below bytes_left n (p v)
    → Below bytes_left n (entry_of_fields entry p v)
below_two entry p v h = Below-proceed h (λ x s lt. Below-Ok lt)

Below-range_kind : {n : ℕ} (limit size : ℕ) (v : View) → bytes_left v ≤ n → Below bytes_left n (range_kind limit size v)
unfolding range_kind
Below-range_kind {n} limit size v h = Below-proceed (Below-fixed 1 v (omega arith) h) (λ kind s lt.
    let le : bytes_left s ≤ n = omega arith in
    let length : Below bytes_left n (both (index limit) unsigned s) = search (arith, field_sizes) depth 40 in
    Below-cond (eqb kind 0) (Below-Ok lt)
    (Below-cond (eqb kind 1) (below_one base_addressx (index limit) s (Below-index limit s le))
    (Below-cond (eqb kind 2) (below_two startx_endx (indexes limit) s (Below-indexes limit s le))
    (Below-cond (eqb kind 3) (below_two startx_length (both (index limit) unsigned) s length)
    (Below-cond (eqb kind 4) (below_two offset_pair offsets s (Below-offsets s le))
    (Below-cond (eqb kind 5) (below_one base_address (address size) s (Below-address size s le))
    (Below-cond (eqb kind 6) (below_two start_end (addresses size) s (Below-addresses size s le))
    (Below-cond (eqb kind 7) (below_two start_length (address_and_length size) s (Below-address_and_length size s le))
    Below-Err))))))))

some-range_entry : {n : ℕ} (limit : ℕ) (encoding : Encoding) (v : View) → bytes_left v ≤ n
    → SomeBelow bytes_left n (range_entry limit encoding v)
unfolding range_entry
some-range_entry {n} limit encoding v h =
    search (arith, field_sizes, SomeBelow-Below, Below-range_pair, Below-range_kind) depth 40

pub range_entry_takes : (limit : ℕ) (encoding : Encoding) → Takes (range_entry limit encoding)
range_entry_takes limit encoding = record { some = λ v n h. some-range_entry limit encoding v h }
