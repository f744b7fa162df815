-- Each entry of a location list takes a byte.
use Rattle.std.proofs.Common.{ℕ, ◌<◌, ◌≤◌, Bool, Option, Some, None, arith, eqb, leb}
use Rattle.gimli_core_readers.specs.View.{View, bytes_left}
use Rattle.gimli_core_readers.specs.Parsers.{Parser, proceed, give}
use Rattle.gimli_core_readers.proofs.StepSizes.{Below, SomeBelow, AtMost-part, SomeBelow-Below, Below-Ok, Below-Err, Below-lt, Below-lift, Below-proceed, Below-cond}
use Rattle.gimli_core_readers.specs.Encoding.{Encoding}
use Rattle.gimli_core_readers.specs.NumberParsers.{address, offset_below}
use Rattle.gimli_core_readers.proofs.NumberReadSizes.{Below-fixed, Below-unsigned}
use Rattle.gimli_units_lists.specs.ListEntries.{RawEntry, address_or_offset_pair, base_address, base_addressx, startx_endx, startx_length, offset_pair, start_end, start_length}
use Rattle.gimli_units_lists.specs.ListEntryFields.{index, indexes, offsets, addresses, address_and_length}
use Rattle.gimli_units_lists.specs.RangeEntries.{pair_entry}
use Rattle.gimli_units_lists.specs.LocationEntries.{RawLocation, bounded_location, base_of_field, bounded_location_of_fields, expression_length, indexed_length, expression, index_and_length, pair_location, location_pair, location_kind, location_entry}
use Rattle.gimli_units_lists.proofs.RawListSteps.{Takes}
use Rattle.gimli_units_lists.proofs.RangeEntrySizes.{Below-index, Below-indexes, Below-offsets, Below-address, Below-addresses, Below-address_and_length}

Below-expression_length : {n : ℕ} (limit : ℕ) (encoding : Encoding) (v : View) → bytes_left v ≤ n
    → Below bytes_left n (expression_length limit encoding v)
Below-expression_length limit encoding v h =
    Below-cond (leb encoding.version 4) (Below-fixed 2 v (omega arith) h)
    (Below-proceed (Below-unsigned v h) (λ x s lt. Below-lift (offset_below limit x) s lt))

Below-expression : {n : ℕ} (limit : ℕ) (encoding : Encoding) (v : View) → bytes_left v ≤ n
    → Below bytes_left n (expression limit encoding v)
unfolding expression
Below-expression limit encoding v h =
    Below-proceed (Below-expression_length limit encoding v h)
    (λ x s lt. Below-lt (AtMost-part {n = bytes_left s} x s (omega arith)) lt)

Below-indexed_length : {n : ℕ} (encoding : Encoding) (v : View) → bytes_left v ≤ n
    → Below bytes_left n (indexed_length encoding v)
Below-indexed_length encoding v h =
    Below-cond (leb encoding.version 4) (Below-fixed 4 v (omega arith) h) (Below-unsigned v h)

Below-index_and_length : {n : ℕ} (limit : ℕ) (encoding : Encoding) (v : View) → bytes_left v ≤ n
    → Below bytes_left n (index_and_length limit encoding v)
unfolding index_and_length
Below-index_and_length {n} limit encoding v h = Below-proceed (Below-index limit v h) (λ x s lt.
    let le : bytes_left s ≤ n = omega arith in
    Below-proceed (Below-indexed_length encoding s le) (λ y t lt. Below-Ok lt))

-- an expression, and what is made of it
Below-made_of_expression : {n : ℕ} (limit : ℕ) (encoding : Encoding) (f : View → Option RawLocation) (v : View)
    → bytes_left v < n → Below bytes_left n (proceed (expression limit encoding v) (λ x. give (f x)))
Below-made_of_expression {n} limit encoding f v h =
    let le : bytes_left v ≤ n = omega arith in
    Below-proceed (Below-expression limit encoding v le) (λ x s lt. Below-Ok lt)

Below-pair_location : {n : ℕ} (limit : ℕ) (encoding : Encoding) (o : Option RawEntry) (v : View) → bytes_left v < n
    → Below bytes_left n (pair_location limit encoding o v)
Below-pair_location limit encoding None v h = Below-Ok h
Below-pair_location limit encoding (Some (base_address a)) v h = Below-Ok h
Below-pair_location limit encoding (Some (address_or_offset_pair a b)) v h =
    Below-made_of_expression limit encoding (λ x. Some (bounded_location (address_or_offset_pair a b) x)) v h
Below-pair_location limit encoding (Some (base_addressx a)) v h =
    Below-made_of_expression limit encoding (λ x. Some (bounded_location (base_addressx a) x)) v h
Below-pair_location limit encoding (Some (startx_endx a b)) v h =
    Below-made_of_expression limit encoding (λ x. Some (bounded_location (startx_endx a b) x)) v h
Below-pair_location limit encoding (Some (startx_length a b)) v h =
    Below-made_of_expression limit encoding (λ x. Some (bounded_location (startx_length a b) x)) v h
Below-pair_location limit encoding (Some (offset_pair a b)) v h =
    Below-made_of_expression limit encoding (λ x. Some (bounded_location (offset_pair a b) x)) v h
Below-pair_location limit encoding (Some (start_end a b)) v h =
    Below-made_of_expression limit encoding (λ x. Some (bounded_location (start_end a b) x)) v h
Below-pair_location limit encoding (Some (start_length a b)) v h =
    Below-made_of_expression limit encoding (λ x. Some (bounded_location (start_length a b) x)) v h

Below-location_pair : {n : ℕ} (limit : ℕ) (encoding : Encoding) (v : View) → bytes_left v ≤ n
    → Below bytes_left n (location_pair limit encoding v)
unfolding location_pair
Below-location_pair {n} limit encoding v h =
    Below-proceed (Below-addresses encoding.address_size v h)
    (λ p s lt. Below-pair_location limit encoding (pair_entry encoding.address_size p.0 p.1) s lt)

below_one : {n : ℕ} (entry : ℕ → RawEntry) (p : Parser ℕ) (v : View) → Below bytes_left n (p v)
    → Below bytes_left n (base_of_field entry p v)
below_one entry p v h = Below-proceed h (λ x s lt. Below-Ok lt)

below_two : {n : ℕ} (limit : ℕ) (encoding : Encoding) (entry : ℕ → ℕ → RawEntry) (p : Parser (ℕ × ℕ)) (v : View)
    → Below bytes_left n (p v) → Below bytes_left n (bounded_location_of_fields entry p (expression limit encoding) v)
below_two {n} limit encoding entry p v h = Below-proceed h (λ x s lt.
    let le : bytes_left s ≤ n = omega arith in
    Below-proceed (Below-expression limit encoding s le) (λ y t lt. Below-Ok lt))

Below-location_kind : {n : ℕ} (limit : ℕ) (encoding : Encoding) (v : View) → bytes_left v ≤ n
    → Below bytes_left n (location_kind limit encoding v)
unfolding location_kind
Below-location_kind {n} limit encoding v h = Below-proceed (Below-fixed 1 v (omega arith) h) (λ kind s lt.
    let le : bytes_left s ≤ n = omega arith in
    let size = encoding.address_size in
    Below-cond (eqb kind 0) (Below-Ok lt)
    (Below-cond (eqb kind 1) (below_one base_addressx (index limit) s (Below-index limit s le))
    (Below-cond (eqb kind 2) (below_two limit encoding startx_endx (indexes limit) s (Below-indexes limit s le))
    (Below-cond (eqb kind 3)
    (below_two limit encoding startx_length (index_and_length limit encoding) s
    (Below-index_and_length limit encoding s le))
    (Below-cond (eqb kind 4) (below_two limit encoding offset_pair offsets s (Below-offsets s le))
    (Below-cond (eqb kind 5) (Below-proceed (Below-expression limit encoding s le) (λ y t lt. Below-Ok lt))
    (Below-cond (eqb kind 6) (below_one base_address (address size) s (Below-address size s le))
    (Below-cond (eqb kind 7) (below_two limit encoding start_end (addresses size) s (Below-addresses size s le))
    (Below-cond (eqb kind 8)
    (below_two limit encoding start_length (address_and_length size) s (Below-address_and_length size s le))
    Below-Err)))))))))

some-location_entry : {n : ℕ} (limit : ℕ) (encoding : Encoding) (by_kind : Bool) (v : View) → bytes_left v ≤ n
    → SomeBelow bytes_left n (location_entry limit encoding by_kind v)
unfolding location_entry
some-location_entry limit encoding by_kind v h =
    SomeBelow-Below
    (Below-cond by_kind (Below-location_kind limit encoding v h) (Below-location_pair limit encoding v h))

pub location_entry_takes : (limit : ℕ) (encoding : Encoding) (by_kind : Bool)
    → Takes (location_entry limit encoding by_kind)
location_entry_takes limit encoding by_kind = record { some = λ v n h. some-location_entry limit encoding by_kind v h }
