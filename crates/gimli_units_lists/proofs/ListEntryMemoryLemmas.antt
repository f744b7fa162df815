-- Reading an entry of a list never runs out of memory.
use Rattle.std.proofs.Common.{ℕ, eqb, leb, Option, Some, None}
use Rattle.gimli_core_readers.specs.View.{View}
use Rattle.gimli_core_readers.specs.Parsers.{Parser, proceed, give}
use Rattle.gimli_core_readers.specs.Encoding.{Encoding}
use Rattle.gimli_core_readers.specs.NumberParsers.{offset_below}
use Rattle.gimli_core_readers.proofs.MemoryLemmas.{IsFree, free-onward, free-cond, free-Ok, free-lift, free-fixed, free-unsigned, free-offset, free-part, free-address}
use Rattle.gimli_units_lists.specs.ListEntries.{RawEntry, address_or_offset_pair, base_address, base_addressx, startx_endx, startx_length, offset_pair, start_end, start_length}
use Rattle.gimli_units_lists.specs.RangeEntries as ranges
use Rattle.gimli_units_lists.specs.LocationEntries as locations
use Rattle.gimli_units_lists.proofs.FieldMemoryLemmas.{free-both, free-index, free-indexes, free-offsets, free-addresses, free-address_and_length}

-- ---- range lists

free-range_pair : (size : ℕ) (v : View) → IsFree (ranges.range_pair size v)
unfolding ranges.range_pair
free-range_pair size v = free-onward (free-addresses size v) (λ p s. free-Ok _)

range_one : {p : Parser ℕ} (entry : ℕ → RawEntry) → ((v : View) → IsFree (p v)) → (v : View)
    → IsFree (ranges.entry_of_field entry p v)
range_one entry h v = free-onward (h v) (λ x s. free-Ok _)

range_two : {p : Parser (ℕ × ℕ)} (entry : ℕ → ℕ → RawEntry) → ((v : View) → IsFree (p v)) → (v : View)
    → IsFree (ranges.entry_of_fields entry p v)
range_two entry h v = free-onward (h v) (λ x s. free-Ok _)

free-range_kind : (limit size : ℕ) (v : View) → IsFree (ranges.range_kind limit size v)
unfolding ranges.range_kind
free-range_kind limit size v = free-onward (free-fixed 1 v) (λ kind s.
    free-cond (eqb kind 0) (free-Ok _)
    (free-cond (eqb kind 1) (range_one base_addressx (free-index limit) s)
    (free-cond (eqb kind 2) (range_two startx_endx (free-indexes limit) s)
    (free-cond (eqb kind 3) (range_two startx_length (free-both (free-index limit) free-unsigned) s)
    (free-cond (eqb kind 4) (range_two offset_pair free-offsets s)
    (free-cond (eqb kind 5) (range_one base_address (free-address size) s)
    (free-cond (eqb kind 6) (range_two start_end (free-addresses size) s)
    (free-cond (eqb kind 7) (range_two start_length (free-address_and_length size) s)
    (λ h. absurd cc)))))))))

pub free-range_entry : (limit : ℕ) (encoding : Encoding) (v : View) → IsFree (ranges.range_entry limit encoding v)
unfolding ranges.range_entry
free-range_entry limit encoding v =
    free-cond (leb encoding.version 4) (free-range_pair encoding.address_size v)
    (free-range_kind limit encoding.address_size v)

-- ---- location lists

free-expression : (limit : ℕ) (encoding : Encoding) (v : View) → IsFree (locations.expression limit encoding v)
unfolding locations.expression
free-expression limit encoding v = free-onward (free-length v) free-part
  where
    free-length : (w : View) → IsFree (locations.expression_length limit encoding w)
    free-length w =
        free-cond (leb encoding.version 4) (free-fixed 2 w)
        (free-onward (free-unsigned w) (λ n s. free-lift (offset_below limit n) s (free-offset limit n)))

free-made_of_expression : (limit : ℕ) (encoding : Encoding) (f : View → Option locations.RawLocation) (v : View)
    → IsFree (proceed (locations.expression limit encoding v) (λ x. give (f x)))
free-made_of_expression limit encoding f v = free-onward (free-expression limit encoding v) (λ x s. free-Ok _)

free-pair : (limit : ℕ) (encoding : Encoding) (o : Option RawEntry) (v : View)
    → IsFree (locations.pair_location limit encoding o v)
free-pair limit encoding None v = free-Ok _
free-pair limit encoding (Some (base_address a)) v = free-Ok _
free-pair limit encoding (Some (address_or_offset_pair a b)) v =
    free-made_of_expression limit encoding (λ x. Some (locations.bounded_location (address_or_offset_pair a b) x)) v
free-pair limit encoding (Some (base_addressx a)) v =
    free-made_of_expression limit encoding (λ x. Some (locations.bounded_location (base_addressx a) x)) v
free-pair limit encoding (Some (startx_endx a b)) v =
    free-made_of_expression limit encoding (λ x. Some (locations.bounded_location (startx_endx a b) x)) v
free-pair limit encoding (Some (startx_length a b)) v =
    free-made_of_expression limit encoding (λ x. Some (locations.bounded_location (startx_length a b) x)) v
free-pair limit encoding (Some (offset_pair a b)) v =
    free-made_of_expression limit encoding (λ x. Some (locations.bounded_location (offset_pair a b) x)) v
free-pair limit encoding (Some (start_end a b)) v =
    free-made_of_expression limit encoding (λ x. Some (locations.bounded_location (start_end a b) x)) v
free-pair limit encoding (Some (start_length a b)) v =
    free-made_of_expression limit encoding (λ x. Some (locations.bounded_location (start_length a b) x)) v

pub free-location_pair : (limit : ℕ) (encoding : Encoding) (v : View)
    → IsFree (locations.location_pair limit encoding v)
unfolding locations.location_pair
free-location_pair limit encoding v =
    free-onward (free-addresses encoding.address_size v)
    (λ p s. free-pair limit encoding (ranges.pair_entry encoding.address_size p.0 p.1) s)

free-index_and_length : (limit : ℕ) (encoding : Encoding) (v : View)
    → IsFree (locations.index_and_length limit encoding v)
unfolding locations.index_and_length
free-index_and_length limit encoding v =
    free-both (free-index limit) (λ w. free-cond (leb encoding.version 4) (free-fixed 4 w) (free-unsigned w)) v

location_one : {p : Parser ℕ} (entry : ℕ → RawEntry) → ((v : View) → IsFree (p v)) → (v : View)
    → IsFree (locations.base_of_field entry p v)
location_one entry h v = free-onward (h v) (λ x s. free-Ok _)

location_two : {p : Parser (ℕ × ℕ)} (limit : ℕ) (encoding : Encoding) (entry : ℕ → ℕ → RawEntry)
    → ((v : View) → IsFree (p v)) → (v : View)
    → IsFree (locations.bounded_location_of_fields entry p (locations.expression limit encoding) v)
location_two limit encoding entry h v =
    free-onward (h v) (λ x s. free-onward (free-expression limit encoding s) (λ y t. free-Ok _))

pub free-location_kind : (limit : ℕ) (encoding : Encoding) (v : View)
    → IsFree (locations.location_kind limit encoding v)
unfolding locations.location_kind
free-location_kind limit encoding v = free-onward (free-fixed 1 v) (λ kind s.
    let size = encoding.address_size in
    free-cond (eqb kind 0) (free-Ok _)
    (free-cond (eqb kind 1) (location_one base_addressx (free-index limit) s)
    (free-cond (eqb kind 2) (location_two limit encoding startx_endx (free-indexes limit) s)
    (free-cond (eqb kind 3) (location_two limit encoding startx_length (free-index_and_length limit encoding) s)
    (free-cond (eqb kind 4) (location_two limit encoding offset_pair free-offsets s)
    (free-cond (eqb kind 5) (free-onward (free-expression limit encoding s) (λ x t. free-Ok _))
    (free-cond (eqb kind 6) (location_one base_address (free-address size) s)
    (free-cond (eqb kind 7) (location_two limit encoding start_end (free-addresses size) s)
    (free-cond (eqb kind 8) (location_two limit encoding start_length (free-address_and_length size) s)
    (λ h. absurd cc))))))))))
