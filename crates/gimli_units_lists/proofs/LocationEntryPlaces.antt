-- What is read of an entry of a location list leaves what comes after some bytes.
use Rattle.std.proofs.Common.{ℕ, ◌≡◌, Bool, Option, Some, None, Ok, eqb, leb}
use Rattle.gimli_core_readers.specs.View.{View}
use Rattle.gimli_core_readers.specs.Parsers.{Parser, ◌>>=◌, give, lift, part}
use Rattle.gimli_core_readers.specs.Encoding.{Encoding}
use Rattle.gimli_core_readers.specs.NumberParsers.{fixed, unsigned, address, offset_below}
use Rattle.gimli_units_lists.specs.ListEntries.{RawEntry, address_or_offset_pair, base_address, base_addressx, startx_endx, startx_length, offset_pair, start_end, start_length}
use Rattle.gimli_units_lists.specs.ListEntryFields.{both, index, indexes, offsets, addresses, address_and_length}
use Rattle.gimli_units_lists.specs.RangeEntries.{pair_entry}
use Rattle.gimli_units_lists.specs.LocationEntries.{RawLocation, base, bounded_location, default_location, base_of_field, bounded_location_of_fields, expression_length, indexed_length, expression, index_and_length, pair_location, location_pair, location_kind, location_entry}
use Rattle.gimli_core_readers.specs.Places.{IsAfter}
use Rattle.gimli_core_readers.proofs.PlaceLemmas.{Goes, Goes-on, Goes-onward, Goes-give, Goes-fail, Goes-branch, Goes-lift, Goes-fixed, Goes-part, Goes-unsigned, Goes-address}

-- ---- fields

Goes-both : {A B : Type 0} (p : Parser A) (q : Parser B) → Goes p → Goes q → Goes (both p q)
Goes-both p q g h = Goes-onward p (λ x. (q >>= λ y. give (x, y))) g
    (λ x. Goes-onward q (λ y. give (x, y)) h (λ y. Goes-give (x, y)))

pub Goes-index : (limit : ℕ) → Goes (index limit)
unfolding index
Goes-index limit = Goes-onward unsigned (λ i. lift (offset_below limit i)) Goes-unsigned (λ i. Goes-lift _)

pub Goes-indexes : (limit : ℕ) → Goes (indexes limit)
unfolding indexes
Goes-indexes limit = Goes-both (index limit) (index limit) (Goes-index limit) (Goes-index limit)

pub Goes-offsets : Goes offsets
unfolding offsets
Goes-offsets = Goes-both unsigned unsigned Goes-unsigned Goes-unsigned

pub Goes-addresses : (size : ℕ) → Goes (addresses size)
unfolding addresses
Goes-addresses size = Goes-both (address size) (address size) (Goes-address size) (Goes-address size)

pub Goes-address_and_length : (size : ℕ) → Goes (address_and_length size)
unfolding address_and_length
Goes-address_and_length size = Goes-both (address size) unsigned (Goes-address size) Goes-unsigned

pub Goes-index_and_length : (limit : ℕ) (encoding : Encoding) → Goes (index_and_length limit encoding)
unfolding index_and_length
Goes-index_and_length limit encoding =
    Goes-both (index limit) (indexed_length encoding) (Goes-index limit)
    (Goes-branch (leb encoding.version 4) (fixed 4) unsigned (Goes-fixed 4) Goes-unsigned)

pub Goes-expression_length : (limit : ℕ) (encoding : Encoding) → Goes (expression_length limit encoding)
Goes-expression_length limit encoding =
    Goes-branch (leb encoding.version 4) (fixed 2) (unsigned >>= λ n. lift (offset_below limit n)) (Goes-fixed 2)
    (Goes-onward unsigned (λ n. lift (offset_below limit n)) Goes-unsigned (λ n. Goes-lift _))

Goes-expression : (limit : ℕ) (encoding : Encoding) → Goes (expression limit encoding)
unfolding expression
Goes-expression limit encoding =
    Goes-onward (expression_length limit encoding) part (Goes-expression_length limit encoding) Goes-part

-- ---- entries

-- an expression, and what is made of it
Goes-made : (limit : ℕ) (encoding : Encoding) (f : View → Option RawLocation)
    → Goes (expression limit encoding >>= λ x. give (f x))
Goes-made limit encoding f =
    Goes-onward (expression limit encoding) (λ x. give (f x)) (Goes-expression limit encoding) (λ x. Goes-give (f x))

Goes-pair_location : (limit : ℕ) (encoding : Encoding) (o : Option RawEntry) → Goes (pair_location limit encoding o)
Goes-pair_location limit encoding None = Goes-give None
Goes-pair_location limit encoding (Some (base_address a)) = Goes-give _
Goes-pair_location limit encoding (Some (address_or_offset_pair a b)) =
    Goes-made limit encoding (λ x. Some (bounded_location (address_or_offset_pair a b) x))
Goes-pair_location limit encoding (Some (base_addressx a)) =
    Goes-made limit encoding (λ x. Some (bounded_location (base_addressx a) x))
Goes-pair_location limit encoding (Some (startx_endx a b)) =
    Goes-made limit encoding (λ x. Some (bounded_location (startx_endx a b) x))
Goes-pair_location limit encoding (Some (startx_length a b)) =
    Goes-made limit encoding (λ x. Some (bounded_location (startx_length a b) x))
Goes-pair_location limit encoding (Some (offset_pair a b)) =
    Goes-made limit encoding (λ x. Some (bounded_location (offset_pair a b) x))
Goes-pair_location limit encoding (Some (start_end a b)) =
    Goes-made limit encoding (λ x. Some (bounded_location (start_end a b) x))
Goes-pair_location limit encoding (Some (start_length a b)) =
    Goes-made limit encoding (λ x. Some (bounded_location (start_length a b) x))

Goes-location_pair : (limit : ℕ) (encoding : Encoding) → Goes (location_pair limit encoding)
unfolding location_pair
Goes-location_pair limit encoding =
    Goes-onward (addresses encoding.address_size)
    (λ p. pair_location limit encoding (pair_entry encoding.address_size p.0 p.1))
    (Goes-addresses encoding.address_size) (λ p. Goes-pair_location limit encoding _)

goes_one : (entry : ℕ → RawEntry) (p : Parser ℕ) → Goes p → Goes (base_of_field entry p)
goes_one entry p g = Goes-onward p (λ x. give (Some (base (entry x)))) g (λ x. Goes-give _)

goes_two : (limit : ℕ) (encoding : Encoding) (entry : ℕ → ℕ → RawEntry) (p : Parser (ℕ × ℕ)) → Goes p
    → Goes (bounded_location_of_fields entry p (expression limit encoding))
goes_two limit encoding entry p g =
    Goes-onward p (λ n. (expression limit encoding >>= λ e. give (Some (bounded_location (entry n.0 n.1) e)))) g
    (λ n. Goes-made limit encoding (λ e. Some (bounded_location (entry n.0 n.1) e)))

Goes-location_kind : (limit : ℕ) (encoding : Encoding) → Goes (location_kind limit encoding)
unfolding location_kind
Goes-location_kind limit encoding = Goes-onward (fixed 1) _ (Goes-fixed 1) (λ kind.
    let size = encoding.address_size in
    Goes-branch (eqb kind 0) _ _ (Goes-give None)
    (Goes-branch (eqb kind 1) _ _ (goes_one base_addressx (index limit) (Goes-index limit))
    (Goes-branch (eqb kind 2) _ _ (goes_two limit encoding startx_endx (indexes limit) (Goes-indexes limit))
    (Goes-branch (eqb kind 3) _ _
    (goes_two limit encoding startx_length (index_and_length limit encoding) (Goes-index_and_length limit encoding))
    (Goes-branch (eqb kind 4) _ _ (goes_two limit encoding offset_pair offsets Goes-offsets)
    (Goes-branch (eqb kind 5) _ _ (Goes-made limit encoding (λ x. Some (default_location x)))
    (Goes-branch (eqb kind 6) _ _ (goes_one base_address (address size) (Goes-address size))
    (Goes-branch (eqb kind 7) _ _ (goes_two limit encoding start_end (addresses size) (Goes-addresses size))
    (Goes-branch (eqb kind 8) _ _
    (goes_two limit encoding start_length (address_and_length size) (Goes-address_and_length size))
    (Goes-fail _))))))))))

pub Goes-location_entry : (limit : ℕ) (encoding : Encoding) (by_kind : Bool)
    → Goes (location_entry limit encoding by_kind)
unfolding location_entry
Goes-location_entry limit encoding by_kind =
    Goes-branch by_kind (location_kind limit encoding) (location_pair limit encoding)
    (Goes-location_kind limit encoding) (Goes-location_pair limit encoding)

-- ---- places in a reader, on the way to an expression

-- after the kind and its fields
pub after_fields : {A : Type 0} (p : Parser A) (u v w t : View) (kind : ℕ) (x : A) → Goes p → IsAfter u v
    → fixed 1 v ≡ Ok (kind, w) → p w ≡ Ok (x, t) → IsAfter u t
after_fields p u v w t kind x g a h k = Goes-on p u w t x g (Goes-on (fixed 1) u v w kind (Goes-fixed 1) a h) k
