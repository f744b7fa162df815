-- What is known of a set of addresses that was read, and how its addresses follow one another.
use Rattle.std.proofs.Common.{◌≡◌, ℕ, eqb, Option, Result, refl, sym, subst, arith}
use Rattle.gimli_core_base.specs.declared.error.Error.{Error}
use Rattle.gimli_core_base.specs.declared.error.Error.TheVariants.{UnknownVersion, UnsupportedSegmentSize}
use Rattle.gimli_core_base.specs.declared.common.Format.{Format}
use Rattle.gimli_core_base.specs.View.{View, bytes_left}
use Rattle.gimli_core_base.specs.NumberParsers.{address}
use Rattle.gimli_core_base.specs.Calls.{ReturnsAsOrNoMemory}
use Rattle.gimli_core_base.specs.Repetition.{listing_in, until_end}
use Rattle.gimli_core_base.proofs.StepSizes.{SomeBelow-until_end}
use Rattle.gimli_core_base.proofs.Listings.{Shrinks}
use Rattle.gimli_core_readers.specs.Iterators.{ComesNext}
use Rattle.gimli_core_readers.specs.AddressSets.{AddressSet, set_encoding, set_fields, address_set, set_size, RemainingAddresses, next_address, addresses_to_come}
use Rattle.gimli_core_readers.proofs.ByteCountLemmas.{took_left, Yields, yields-Ok, yields-Err, yields-proceed, yields-cond, fixed_took, address_size_took, address_took}
use Rattle.gimli_core_readers.proofs.TilingLemmas.{Parts, IsCounted, counted_parts, comes_next}

-- ---- sets

-- the encoding of a set has the format of its length
encoding_is : (format : Format) (v : View) → Yields (λ e w. e.format ≡ format) (set_encoding format v)
unfolding set_encoding
encoding_is format v =
    yields-proceed (fixed_took 2 v) (λ version s1 h1.
    yields-proceed {P = λ x w. Unit {0}}
    (yields-cond (eqb version 5) (λ _. yields-Ok tt s1 tt) (λ _. yields-Err (UnknownVersion version))) (λ of_5 s2 h2.
    yields-proceed (address_size_took s2) (λ size s3 h3.
    yields-proceed (fixed_took 1 s3) (λ segment s4 h4.
    yields-proceed {P = λ x w. Unit {0}}
    (yields-cond (eqb segment 0) (λ _. yields-Ok tt s4 tt) (λ _. yields-Err UnsupportedSegmentSize)) (λ flat s5 h5.
    yields-Ok _ s5 refl)))))

-- a set in the bytes that its length counts
set_is : (offset set_length : ℕ) (format : Format) (v : View)
    → Yields (λ s w. IsCounted (λ (s : AddressSet). s.offset) (λ s. s.length) (λ s. s.encoding.format) offset set_length
    format s) (set_fields offset set_length format v)
set_is offset set_length format v =
    yields-proceed (encoding_is format v)
    (λ e s h. yields-Ok _ s (record { at_offset = refl; long = refl; in_format = h }))

-- sets are parts of a section that lie end to end
pub sets_are_parts : (limit : ℕ) → Parts (address_set limit) (λ s. s.offset) set_size
unfolding address_set
sets_are_parts limit =
    counted_parts (λ (s : AddressSet). s.offset) (λ s. s.length) (λ s. s.encoding.format) limit
    (λ offset l. set_fields offset l.0 l.1) (λ offset l v. set_is offset l.0 l.1 v)

-- ---- addresses

-- each address takes some bytes
addresses_shrink : (size : ℕ) → Shrinks bytes_left (until_end (address size))
addresses_shrink size = record {
  smaller = λ v n h. SomeBelow-until_end v (λ w k. record {
    left = λ x u e.
        let took = (address_took size w).hold x u e in
        let some = took.0 in
        let left = took_left took.1 in
        omega arith;
  }) h;
}

pub address_comes_next : (result : Result (Option ℕ) Error) (old new : RemainingAddresses)
    → new.address_size ≡ old.address_size → ReturnsAsOrNoMemory (λ x. (x, new.rest)) result (next_address old)
    → ComesNext result (addresses_to_come old) (addresses_to_come new)
address_comes_next result old new same h =
    subst (λ (n : ℕ). ComesNext result (addresses_to_come old) (listing_in bytes_left (until_end (address n)) new.rest))
    (sym same)
    (comes_next (until_end (address old.address_size)) (addresses_shrink old.address_size) result old.rest new.rest h)
