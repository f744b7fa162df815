-- Reading the fields of list entries never runs out of memory.
use Rattle.std.proofs.Common.{ℕ}
use Rattle.gimli_core_readers.specs.View.{View}
use Rattle.gimli_core_readers.specs.Parsers.{Parser}
use Rattle.gimli_core_readers.specs.NumberParsers.{offset_below}
use Rattle.gimli_core_readers.proofs.MemoryLemmas.{IsFree, free-onward, free-lift, free-Ok, free-unsigned, free-offset, free-address}
use Rattle.gimli_units_lists.specs.ListEntryFields.{both, index, indexes, offsets, addresses, address_and_length}

pub free-both : {A B : Type 0} {p : Parser A} {q : Parser B} → ((v : View) → IsFree (p v)) → ((v : View) → IsFree (q v))
    → (v : View) → IsFree (both p q v)
free-both h k v = free-onward (h v) (λ x s. free-onward (k s) (λ y t. free-Ok _))

pub free-index : (limit : ℕ) (v : View) → IsFree (index limit v)
unfolding index
free-index limit v = free-onward (free-unsigned v) (λ n s. free-lift (offset_below limit n) s (free-offset limit n))

pub free-indexes : (limit : ℕ) (v : View) → IsFree (indexes limit v)
unfolding indexes
free-indexes limit v = free-both (free-index limit) (free-index limit) v

pub free-offsets : (v : View) → IsFree (offsets v)
unfolding offsets
free-offsets v = free-both free-unsigned free-unsigned v

pub free-addresses : (size : ℕ) (v : View) → IsFree (addresses size v)
unfolding addresses
free-addresses size v = free-both (free-address size) (free-address size) v

pub free-address_and_length : (size : ℕ) (v : View) → IsFree (address_and_length size v)
unfolding address_and_length
free-address_and_length size v = free-both (free-address size) free-unsigned v
