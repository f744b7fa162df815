-- Reading the header of a table of lists, or an offset in it, never runs out of memory.
use Rattle.std.proofs.Common.{ℕ, ltb, eqb, length}
use Rattle.gimli_core_readers.specs.View.{View}
use Rattle.gimli_core_readers.specs.Format.{Format}
use Rattle.gimli_core_readers.specs.FormatSizes.{word_size}
use Rattle.gimli_core_readers.specs.SectionReads.{table_offset_at}
use Rattle.gimli_core_readers.proofs.MemoryLemmas.{IsFree, free-onward, free-value_of, free-cond, free-Ok, free-fixed, free-word, free-initial_length, free-address_size, free-to_place}
use Rattle.gimli_units_lists.specs.ListSections.{header_fields, lists_header}

free-header_fields : (format : Format) (v : View) → IsFree (header_fields format v)
unfolding header_fields
free-header_fields format v =
    free-onward (free-fixed 2 v) (λ version s1.
    free-onward (free-cond (eqb version 5) (free-Ok _) (λ h. absurd cc)) (λ of_5 s2.
    free-onward (free-address_size s2) (λ size s3.
    free-onward (free-fixed 1 s3) (λ segment s4.
    free-onward (free-cond (eqb segment 0) (free-Ok _) (λ h. absurd cc)) (λ flat s5.
    free-onward (free-fixed 4 s5) (λ count s6. free-Ok _))))))

pub free-lists_header : (limit : ℕ) (v : View) → IsFree (lists_header limit v)
unfolding lists_header
free-lists_header limit v =
    free-onward (free-initial_length limit v) (λ table s.
    free-onward (free-cond (ltb (length s.bytes) table.0) (λ h. absurd cc) (free-Ok _)) (λ cut t.
    free-header_fields table.1 t))

pub free-table_offset_at : (limit : ℕ) (format : Format) (base index : ℕ) (v : View)
    → IsFree (table_offset_at limit format base index v)
free-table_offset_at limit format base index v =
    free-value_of (free-onward (free-to_place base index (word_size format) v) (λ x s. free-word limit format s))
