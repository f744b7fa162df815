-- What is defined by bytes alone never runs out of memory.
use Rattle.std.proofs.Common.{ℕ, ltb, leb, eqb, length, ◌&&◌}
use Rattle.gimli_core_base.specs.View.{View}
use Rattle.gimli_core_base.specs.declared.common.Format.{Format}
use Rattle.gimli_core_readers.proofs.MemoryLemmas.{IsFree, free-onward, free-cond, free-fixed, free-word, free-address_size}
use Rattle.gimli_units_headers.specs.UnitHeaders.{UnitKind, type_unit, skeleton, split_compilation, split_type, unit_type, with_dwo_id, with_signature, kind_of_type, fields_to_4, fields_of_5, unit_fields}
use Rattle.gimli_units_headers.specs.ArangeSets.{arange_fields, arange_padding}

-- ---- unit headers

free-with_dwo_id : (k : ℕ → UnitKind) (v : View) → IsFree (with_dwo_id k v)
unfolding with_dwo_id
free-with_dwo_id k v = free-onward (free-fixed 8 v) (λ id s h. absurd cc)

free-with_signature : (limit : ℕ) (format : Format) (k : ℕ → ℕ → UnitKind) (v : View)
    → IsFree (with_signature limit format k v)
unfolding with_signature
free-with_signature limit format k v =
    free-onward (free-fixed 8 v) (λ signature s. free-onward (free-word limit format s) (λ offset t h. absurd cc))

free-kind : (limit : ℕ) (format : Format) (t : ℕ) (v : View) → IsFree (kind_of_type limit format t v)
unfolding kind_of_type
free-kind limit format t v =
    free-cond (eqb t 1) (λ h. absurd cc)
    (free-cond (eqb t 2) (free-with_signature limit format type_unit v)
    (free-cond (eqb t 3) (λ h. absurd cc)
    (free-cond (eqb t 4) (free-with_dwo_id skeleton v)
    (free-cond (eqb t 5) (free-with_dwo_id split_compilation v)
    (free-with_signature limit format split_type v)))))

free-unit_type : (v : View) → IsFree (unit_type v)
unfolding unit_type
free-unit_type v =
    free-onward (free-fixed 1 v) (λ t s. free-cond (leb 1 t && leb t 6) (λ h. absurd cc) (λ h. absurd cc))

free-to_4 : (limit : ℕ) (format : Format) (version : ℕ) (v : View) → IsFree (fields_to_4 limit format version v)
unfolding fields_to_4
free-to_4 limit format version v =
    free-onward (free-word limit format v)
    (λ abbrev_offset s. free-onward (free-address_size s) (λ size t h. absurd cc))

free-of_5 : (limit : ℕ) (format : Format) (v : View) → IsFree (fields_of_5 limit format v)
unfolding fields_of_5
free-of_5 limit format v =
    free-onward (free-unit_type v) (λ t s1.
    free-onward (free-address_size s1) (λ size s2.
    free-onward (free-word limit format s2) (λ abbrev_offset s3.
    free-onward (free-kind limit format t s3) (λ kind s4 h. absurd cc))))

pub free-unit_fields : (limit : ℕ) (format : Format) (v : View) → IsFree (unit_fields limit format v)
unfolding unit_fields
free-unit_fields limit format v =
    free-onward (free-fixed 2 v) (λ version s.
    free-cond (leb 2 version && leb version 4) (free-to_4 limit format version s)
    (free-cond (eqb version 5) (free-of_5 limit format s) (λ h. absurd cc)))

-- ---- sets of address ranges

pub free-arange_fields : (limit : ℕ) (format : Format) (v : View) → IsFree (arange_fields limit format v)
unfolding arange_fields
free-arange_fields limit format v =
    free-onward (free-fixed 2 v) (λ version s1.
    free-onward (free-cond (eqb version 2) (λ h. absurd cc) (λ h. absurd cc)) (λ of_2 s2.
    free-onward (free-word limit format s2) (λ info_offset s3.
    free-onward (free-address_size s3) (λ size s4.
    free-onward (free-fixed 1 s4) (λ segment s5.
    free-onward (free-cond (eqb segment 0) (λ h. absurd cc) (λ h. absurd cc)) (λ flat s6.
    free-onward (free-cond (ltb (length s6.bytes) (arange_padding format size)) (λ h. absurd cc) (λ h. absurd cc))
    (λ padding s7 h. absurd cc)))))))
