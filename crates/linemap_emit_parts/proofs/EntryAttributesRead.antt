-- The bytes of an entry are read as its declaration and its attributes.
use Rattle.std.proofs.Common.{◌≡◌, ℕ, ◌+◌, Bool, true, List, [], ◌∷◌, length, map, refl}
use Rattle.std.specs.Prelude.{flat_map}
use Rattle.gimli_lines_write_bytes.specs.Parsers.{give, ◌>>=◌}
use Rattle.gimli_lines_write_bytes.specs.Encoding.{Encoding}
use Rattle.gimli_lines_write_bytes.specs.NumberParsers.{is_address_size}
use Rattle.gimli_lines_header.specs.AttributeReading.{attributes}
use Rattle.linemap_emit_parts.specs.EmittedEntries.{EmittedAttribute, AllFit, declared_attribute, raw_attribute_of, spelled_value}
use Rattle.gimli_lines_write_bytes.proofs.FollowedReads.{Again, again_nothing, again_onward, again_then}
use Rattle.linemap_emit_parts.proofs.ValuesRead.{value_again}

-- the attributes of an entry
pub attributes_again : (limit : ℕ) (e : Encoding) (is_big : Bool) (first : ℕ) (ss : List EmittedAttribute)
    → is_address_size e.address_size ≡ true → AllFit limit e ss
    → Again is_big first (attributes limit e (map (declared_attribute e) ss)) (map (raw_attribute_of e) ss)
    (flat_map (λ s. spelled_value e is_big s.value) ss)
unfolding attributes
attributes_again limit e is_big first [] is_size fit = again_nothing is_big first []
attributes_again limit e is_big first (s ∷ ss) is_size fit =
    again_onward (λ a. attributes limit e (map (declared_attribute e) ss) >>= λ rest. give (a ∷ rest))
    (value_again limit e is_big first s.name s.value is_size fit.0)
    (again_then (λ rest. give (raw_attribute_of e s ∷ rest))
    (attributes_again limit e is_big (first + length (spelled_value e is_big s.value)) ss is_size fit.1) (λ v. refl))
