-- The bytes of the declarations are read as their table.
use Rattle.std.proofs.Common.{◌≡◌, ℕ, Bool, true, false, Ok, refl}
use Rattle.std.specs.Prelude.{nat_le}
use Rattle.gimli_lines_write_bytes.specs.Repetition.{listing_in, items_within}
use Rattle.gimli_lines_write_bytes.specs.Encoding.{Encoding}
use Rattle.gimli_lines_write_bytes.specs.Format.{Format}
use Rattle.gimli_lines_write_bytes.specs.Format.TheVariants.{Dwarf32, Dwarf64}
use Rattle.gimli_lines_write_bytes.specs.NumberParsers.{fixed, unsigned, unsigned_16, signed}
use Rattle.gimli_lines_write_bytes.specs.Spelling.{unsigned_within}
use Rattle.gimli_lines_header.specs.TableParsing.{table_at, table, declaration, coded_declaration, declaration_of, children, attributes, attribute, attribute_of, implicit_const}
use Rattle.linemap_emit_parts.specs.EmittedEntries.{declarations, spelled_declarations}
use Rattle.gimli_lines_write_bytes.specs.BytesAt.{bytes_at}

abbrev encoding_of : ℕ → ℕ → Format → Encoding
encoding_of size version format = record { address_size = size; format = format; version = version }

by_version : (is_big : Bool) (first size version : ℕ) (format : Format) (b : Bool) → nat_le version 3 ≡ b
    → table_at 0 (bytes_at is_big first (spelled_declarations (encoding_of size version format)))
    ≡ Ok (declarations (encoding_of size version format))
unfolding table declaration coded_declaration declaration_of children attributes attribute attribute_of implicit_const
    unsigned unsigned_16 signed fixed listing_in items_within unsigned_within
by_version true first size version format false later = rw later refl
by_version false first size version format false later = rw later refl
by_version true first size version Dwarf32 true earlier = rw earlier refl
by_version false first size version Dwarf32 true earlier = rw earlier refl
by_version true first size version Dwarf64 true earlier = rw earlier refl
by_version false first size version Dwarf64 true earlier = rw earlier refl

pub declarations_again : (e : Encoding) (is_big : Bool) (first : ℕ)
    → table_at 0 (bytes_at is_big first (spelled_declarations e)) ≡ Ok (declarations e)
declarations_again e is_big first = by_version is_big first e.address_size e.version e.format (nat_le e.version 3) refl
