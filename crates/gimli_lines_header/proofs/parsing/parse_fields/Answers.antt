use Rattle.std.proofs.Common.{◌∙◌}
use Rattle.gimli_units_headers.proofs.RefusedCalls.{returns_refused}
use Rattle.gimli_lines_header.specs.HeaderParsing.{header_fields}
use Rattle.gimli_lines_header.proofs.ParserChains.{goes_on, stops}
use Rattle.gimli_lines_header.proofs.parsing.parse_fields.Goals as goal

pub invariant_of-result : goal.invariant_of-result
invariant_of-result g c = record {
  first_version = c.requires.first;
  last_version = c.requires.last;
  has_address_size = c.requires.address;
  has_instructions = c.in_ok-line_encoding.ensures.some.0;
  has_operations = c.in_ok-line_encoding.ensures.some.1;
  has_lines = c.in_ok-line_encoding.ensures.some.2;
  has_opcodes = c.in_ok-opcode_base.ensures.each.0;
  each_opcode = c.in_ok-opcode_base.ensures.each.1;
  formats_of_5 = c.in_ok-file_name_entry_format.ensures.older;
}

pub returns-in_err-file_name_entry_format : goal.returns-in_err-file_name_entry_format
unfolding header_fields
returns-in_err-file_name_entry_format g c =
    returns_refused _ c.from_residual-in_err-file_name_entry_format.result _ _
    c.from_residual-in_err-file_name_entry_format.ensures.1
    (λ ne. goes_on _ _ _ _ c.in_ok-line_encoding.ensures.value ∙ goes_on _ _ _ _ c.in_ok-opcode_base.ensures.value
    ∙ goes_on _ _ _ _ c.in_ok-directory_entry_format.ensures
    ∙ stops _ _ _ (c.in_err-file_name_entry_format.ensures.value ne))
