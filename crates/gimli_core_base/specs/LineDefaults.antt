use Rattle.std.specs.Prelude.{true, negsuc}
use Rattle.gimli_core_base.specs.declared.common.LineEncoding.{LineEncoding}

-- the parameters of special opcodes that most producers use: lines from -5 on, fourteen of them
abbrev pub default_line_encoding : LineEncoding
default_line_encoding = record {
  minimum_instruction_length = 1;
  maximum_operations_per_instruction = 1;
  default_is_stmt = true;
  line_base = negsuc 4;
  line_range = 14;
}
