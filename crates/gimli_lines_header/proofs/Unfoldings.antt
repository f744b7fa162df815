-- Definitions that proofs unfold together.
use Rattle.gimli_lines_header.specs.HeaderParsing.{line_sizes, encoding_of_5, operations, operations_of_4, line_header, header_in}

unfoldable pub all_of_sizes : Unit {0}
unfolding line_sizes encoding_of_5
all_of_sizes = tt {0}

unfoldable pub all_of_operations : Unit {0}
unfolding operations operations_of_4
all_of_operations = tt {0}

unfoldable pub all_of_header : Unit {0}
unfolding line_header header_in
all_of_header = tt {0}
