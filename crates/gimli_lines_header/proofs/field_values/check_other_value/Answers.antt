use Rattle.std.proofs.Common.{rules}
use Rattle.gimli_lines_header.specs.TableEntries.{entry_value}
use Rattle.gimli_lines_header.proofs.field_values.check_other_value.Goals as goal

pub returns-in_default : goal.returns-in_default
unfolding entry_value
returns-in_default g c = search rules
