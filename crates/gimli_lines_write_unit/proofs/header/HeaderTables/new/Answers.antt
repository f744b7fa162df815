use Rattle.gimli_lines_write_unit.proofs.header.HeaderTables.new.Goals as goal

pub invariant_of-result : goal.invariant_of-result
invariant_of-result c = (c.requires, c.directories-directories.ensures.consistent.same_length)
