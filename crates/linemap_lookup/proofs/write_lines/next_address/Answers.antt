use Rattle.linemap_lookup.proofs.write_lines.next_address.Goals as goal

pub returns-in-Err-clause-memory : goal.returns-in-Err-clause-memory
returns-in-Err-clause-memory g c = (c.out_of_memory.result, c.out_of_memory.ensures, c.with_flags.ensures)
