use Rattle.addr2line_names.proofs.names.KnownUnits.+name_by_reference.Given as goal

-- at most this number of references may be followed
abbrev pub decreases-name_by_reference : goal.decreases-name_by_reference
decreases-name_by_reference g l = l.left
