-- The copies so far are the first files.
use Rattle.std.proofs.Common.{◌≡◌, take}
use Rattle.gimli_lines_header.proofs.copies.copies_of_files.Given as goal

abbrev pub invariant-loop-file : goal.invariant-loop-file
invariant-loop-file g l = l.copies.items ≡ take l.file-index l.files
