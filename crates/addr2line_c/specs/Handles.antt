-- What a handle owns: the box of its file, if it is open.
use Rattle.std.specs.Prelude.{zero, suc, ℕ}
use base.Fml.{Fml, ftrue}
use base.Stored.{Coded}
use mir.Syntax.{Ty}
use denote.RawPtr.{Ptr}
use Rattle.std.specs.Box.Ownership.{box_owns}
use Rattle.std.specs.Global.{Global}
use Rattle.std_heap.specs.contracts.GlobalAllocator.TheImpl.{ghosts}
use Rattle.addr2line_c.specs.contracts.open_file.OpenFile.{the_row}

-- the only value of `Global`, which takes no bytes
abbrev pub global : Global
global = record { memory = record { seal = tt } }

-- the right to free a block that `Global` allocated
abbrev pub token : Ty → Ptr → Fml
token = ghosts.dealloc_token global

-- nothing in a closed handle, and in any other the box of the file that its pointer leads to
abbrev pub owns_file : ℕ → Ptr → the_row.Denot → Fml
owns_file zero p file = ftrue
owns_file (suc n) p file = box_owns token the_row p file

-- how a file is stored as a value that only proofs see
abbrev pub file_coded : Coded the_row.Denot
file_coded = the_row.coded
