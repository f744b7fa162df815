-- What a handle ends as, once what it lends is done with.
use Rattle.std.specs.Prelude.{◌≡◌}
use Rattle.std.specs.Borrow.{Lends, MutBor, Fml}
use Rattle.std.specs.Io.BufRead.{Rests}
use Rattle.addr2line_c.specs.contracts.open_file.OpenFile.{the_row as file_row}
use Rattle.addr2line_c.specs.declared.open_file.OpenFile.{OpenFile}
use Rattle.addr2line_c.specs.declared.handle.Handle.{Handle}
use Rattle.addr2line_c.specs.contracts.handle.Handle.{the_row}

-- an open handle that keeps something else
abbrev pub with_file : Handle → OpenFile → Handle
with_file h k = record { opened = 1; at = h.at; file = k }

-- in the end s is open, and keeps the last value of what r lends
abbrev pub LendsFile : MutBor Handle → MutBor OpenFile → Fml
LendsFile s r = Lends the_row file_row s r (with_file s.now)

-- in the end s is open, and keeps a file of which this holds
abbrev pub LeavesHandle : MutBor Handle → (OpenFile → Type 0) → Fml
LeavesHandle s Left = Rests the_row s (λ left. (left.opened ≡ 1) × Left left.file)
