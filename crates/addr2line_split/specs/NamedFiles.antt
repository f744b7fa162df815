-- Files by the directory and the name that a unit's root says.
use Rattle.std.specs.Prelude.{ℕ, ◌&&◌, nat_eq, Bool, List, Option, option_map}
use Rattle.std.specs.List.{find}
use Rattle.std.specs.Cmp.Lexicographic.{pointwise}
use Rattle.addr2line_split.specs.declared.map_source.SplitFile.{SplitFile}

-- the file has this directory and this name
abbrev pub is_named : List ℕ → List ℕ → SplitFile → Bool
is_named directory name f = pointwise nat_eq f.directory directory && pointwise nat_eq f.name name

-- the bytes of the first such file
abbrev pub bytes_named : List ℕ → List ℕ → List SplitFile → Option (List ℕ)
bytes_named directory name files = option_map (λ f. f.bytes) (find (is_named directory name) files)
