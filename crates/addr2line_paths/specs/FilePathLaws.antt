-- Laws of joined texts.
use Rattle.std.specs.Prelude.{◌≡◌, ℕ, true, List, Option, IfSome}
use Rattle.std.specs.Str.{IsUtf8}
use Rattle.addr2line_paths.specs.FilePaths.{is_rooted, join, file_text, file_text_of_bytes}

-- a text with a root replaces what it is joined to
abbrev pub RootedTextReplacesPath : Type 0
RootedTextReplacesPath =
    (path text : List ℕ) → is_rooted text ≡ true → join path text ≡ text

-- in texts that are UTF-8 nothing is replaced
abbrev pub Utf8TextIsUnchanged : Type 0
Utf8TextIsUnchanged =
    (unit_directory directory : Option (List ℕ)) (name : List ℕ)
    → IfSome unit_directory IsUtf8 → IfSome directory IsUtf8 → IsUtf8 name
    → file_text_of_bytes unit_directory directory name ≡ file_text unit_directory directory name
