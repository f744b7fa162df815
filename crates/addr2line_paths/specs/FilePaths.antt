-- Texts of directories and files, joined as their bytes say, whatever system they come from
-- (DWARF 5, 6.2.4, items 10 and 11 and include_directories).
use Rattle.std.specs.Prelude.{ℕ, ◌-◌, Bool, ◌&&◌, ◌||◌, ◌==◌, List, [], ◌∷◌, ◌++◌, length, slice_index, Option, Some, None, option_map, unwrap_or, if◌then◌else◌}
use Rattle.std.specs.Str.Lossy.{utf8_lossy}

-- '/'
abbrev pub slash : ℕ
slash = 0x2f

-- '\'
abbrev pub backslash : ℕ
backslash = 0x5c

-- ':'
abbrev pub colon : ℕ
colon = 0x3a

abbrev pub is_slash : ℕ → Bool
is_slash b = (b == slash) || (b == backslash)

-- a text with a root begins with a slash of either kind, or has a colon and such a slash as its
-- second and third bytes
abbrev pub is_rooted : List ℕ → Bool
is_rooted text =
    is_slash (slice_index text 0)
    || ((slice_index text 1 == colon) && is_slash (slice_index text 2))

-- a path with a root of backslash is joined by backslashes
abbrev pub has_backslash_root : List ℕ → Bool
has_backslash_root path =
    (slice_index path 0 == backslash)
    || ((slice_index path 1 == colon) && (slice_index path 2 == backslash))

-- the byte between a path and a text joined to it
abbrev pub separator : List ℕ → ℕ
separator path = if has_backslash_root path then backslash else slash

-- a text is joined without a separator to an empty path, and to one that ends with its separator
abbrev pub needs_no_separator : List ℕ → Bool
needs_no_separator path =
    (length path == 0) || (slice_index path (length path - 1) == separator path)

-- a text with a root replaces the path; another is appended, after a separator where one is needed
abbrev pub join : List ℕ → List ℕ → List ℕ
join path text =
    if is_rooted text then text
    else (if needs_no_separator path then path ++ text else path ++ separator path ∷ text)

-- the same, where there is a text
abbrev pub join_some : List ℕ → Option (List ℕ) → List ℕ
join_some path None = path
join_some path (Some text) = join path text

-- A file's text: its unit's directory, or nothing, joined with its own directory, where it has one,
-- joined with its name.
abbrev pub file_text : Option (List ℕ) → Option (List ℕ) → List ℕ → List ℕ
file_text unit_directory directory name =
    join (join_some (unwrap_or unit_directory []) directory) name

-- The same of bytes, which may not be UTF-8: before they are joined, U+FFFD replaces what isn't.
abbrev pub file_text_of_bytes : Option (List ℕ) → Option (List ℕ) → List ℕ → List ℕ
file_text_of_bytes unit_directory directory name =
    file_text (option_map utf8_lossy unit_directory) (option_map utf8_lossy directory)
    (utf8_lossy name)
