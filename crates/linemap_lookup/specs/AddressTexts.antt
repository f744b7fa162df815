-- The text of an address: the address itself, and its place.
use Rattle.std.specs.Prelude.{ℕ, ◌-◌, Bool, true, false, List, [], ◌++◌, length, replicate, decimal, codes, Option, Some, None, option_map, unwrap_or, if◌then◌else◌}
use Rattle.std.specs.Fmt.{digits}
use Rattle.std.specs.Path.{path_file_name}
use Rattle.linemap_meaning.specs.AnswerTexts.{discriminator_text, place_text, unknown_text}
use Rattle.linemap_output.specs.declared.options.Options.{Options}
use Rattle.addr2line_context.specs.Lines.{Location}

-- ---- addresses

-- an address in hexadecimal
abbrev pub hexadecimal : ℕ → List ℕ
hexadecimal a = codes "0x" ++ digits 16 false a

-- with zeros before it, so that it has 16 digits
abbrev pub hexadecimal_16 : ℕ → List ℕ
hexadecimal_16 a =
    codes "0x" ++ (replicate (16 - length (digits 16 false a)) 0x30 ++ digits 16 false a)

-- an address as it is printed
abbrev pub printed_address : Options → ℕ → List ℕ
printed_address o a = if o.llvm then hexadecimal a else hexadecimal_16 a

-- the address itself, where it is asked for, on the line of what follows or on one of its own
abbrev pub address_text : Options → ℕ → List ℕ
address_text o a =
    if o.addresses then printed_address o a ++ (if o.pretty then codes ": " else codes "\n")
    else []

-- ---- places

-- the last component of a path, or all of it where that is no name
abbrev pub last_component : List ℕ → List ℕ
last_component path = unwrap_or (path_file_name path) path

-- a file as it is printed
abbrev pub printed_file : Options → Option (List ℕ) → Option (List ℕ)
printed_file o file = if o.basenames then option_map last_component file else file

-- that a place isn't the beginning of a statement
abbrev pub statement_text : Options → Option Bool → List ℕ
statement_text o None = []
statement_text o (Some true) = []
statement_text o (Some false) = if o.statements then codes " (not a statement)" else []

-- the file, the line and the column, where 0 is a number that isn't known
abbrev pub text_with_column : Option (List ℕ) → Option ℕ → Option ℕ → List ℕ
text_with_column file line column =
    unwrap_or file unknown_text
    ++ (codes ":" ++ (decimal (unwrap_or line 0) ++ (codes ":" ++ decimal (unwrap_or column 0))))

-- the text of a place; in the form of `llvm-symbolizer` with the column, and else with the
-- discriminator and whether it is a statement
abbrev pub location_text : Options → Location → List ℕ
location_text o l =
    if o.llvm then text_with_column (printed_file o l.file) l.line l.column
    else place_text (printed_file o l.file) l.line
    ++ (discriminator_text l.discriminator ++ statement_text o l.statement)

-- where there is no place, a file that isn't known with the line 0
abbrev pub location_text_if_any : Options → Option Location → List ℕ
location_text_if_any o None =
    if o.llvm then text_with_column None None None else place_text None (Some 0)
location_text_if_any o (Some l) = location_text o l
