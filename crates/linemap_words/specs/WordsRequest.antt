-- How a request relates to the matches that `clap` finds.
use Rattle.std.specs.Prelude.{◌≡◌, ◌≢◌, ◌⊎◌, ◌<◌, ◌^◌, ℕ, List, [], ◌∷◌, Bool, true, false, ◌||◌, Option, None, Some, IsSome, IsSomeAnd, IsTrue, ⊤, Vec, String, codes, map, option_map, string_bytes}
use Rattle.std.specs.declared.alloc.Global.{Global}
use Rattle.std.specs.Option.{option_map_or}
use Rattle.std.specs.Str.{bytes_eq}
use Rattle.std.specs.Str.Parse.{IsNumeral, digits_value, without_leading_plus}
use Rattle.clap.specs.Words.{IsAmong, Kinds, Row, Text, all_of, first_of, kind_of, one_of}
use Rattle.clap.specs.declared.error.ErrorKind.{ErrorKind}
use Rattle.clap.specs.declared.error.ErrorKind.TheVariants.{ArgumentConflict, MissingRequiredArgument, OutOfMemory}
use Rattle.linemap_output.specs.declared.options.Options.{Options}
use Rattle.linemap_words.specs.declared.debug_sources.DebugSources.{DebugSources}
use Rattle.linemap_words.specs.declared.request.Mismatch.{Mismatch}
use Rattle.linemap_words.specs.declared.request.Mismatch.TheVariants.{NoMemory, Missing, Conflict, UnusedFolder}
use Rattle.linemap_words.specs.declared.request.Request.{Request}
use Rattle.linemap_words.specs.declared.request.Request.TheVariants.{Ask, Emit, Explain, Lookup}
use Rattle.linemap_words.specs.declared.request.WordsError.{WordsError}
use Rattle.linemap_words.specs.declared.request.WordsError.TheVariants.{Memory, Fault}

-- the flag is among the matches
abbrev pub is_set : Text → List Row → Bool
is_set id rows = option_map_or (λ text. bytes_eq text (codes "true")) (first_of id rows) false

-- the text is a decimal numeral of the number, and may begin with a plus
abbrev pub IsDecimal : Text → ℕ → Type 0
IsDecimal text number = IsNumeral 10 (without_leading_plus text)
    × (digits_value 10 (without_leading_plus text) ≡ number)

-- the option has this number
abbrev pub HasNumber : Text → List Row → ℕ → Type 0
HasNumber id rows number = IsSomeAnd (one_of id rows) (λ text. IsDecimal text number)

-- the option has no number of 16 bits
abbrev pub LacksNumber : Text → List Row → Type 0
LacksNumber id rows = (number : ℕ) → number < 2 ^ 16 → HasNumber id rows number → ⊥

-- the texts of a list
abbrev pub texts_of : Vec (String Global) Global → List Text
texts_of texts = map string_bytes texts.items

-- the options of `lookup` are what the matches hold
pub record AreOptionsOf (options : Options) (rows : List Row) : Type 0 where
  pub section : first_of (codes "section") rows ≡ option_map string_bytes options.section
  pub all : options.all ≡ is_set (codes "all") rows
  pub functions : options.functions ≡ is_set (codes "functions") rows
  pub pretty : options.pretty ≡ is_set (codes "pretty-print") rows
  pub inlines : options.inlines ≡ is_set (codes "inlines") rows
  pub addresses : options.addresses ≡ is_set (codes "addresses") rows
  pub basenames : options.basenames ≡ is_set (codes "basenames") rows
  pub demangle : options.demangle ≡ is_set (codes "demangle") rows
  pub llvm : options.llvm ≡ is_set (codes "llvm") rows
  pub statements : options.statements ≡ is_set (codes "statements") rows
  pub words : all_of (codes "words") rows ≡ option_map texts_of options.words

-- where separate debug files are looked for, if no folder is named
abbrev pub usual_folders : List Text
usual_folders = codes "/usr/lib/debug" ∷ []

-- the folders in which debug files are looked for, if they are, of those that are named
abbrev pub folders_of : Bool → Option (List Text) → Option (List Text)
folders_of false named = None
folders_of true None = Some usual_folders
folders_of true (Some named) = Some named

-- a folder of debug files is named, and they aren't looked for
abbrev pub NamesUnusedFolder : List Row → Type 0
NamesUnusedFolder rows =
    IsSome (all_of (codes "debug-dir") rows) × (is_set (codes "find-debug") rows ≡ false)

-- debug information comes from where the matches say, and each folder that they name is used
pub record AreSourcesOf (sources : DebugSources) (rows : List Row) : Type 0 where
  pub decompress : sources.decompress
      ≡ (is_set (codes "find-debug") rows || is_set (codes "decompress") rows)
  pub folders : option_map texts_of sources.folders
      ≡ folders_of (is_set (codes "find-debug") rows) (all_of (codes "debug-dir") rows)
  pub are_used : NamesUnusedFolder rows → ⊥

-- the request has the subcommand's name and what its matches hold
abbrev pub IsRequestOf : Request → Text × List Row → Type 0
IsRequestOf (Ask table words) matches = (matches.0 ≡ codes "ask")
    × (first_of (codes "table") matches.1 ≡ Some (string_bytes table))
    × (all_of (codes "words") matches.1 ≡ Some (texts_of words))
IsRequestOf (Emit table out dwarf bits size big) matches = (matches.0 ≡ codes "emit")
    × (first_of (codes "table") matches.1 ≡ Some (string_bytes table))
    × (first_of (codes "out") matches.1 ≡ Some (string_bytes out))
    × HasNumber (codes "dwarf") matches.1 dwarf × HasNumber (codes "bits") matches.1 bits
    × HasNumber (codes "size") matches.1 size × (big ≡ is_set (codes "big") matches.1)
IsRequestOf (Explain code) matches = (matches.0 ≡ codes "explain")
    × (first_of (codes "code") matches.1 ≡ Some (string_bytes code))
IsRequestOf (Lookup exe sup sources options) matches = (matches.0 ≡ codes "lookup")
    × (first_of (codes "exe") matches.1 ≡ Some (string_bytes exe))
    × (first_of (codes "sup") matches.1 ≡ option_map string_bytes sup)
    × AreSourcesOf sources matches.1
    × AreOptionsOf options matches.1
    -- all addresses are asked for alone
    × (IsTrue options.all → options.words ≡ None)

-- an error of the parse is out of memory, or a fault of that kind
abbrev pub IsFault : WordsError → ErrorKind → Type 0
IsFault Memory kind = kind ≡ OutOfMemory
IsFault (Fault error) kind = (kind_of error ≡ kind) × (kind ≢ OutOfMemory)

-- the matches of `ask` lack an argument that it requires
abbrev pub LacksAsk : List Row → Type 0
LacksAsk rows = (first_of (codes "table") rows ≡ None) ⊎ (all_of (codes "words") rows ≡ None)

-- the matches of `emit` lack an argument that it requires, or a number
abbrev pub LacksEmit : List Row → Type 0
LacksEmit rows = (first_of (codes "table") rows ≡ None) ⊎ ((first_of (codes "out") rows ≡ None)
    ⊎ (LacksNumber (codes "dwarf") rows ⊎ (LacksNumber (codes "bits") rows
    ⊎ LacksNumber (codes "size") rows)))

-- the matches of `explain` lack the code that it requires
abbrev pub LacksExplain : List Row → Type 0
LacksExplain rows = first_of (codes "code") rows ≡ None

-- the matches name no subcommand of the program, or lack an argument that it requires
abbrev pub LacksRequest : Option (Text × List Row) → Type 0
LacksRequest None = ⊤
LacksRequest (Some matches) = (matches.0 ≡ codes "ask" → LacksAsk matches.1)
    × (matches.0 ≡ codes "emit" → LacksEmit matches.1)
    × (matches.0 ≡ codes "explain" → LacksExplain matches.1)
    × (matches.0 ≡ codes "lookup" → first_of (codes "exe") matches.1 ≡ None)

-- all addresses are asked for, and some too
abbrev pub HasConflict : Text × List Row → Type 0
HasConflict matches = (matches.0 ≡ codes "lookup") × IsTrue (is_set (codes "all") matches.1)
    × IsSome (all_of (codes "words") matches.1)

-- a folder of debug files is named, and they aren't looked for
abbrev pub HasUnusedFolder : Text × List Row → Type 0
HasUnusedFolder matches = (matches.0 ≡ codes "lookup") × NamesUnusedFolder matches.1

-- why matches are no request
abbrev pub IsMismatch : Mismatch → Option (Text × List Row) → Type 0
IsMismatch NoMemory matches = ⊤
IsMismatch Missing matches = LacksRequest matches
IsMismatch Conflict matches = IsSomeAnd matches HasConflict
IsMismatch UnusedFolder matches = IsSomeAnd matches HasUnusedFolder

-- out of memory; or a fault of a kind that the parse has; or the parse has none, and its matches
-- lack a request, are in conflict, or name a folder that isn't used
abbrev pub IsRefusal : WordsError → Kinds → Option (Text × List Row) → Type 0
IsRefusal Memory kinds matches = ⊤
IsRefusal (Fault error) kinds matches = IsAmong (kind_of error) kinds ⊎ ((kinds ≡ [])
    × (((kind_of error ≡ MissingRequiredArgument) × LacksRequest matches)
    ⊎ (((kind_of error ≡ ArgumentConflict) × IsSomeAnd matches HasConflict)
    ⊎ ((kind_of error ≡ MissingRequiredArgument) × IsSomeAnd matches HasUnusedFolder))))

-- the error refuses a command line whose parse has no fault, and whose matches are no request for
-- this reason
abbrev pub RefusesAfter : Mismatch → WordsError → Type 0
RefusesAfter why error = (kinds : Kinds) (matches : Option (Text × List Row))
    → kinds ≡ [] → IsMismatch why matches → IsRefusal error kinds matches
