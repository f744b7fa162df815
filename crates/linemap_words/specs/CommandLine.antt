-- The program's command line, as the contracts of `clap` have it.
use Rattle.std.specs.Prelude.{◌≡◌, ℕ, List, ◌∷◌, [], Some, true, false, codes, pos, slice_index_or, ⊤}
use Rattle.clap.specs.Words.{App, Rule, Text, app_of, new_app, new_rule, rule_of, with_rule, with_subcommand}
use Rattle.clap.specs.declared.builder.arg.Arg.{Arg}
use Rattle.clap.specs.declared.builder.command.Command.{Command}
use Rattle.clap.specs.declared.builder.command.Command.TheViews.{out-Command as fields_of}
use Rattle.clap.specs.declared.builder.value_parser.ValueParser.TheVariants.{Signed}
use Rattle.clap.specs.Simple.{on_top}
use Rattle.clap.specs.Lexer.{usize_max}
use Rattle.clap.specs.declared.builder.ArgAction.TheVariants.{Append, Set, SetTrue}

-- the command is read as this application, and no argument of it is global
abbrev pub IsLocalApp : Command → App → Type 0
IsLocalApp command app = (app_of command ≡ app) × ((fields_of command).has_globals ≡ false)

-- the arguments are read by these rules, and none of them is global
abbrev pub HaveRules : List Arg → List Rule → Type 0
HaveRules [] [] = ⊤
HaveRules (argument ∷ arguments) (rule ∷ rules) =
    (rule_of argument ≡ rule) × (argument.global ≡ false) × HaveRules arguments rules
HaveRules [] (rule ∷ rules) = ⊥
HaveRules (argument ∷ arguments) [] = ⊥

-- a positional word that is required
abbrev pub word_rule : Text → Rule
word_rule id = record (new_rule id) { value_names = 1; required = true; action = Some Set }

-- the path of a table
abbrev pub table_rule : Rule
table_rule = word_rule (codes "table")

-- the path of the file that is written
abbrev pub out_rule : Rule
out_rule = word_rule (codes "out")

-- the code of a refusal
abbrev pub code_rule : Rule
code_rule = word_rule (codes "code")

-- any addresses
abbrev pub addresses_rule : Rule
addresses_rule = record (new_rule (codes "words")) {
  value_names = 1;
  range = Some (record { start_inclusive = 1; end_inclusive = usize_max });
  action = Some Append;
}

-- `--NAME`
abbrev pub flag_rule : Text → Rule
flag_rule name = record (new_rule name) { long = Some name; action = Some SetTrue }

-- `--NAME VALUE`
abbrev pub option_rule : Text → Rule
option_rule name =
    record (new_rule name) { long = Some name; value_names = 1; action = Some Set }

-- `--NAME N`, a number of 16 bits, with this default
abbrev pub number_rule : Text → Text → Rule
number_rule name default = record (option_rule name) {
  parser = Some (Signed (pos 0) (pos 65535));
  defaults = default ∷ [];
}

-- the only letter of a text
abbrev pub letter : Text → ℕ
letter text = slice_index_or text 0 0

-- the option has a short name too
abbrev pub with_short : ℕ → Rule → Rule
with_short short rule = record rule { short = Some short }

-- `-L` or `--NAME`
abbrev pub short_flag_rule : Text → Text → Rule
short_flag_rule short name = with_short (letter short) (flag_rule name)

-- `-e FILE`, the file that is looked into
abbrev pub exe_rule : Rule
exe_rule = record (with_short (letter (codes "e")) (option_rule (codes "exe"))) { required = true }

-- `-j NAME`, the section that the addresses count from
abbrev pub section_rule : Rule
section_rule = with_short (letter (codes "j")) (option_rule (codes "section"))

-- the command has these arguments too, in turn
abbrev pub with_rules : App → List Rule → App
with_rules app [] = app
with_rules app (rule ∷ rules) = with_rules (with_rule app rule) rules

-- `ask TABLE ADDR..`
abbrev pub ask_app : App
ask_app = with_rules (new_app (codes "ask"))
    (table_rule ∷ record addresses_rule { required = true } ∷ [])

-- `TABLE OUT [--dwarf N] [--bits N] [--size N] [--big]`
abbrev pub emit_rules : List Rule
emit_rules = table_rule
    ∷ out_rule
    ∷ number_rule (codes "dwarf") (codes "4")
    ∷ number_rule (codes "bits") (codes "32")
    ∷ number_rule (codes "size") (codes "8")
    ∷ flag_rule (codes "big")
    ∷ []

-- `emit TABLE OUT [OPTIONS]`
abbrev pub emit_app : App
emit_app = with_rules (new_app (codes "emit")) emit_rules

-- `explain CODE`
abbrev pub explain_app : App
explain_app = with_rules (new_app (codes "explain")) (code_rule ∷ [])

-- `-e FILE [--sup FILE] [-j NAME] [--all]`
abbrev pub source_rules : List Rule
source_rules = exe_rule ∷ option_rule (codes "sup") ∷ section_rule ∷ flag_rule (codes "all") ∷ []

-- `--NAME VALUE`, any number of times
abbrev pub list_rule : Text → Rule
list_rule name = record (option_rule name) { action = Some Append }

-- `[--decompress] [--find-debug] [--debug-dir DIR]..`
abbrev pub debug_rules : List Rule
debug_rules = flag_rule (codes "decompress")
    ∷ flag_rule (codes "find-debug")
    ∷ list_rule (codes "debug-dir")
    ∷ []

-- `[-f] [-p] [-i] [-a] [-s] [-C] [--llvm] [--statements]`
abbrev pub detail_rules : List Rule
detail_rules = short_flag_rule (codes "f") (codes "functions")
    ∷ short_flag_rule (codes "p") (codes "pretty-print")
    ∷ short_flag_rule (codes "i") (codes "inlines")
    ∷ short_flag_rule (codes "a") (codes "addresses")
    ∷ short_flag_rule (codes "s") (codes "basenames")
    ∷ short_flag_rule (codes "C") (codes "demangle")
    ∷ flag_rule (codes "llvm")
    ∷ flag_rule (codes "statements")
    ∷ []

-- `lookup -e FILE [OPTIONS] [ADDR..]`
abbrev pub lookup_app : App
lookup_app =
    let sources = with_rules (new_app (codes "lookup")) source_rules in
    with_rule (with_rules (with_rules sources debug_rules) detail_rules) addresses_rule

-- the subcommands, of which one is required
unfoldable pub linemap_app : App
linemap_app =
    let top = on_top (λ s. record s { subcommand_required = true }) (new_app (codes "linemap")) in
    let lookup = with_subcommand top lookup_app.top in
    let ask = with_subcommand lookup ask_app.top in
    let emit = with_subcommand ask emit_app.top in
    with_subcommand emit explain_app.top
