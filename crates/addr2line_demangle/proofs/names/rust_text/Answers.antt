use Rattle.std.proofs.Common.{◌≡◌, ℕ, List, Option, Ok, IsAscii, option_map, string_bytes, ap, subst, ◌∙◌, rules}
use Rattle.gimli_core_base.specs.Calls.{ReturnsAsOrNoMemory}
use Rattle.addr2line_demangle.specs.LegacyNames.{path_bytes, path_of}
use Rattle.addr2line_demangle.specs.LegacyPathView.{path_view}
use Rattle.addr2line_demangle.proofs.WholeNames.{ascii_path, whole_text}
use Rattle.addr2line_demangle.proofs.names.rust_text.Goals as goal

pub read_path-requires : goal.read_path-requires
read_path-requires c =
    let ascii : IsAscii c.args.name.now = search rules in
    ascii_path c.args.name.now c.in-Some.path.now ascii
    (c.in-Some.ensures ∙ ap path_bytes c.without_llvm.ensures)

pub returns-in-Some-2 : goal.returns-in-Some-2
returns-in-Some-2 c =
    let ascii : IsAscii c.args.name.now = search rules in
    let both = c.in_ok-path.ensures in
    let read : path_of c.in-Some.path.now ≡ option_map path_view c.in_ok-path.field-0 = cc in
    let F : Option (List ℕ) → Type 0 =
    λ text. ReturnsAsOrNoMemory (option_map string_bytes) c.path_text.result (Ok text) in
    subst F
    (whole_text c.args.name.now c.in-Some.path.now (path_view c.in-Some-2.path) ascii
    (c.in-Some.ensures ∙ ap path_bytes c.without_llvm.ensures)
    (read ∙ ap (option_map path_view) c.in-Some-2.is))
    c.path_text.ensures
