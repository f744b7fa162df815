use Rattle.std.proofs.Common.{◌≡◌, true, sym, ◌∙◌}
use Rattle.std.specs.Str.{is_utf8}
use Rattle.std.proofs.lemmas.Str.{is_utf8-from_IsUtf8}
use Rattle.addr2line_debug_files.proofs.system_files.SystemFilesFilesByPath.read.Goals as goal

pub returns-in-Ok : goal.returns-in-Ok
returns-in-Ok g c = λ other.
    let text : is_utf8 c.args.path.now ≡ true = is_utf8-from_IsUtf8 c.args.path.now c.in-Ok.ensures.cases.1 in
    let both = sym other ∙ text in
    absurd cc
