-- What a search of the candidates that are left finds, one of all finds.
use Rattle.std.proofs.Common.{drop, Option}
use Rattle.addr2line_debug_files.specs.declared.files.NamedFile.{NamedFile}
use Rattle.addr2line_debug_files.specs.Searches.{Finds}
use Rattle.addr2line_debug_files.proofs.search.find_first.Given as goal

abbrev pub invariant-loop-candidate : goal.invariant-loop-candidate
invariant-loop-candidate g l =
    let answers = g.F.FilesByPath.answers in
    (found : Option NamedFile) (new : g.row.F.Denot)
    → Finds answers (drop l.candidate-index l.candidates) l.files found new
    → Finds answers l.candidates l.initial.files found new
