use Rattle.std.proofs.Common.{◌≡◌, ℕ, nat_eq, List, Some, refl, ap, ◌∙◌}
use Rattle.std.proofs.Math.Path.{ap₂}
use Rattle.std.specs.List.{find}
use Rattle.std.specs.Cmp.Lexicographic.{pointwise}
use Rattle.addr2line_debug_files.specs.declared.files.NamedFile.{NamedFile}
use Rattle.addr2line_debug_files.proofs.memory_files.MemoryFilesFilesByPath.read.Goals as goal
use Rattle.addr2line_debug_files.proofs.memory_files.MemoryFilesFilesByPath.read.Goals.{in-Some+in_ok-clone-in-Some, in-None}

same_file : (a b : NamedFile) → a.path ≡ b.path → a.bytes ≡ b.bytes → a ≡ b
same_file a b path bytes =
    let make : List ℕ → List ℕ → NamedFile = λ p q. record { path = p; bytes = q } in ap₂ make path bytes

pub returns : goal.returns
returns c =
    let at : List NamedFile → _ = find (λ (f : NamedFile). pointwise nat_eq f.path c.args.path.now) in
    let files = ap at (c.deref.ensures.value ∙ c.self.view_is) in (
      refl,
      elim c.match-file_at.branch [
        | in-Some+in_ok-clone-in-Some w ↦
            let copied = w.in_ok-clone-in-Some.ensures.cases in
            rw w.result-is (ap Some (same_file _ w.in-Some.file.now copied.0 copied.1) ∙ w.in-Some.ensures ∙ files)
        | in-None w ↦ rw w.result-is (w.in-None.ensures ∙ files)
      ],
    )
