use Rattle.std.proofs.Common.{List, ◌++◌, ℕ, ap, subst}
use Rattle.std.specs.Prelude.{codes, decimal}
use Rattle.std.specs.Fmt.{HasWritten, IsPlainFormatter}
use Rattle.std.specs.Result.{IsOk}
use Rattle.addr2line_decompress.proofs.error.DecompressErrorDisplay.fmt.Goals as goal
use Rattle.addr2line_decompress.proofs.error.DecompressErrorDisplay.fmt.Goals.{in-OverlappingSection, in-SectionCut, in-CompressedNames, in-SharedNames, in-NameCut, in-HeaderCut, in-Zstandard, in-ImpossibleSize}

pub returns-in-UnknownCompression-clause-writes : goal.returns-in-UnknownCompression-clause-writes
returns-in-UnknownCompression-clause-writes g c =
    rw c.in-UnknownCompression.is c.write-in-UnknownCompression.ensures.writes

pub returns-in-Stream-clause-writes : goal.returns-in-Stream-clause-writes
returns-in-Stream-clause-writes g c = rw c.in-Stream.is c.write-in-Stream.ensures.writes

pub returns-clause-writes : goal.returns-clause-writes
returns-clause-writes g c =
    let written : List ℕ → Type 0 = λ text. IsPlainFormatter c.args.f.now → IsOk c.write-2.result
    → HasWritten g.W.Write.write_str_gives c.args.f.now text c.write-2.new.self in
    elim c.match-self.branch [
      | in-OverlappingSection w ↦ rw w.in-OverlappingSection.is
          (subst written (ap (λ s. codes "section " ++ (decimal s.0 ++ (codes " " ++ s.1.now))) w.section-is)
          c.write-2.ensures.writes)
      | in-SectionCut w ↦ rw w.in-SectionCut.is
          (subst written (ap (λ s. codes "section " ++ (decimal s.0 ++ (codes " " ++ s.1.now))) w.section-is)
          c.write-2.ensures.writes)
      | in-CompressedNames w ↦ rw w.in-CompressedNames.is
          (subst written (ap (λ s. codes "section " ++ (decimal s.0 ++ (codes " " ++ s.1.now))) w.section-is)
          c.write-2.ensures.writes)
      | in-SharedNames w ↦ rw w.in-SharedNames.is
          (subst written (ap (λ s. codes "section " ++ (decimal s.0 ++ (codes " " ++ s.1.now))) w.section-is)
          c.write-2.ensures.writes)
      | in-NameCut w ↦ rw w.in-NameCut.is
          (subst written (ap (λ s. codes "section " ++ (decimal s.0 ++ (codes " " ++ s.1.now))) w.section-is)
          c.write-2.ensures.writes)
      | in-HeaderCut w ↦ rw w.in-HeaderCut.is
          (subst written (ap (λ s. codes "section " ++ (decimal s.0 ++ (codes " " ++ s.1.now))) w.section-is)
          c.write-2.ensures.writes)
      | in-Zstandard w ↦ rw w.in-Zstandard.is
          (subst written (ap (λ s. codes "section " ++ (decimal s.0 ++ (codes " " ++ s.1.now))) w.section-is)
          c.write-2.ensures.writes)
      | in-ImpossibleSize w ↦ rw w.in-ImpossibleSize.is
          (subst written (ap (λ s. codes "section " ++ (decimal s.0 ++ (codes " " ++ s.1.now))) w.section-is)
          c.write-2.ensures.writes)
    ]
