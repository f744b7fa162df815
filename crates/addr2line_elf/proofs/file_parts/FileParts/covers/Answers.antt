use Rattle.std.proofs.Common.{subst}
use Rattle.addr2line_elf.specs.FileParts.{AreApart, AreThere, PartialFile}
use Rattle.addr2line_elf.proofs.file_parts.FileParts.covers.Goals as goal

pub returns-then-not-has_range-clause-there : goal.returns-then-not-has_range-clause-there
returns-then-not-has_range-clause-there c =
    subst (λ (f : PartialFile). AreThere f.bytes f.parts) c.self.view_is c.self.invariant.there

pub returns-clause-there : goal.returns-clause-there
returns-clause-there c = subst (λ (f : PartialFile). AreThere f.bytes f.parts) c.self.view_is c.self.invariant.there

pub returns-then-not-has_range-clause-apart : goal.returns-then-not-has_range-clause-apart
returns-then-not-has_range-clause-apart c =
    subst (λ (f : PartialFile). AreApart f.parts) c.self.view_is c.self.invariant.apart

pub returns-clause-apart : goal.returns-clause-apart
returns-clause-apart c = subst (λ (f : PartialFile). AreApart f.parts) c.self.view_is c.self.invariant.apart
