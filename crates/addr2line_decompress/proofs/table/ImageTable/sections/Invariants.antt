use Rattle.std.proofs.Common.{◌≡◌, ◌+◌, drop, length, option_map}
use Rattle.addr2line_decompress.specs.CompressedSections.{added_names, sections_from}
use Rattle.addr2line_decompress.specs.WrittenBytes.{AreEntries}
use Rattle.addr2line_decompress.proofs.SectionLoops.{prepend}
use Rattle.addr2line_decompress.proofs.table.ImageTable.sections.Given as goal

-- the sections so far, and then those that are left; the names of those that are left end where all do
abbrev pub invariant-loop-index : goal.invariant-loop-index
invariant-loop-index l = record {
  all : prepend l.sections.items (sections_from l.which l.self (option_map (λ n. n.now) l.names) l.index l.name
      (drop l.index l.self.image.sections))
      ≡ sections_from l.which l.self (option_map (λ n. n.now) l.names) 0 l.start l.self.image.sections;
  names : l.name + length (added_names l.which l.self.image l.index (drop l.index l.self.image.sections))
      ≡ l.start + length (added_names l.which l.self.image 0 l.self.image.sections);
  entries : AreEntries l.self.image.class l.sections.items;
}
