use Rattle.std.proofs.Common.{List, ℕ, Result, Ok, sym, subst, ap, ◌∙◌, arith}
use Rattle.std.proofs.lemmas.Bool.Decides.{nat_tests}
use Rattle.addr2line_decompress.specs.declared.error.DecompressError.{DecompressError}
use Rattle.addr2line_decompress.specs.CompressedSections.{Section}
use Rattle.addr2line_decompress.specs.DecompressResults.{DecompressesAsOrNoMemory}
use Rattle.addr2line_decompress.proofs.SectionLoops.{new_image_is}
use Rattle.addr2line_decompress.proofs.decompress.image_with.Goals as goal

pub returns : goal.returns
returns c =
    subst
    (λ (r : Result (List ℕ) DecompressError). DecompressesAsOrNoMemory (λ bytes. bytes.items) c.bytes_after.result r)
    (sym (new_image_is c.args.which c.args.table.now _ c.names_start-start.result _ (grind (arith, nat_tests))
    c.in_ok-refuse_all_names.ensures c.requires.names c.in_ok-refuse_new_names.ensures c.names_start-start.ensures
    (c.in_ok-sections.ensures.value ∙ ap ok (sym c.deref.ensures.value)))) c.bytes_after.ensures
  where
    ok : List Section → Result (List Section) DecompressError
    ok ss = Ok ss
