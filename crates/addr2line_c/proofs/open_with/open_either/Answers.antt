use Rattle.std.proofs.Common.{rules, ℤ, sym, subst, w32}
use Rattle.std.proofs.lemmas.Int.{to_z-of_z}
use Rattle.addr2line_c.specs.Numbers.{IsDecompressedOrNoMemory}
use Rattle.addr2line_c.specs.OpenHandles.{file_over}
use Rattle.addr2line_c.proofs.OpenNumbers.{number_as_it_is}
use Rattle.addr2line_c.proofs.open_with.open_either.Goals as goal

pub returns-else-decompress-clause-number : goal.returns-else-decompress-clause-number
returns-else-decompress-clause-number c =
    subst (λ (n : ℤ). IsDecompressedOrNoMemory n (file_over c.args.decompress c.args.image c.args.supplement))
    (sym (to_z-of_z w32 c.open_over.result (search rules)))
    (number_as_it_is c.args.decompress c.if-decompress.false c.args.image c.args.supplement c.open_over.result
    c.open_over.ensures.number)
