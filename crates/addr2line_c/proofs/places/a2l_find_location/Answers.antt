use Rattle.std.proofs.Common.{rules, ap, sym, ◌∙◌, subst, w32}
use Rattle.std.proofs.lemmas.Int.{to_z-of_z}
use Rattle.addr2line_context.specs.ContextCosts.{AsksForPlace}
use Rattle.addr2line_context.specs.KeptUnits.{KeepsAsked}
use Rattle.addr2line_loader.specs.ResolvedFiles.{answered_context}
use Rattle.addr2line_c.specs.declared.open_file.OpenFile.{OpenFile}
use Rattle.addr2line_c.proofs.MemoryNumber.{other_number}
use Rattle.addr2line_c.proofs.places.a2l_find_location.Goals as goal

pub returns-in-Err-clause-free : goal.returns-in-Err-clause-free
returns-in-Err-clause-free c = λ opened keeps is.
    let same = ap (λ h. h.file) c.state-opened.ensures.same in
    let number = to_z-of_z w32 c.error_number.result (search rules) ∙ c.error_number.ensures in
    other_number c.in-Err.error (c.in-Err.ensures.free
    (subst (λ (f : OpenFile). KeepsAsked (AsksForPlace (answered_context f.loader.file) c.args.address) f.loader.units)
    (sym same) keeps)) (sym number ∙ is)
