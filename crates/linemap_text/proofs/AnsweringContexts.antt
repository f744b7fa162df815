-- The context that an answer holds beside its sections.
use Rattle.std.proofs.Common.{◌≡◌, Result, Ok, Err, ap}
use Rattle.addr2line_context.specs.Error.{Error}
use Rattle.addr2line_context.specs.Results.{and_then}
use Rattle.addr2line_context.specs.DwarfFiles.{DwarfFile}
use Rattle.addr2line_context.specs.Contexts.{Context, context, FileContext, file_context}

abbrev with_file : DwarfFile → Context → Result FileContext Error
with_file s c = Ok (record { file = s; context = c })

context_in_answer : (s : DwarfFile) (r : Result Context Error) (c : FileContext) → and_then r (with_file s) ≡ Ok c
    → r ≡ Ok c.context
context_in_answer s (Ok x) c h =
    let same : record { file = s; context = x } ≡ c = cc in
    ap (λ (f : FileContext). Ok f.context) same
context_in_answer s (Err e) c h = cc

pub context_in : (s : DwarfFile) (c : FileContext) → file_context s ≡ Ok c
    → context s ≡ Ok c.context
context_in s c h = context_in_answer s (context s) c h
