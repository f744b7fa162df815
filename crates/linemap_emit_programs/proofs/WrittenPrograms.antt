-- A write of bytes that aren't refused appends them, or is out of memory.
use Rattle.std.proofs.Common.{◌≡◌, ◌≢◌, ℕ, List, Result, Ok, Err, refl, sym}
use Rattle.std.specs.Prelude.{IsOk}
use Rattle.linemap_emit_rows.specs.OutputBytes.{WriterContents, append, append_result}
use Rattle.linemap_emit_rows.specs.WriteError.{Error}
use Rattle.linemap_emit_rows.specs.WriteError.TheVariants.{Memory}
use Rattle.linemap_emit_programs.specs.EmittedPrograms.{bytes_if_any}

pub written_ok : (r : Result (List ℕ) Error) (old new : WriterContents) → IsOk r → append_result r old ≡ Ok new
    → new ≡ append (bytes_if_any r) old
written_ok (Ok bytes) old new ok h = let same : append bytes old ≡ new = cc in sym same
written_ok (Err e) old new ok h = absurd cc

memory_is : (e : Error) → (e ≢ Memory → ⊥) → e ≡ Memory
memory_is Memory h = refl
memory_is _ h = absurd (h (λ k. absurd cc))

pub written_err : (r : Result (List ℕ) Error) (e : Error) → IsOk r → (e ≢ Memory → r ≡ Err e) → e ≡ Memory
written_err (Ok bytes) e ok h = memory_is e (λ other. let clash = h other in absurd cc)
written_err (Err d) e ok h = absurd cc
