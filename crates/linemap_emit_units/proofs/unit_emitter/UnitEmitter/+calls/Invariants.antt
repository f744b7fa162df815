-- The calls that are left can be emitted, and then all are.
use Rattle.std.proofs.Common.{◌≡◌, drop, length}
use Rattle.linemap_emit_programs.specs.EmittedFiles.{file_number}
use Rattle.linemap_emit_programs.specs.TableViews.{calls_part}
use Rattle.linemap_emit_units.specs.InlinedNames.{NamesAre, IsAmong}
use Rattle.linemap_emit_units.specs.UnitEmission.{CanEmitCalls, with_calls}
use Rattle.linemap_emit_units.proofs.unit_emitter.UnitEmitter.+calls.Given as goal

abbrev pub invariant-loop-call : goal.invariant-loop-call
invariant-loop-call l =
    (l.names ≡ l.fn.names) × (l.self.encoding ≡ l.fn.self.encoding)
    × CanEmitCalls l.fn.self.encoding.address_size (length l.files) (calls_part (drop l.call-index l.calls))
    × NamesAre (IsAmong l.fn.names) (calls_part (drop l.call-index l.calls))
    × (with_calls (file_number l.version l.files) l.fn.names (calls_part (drop l.call-index l.calls)) l.self
    ≡ with_calls (file_number l.version l.files) l.fn.names (calls_part l.calls) l.fn.self)
