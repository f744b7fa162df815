-- The functions that are left can be emitted, and then all are.
use Rattle.std.proofs.Common.{◌≡◌, drop, length, map}
use Rattle.linemap_emit_programs.specs.EmittedFiles.{file_number}
use Rattle.linemap_emit_programs.specs.TableViews.{function_part}
use Rattle.linemap_emit_units.specs.InlinedNames.{FunctionNamesAre, IsAmong}
use Rattle.linemap_emit_units.specs.UnitEmission.{CanEmitFunctions, with_functions}
use Rattle.linemap_emit_units.proofs.unit_emitter.UnitEmitter.functions.Given as goal

abbrev pub invariant-loop-function : goal.invariant-loop-function
invariant-loop-function l =
    (l.names ≡ l.fn.names) × (l.self.encoding ≡ l.fn.self.encoding)
    × CanEmitFunctions l.fn.self.encoding.address_size (length l.files)
    (map function_part (drop l.function-index l.functions))
    × FunctionNamesAre (IsAmong l.fn.names) (map function_part (drop l.function-index l.functions))
    × (with_functions (file_number l.version l.files) l.fn.names
    (map function_part (drop l.function-index l.functions)) l.self
    ≡ with_functions (file_number l.version l.files) l.fn.names (map function_part l.functions) l.fn.self)
