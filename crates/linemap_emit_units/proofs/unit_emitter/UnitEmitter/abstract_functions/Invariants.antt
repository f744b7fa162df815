-- The names that are left, and then all, are emitted.
use Rattle.std.proofs.Common.{◌≡◌, drop}
use Rattle.linemap_emit_units.specs.UnitEmission.{with_abstract_functions}
use Rattle.linemap_emit_units.proofs.unit_emitter.UnitEmitter.abstract_functions.Given as goal

abbrev pub invariant-loop-number : goal.invariant-loop-number
invariant-loop-number l =
    with_abstract_functions (drop l.number l.names) l.self ≡ with_abstract_functions l.names l.fn.self
