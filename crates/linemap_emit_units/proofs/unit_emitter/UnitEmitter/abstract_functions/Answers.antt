use Rattle.linemap_emit_units.specs.UnitEmission.{with_abstract_functions}
use Rattle.linemap_emit_units.proofs.EmittedCallLemmas.{abstract_emitted}
use Rattle.linemap_emit_units.proofs.unit_emitter.UnitEmitter.abstract_functions.Goals as goal

pub loop-number-preserved : goal.loop-number-preserved
loop-number-preserved c =
    abstract_emitted c.args.names.now c.loop-number.number c.get.result.now c.in_ok-name.name c.loop-number.self
    c.text.new.self c.entry.new.self (with_abstract_functions c.args.names.now c.args.self.now) c.get.ensures
    c.in_ok-name.ensures.offset c.in_ok-name.ensures.ok c.in_ok-entry.ensures.ok c.loop-number.invariant
