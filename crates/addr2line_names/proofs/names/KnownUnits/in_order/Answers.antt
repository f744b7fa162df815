use Rattle.std.proofs.Common.{◌∙◌, sym, subst}
use Rattle.std.proofs.lemmas.List.{map-id}
use Rattle.addr2line_names.specs.OrderedUnits.{AreInOrder}
use Rattle.addr2line_names.proofs.names.KnownUnits.in_order.Goals as goal

pub in_order-requires-2 : goal.in_order-requires-2
in_order-requires-2 g c = subst AreInOrder (sym (map-id c.args.supplement_units.now)) c.requires.supplement

pub returns-clause-supplement : goal.returns-clause-supplement
returns-clause-supplement g c = c.in_order-2.ensures ∙ map-id c.args.supplement_units.now
