use Rattle.std.proofs.Common.{◌<◌, length, subst, arith}
use Rattle.std.specs.Prelude.{IfSome}
use Rattle.gimli_core_readers.specs.View.{View}
use Rattle.gimli_core_abbrev.proofs.FoundDeclarations.{IsFound, found_alone}
use Rattle.gimli_core_abbrev.proofs.checks.find_alone.Goals as goal

pub returns-in-Ok-parse-clause-ok : goal.returns-in-Ok-parse-clause-ok
returns-in-Ok-parse-clause-ok g c =
    let other = c.if-code-eq0.false in
    let above : 0 < c.args.code = omega (arith, other) in
    subst (λ (v : View). IfSome c.in-Ok-parse.found (IsFound c.args.code v)) c.borrowed-place.ensures
    (found_alone c.args.code (length c.slice.result.now) c.borrowed-place.result c.skip_in_order.new.input
    c.borrowed-rest.result c.skip_in_order-2.new.input c.parse.new.input c.in-Ok.before c.in-Ok-skip_in_order.after
    c.parse.result c.in-Ok-parse.found above c.in-Counted.is c.in-Ok.ensures c.borrowed-rest.ensures
    c.in-Ended-after.is c.in-Ok-skip_in_order.ensures c.in-Ok-parse.is c.parse.ensures)
