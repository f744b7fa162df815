use Rattle.std.proofs.Common.{rules, ◌≡◌, ◌∙◌, sym, ap, subst, Some, Option, true, false, ℕ}
use Rattle.std.specs.Prelude.{unwrap_or}
use Rattle.std.specs.Option.{option_or}
use Rattle.gimli_lines_machine.specs.View.{View}
use Rattle.gimli_lines_machine.specs.Readers.{Holds}
use Rattle.gimli_lines_rows.specs.ProgramRows.{stays}
use Rattle.gimli_lines_rows.proofs.RowPaths.{path_path}
use Rattle.gimli_lines_rows.proofs.SequenceLoops.{SearchesFrom, searched_none, searched_more, path_holds, piece_found, piece_none, piece_fault, row_smaller, path_to_row, path_to_end, up_to_is}
use Rattle.gimli_lines_rows.proofs.sequence.next_sequence.Goals as goal

pub loop-before-init : goal.loop-before-init
loop-before-init g c = (searched_none g.R.Offset.ReaderOffset.limit _ (stays _), search rules)

pub loop-before-preserved : goal.loop-before-preserved
loop-before-preserved g c =
    let limit = g.R.Offset.ReaderOffset.limit in
    let went = path_to_row limit c.loop-before.rows c.advance.new.self _ c.if-branch.true
    c.in_ok-advance.ensures.path in
    let is : c.advance.new.self.last.end_sequence ≡ false = search rules in
    let address : c.address-address.result ≡ c.advance.new.self.last.address = search rules in
    let more : c.or-start.result ≡ option_or c.loop-before.start (Some c.advance.new.self.last.address) =
    c.or-start.ensures ∙ ap (λ (a : ℕ). option_or c.loop-before.start (Some a)) address in (
      subst (λ (o : Option ℕ). SearchesFrom limit o c.args.rows.now c.advance.new.self) (sym more)
          (searched_more limit c.loop-before.start c.args.rows.now c.loop-before.rows c.advance.new.self
          c.loop-before.invariant.0 went.0 is),
      c.loop-before.invariant.1,
    )

pub loop-before-smaller : goal.loop-before-smaller
loop-before-smaller g c =
    let limit = g.R.Offset.ReaderOffset.limit in
    let went = path_to_row limit c.loop-before.rows c.advance.new.self _ c.if-branch.true
    c.in_ok-advance.ensures.path in
    row_smaller limit c.loop-before.rows c.advance.new.self went.0

pub up_to-requires : goal.up_to-requires
up_to-requires g c =
    let limit = g.R.Offset.ReaderOffset.limit in
    let went = path_to_row limit c.loop-before.rows c.advance.new.self _ c.if-branch.true
    c.in_ok-advance.ensures.path in
    let held = path_holds (path_path c.loop-before.invariant.0.path went.0) in
    let rest_is : c.instructions-then-end_sequence.result.now ≡ c.advance.new.self.rest =
    c.instructions-then-end_sequence.ensures in
    subst (λ (v : View). Holds v c.instructions-then-end_sequence.result.now) (sym c.loop-before.invariant.1)
    (subst (λ (w : View). Holds c.args.rows.now.rest w) (sym rest_is) held)

pub returns-then-end_sequence : goal.returns-then-end_sequence
returns-then-end_sequence g c =
    let limit = g.R.Offset.ReaderOffset.limit in
    let went = path_to_row limit c.loop-before.rows c.advance.new.self _ c.if-branch.true
    c.in_ok-advance.ensures.path in
    let is : c.advance.new.self.last.end_sequence ≡ true = search rules in
    let address : c.address-address.result ≡ c.advance.new.self.last.address = search rules in
    let first : c.unwrap_or.result ≡ unwrap_or c.loop-before.start 0 = search rules in
    piece_found limit c.loop-before.start c.args.rows.now c.loop-before.rows c.advance.new.self _
    c.loop-before.invariant.0 went.0 went.1 is first address
    (up_to_is c.loop-before.before c.instructions-then-end_sequence.result.now c.args.rows.now.rest
    c.advance.new.self.rest c.in_ok-up_to.field-0 c.loop-before.invariant.1 c.instructions-then-end_sequence.ensures
    c.in_ok-up_to.ensures)

pub returns-in_err-advance : goal.returns-in_err-advance
returns-in_err-advance g c =
    piece_fault g.R.Offset.ReaderOffset.limit c.from_residual-in_err-advance.result c.loop-before.start c.args.rows.now
    c.loop-before.rows c.advance.new.self _ c.from_residual-in_err-advance.ensures.1 c.loop-before.invariant.0
    c.in_err-advance.ensures.next

pub returns : goal.returns
returns g c =
    let limit = g.R.Offset.ReaderOffset.limit in
    let went = path_to_end limit c.loop-before.rows c.advance.new.self _ c.if-branch.false
    c.in_ok-advance.ensures.path in
    piece_none limit c.loop-before.start c.args.rows.now c.loop-before.rows c.advance.new.self c.loop-before.invariant.0
    went.0 went.1
