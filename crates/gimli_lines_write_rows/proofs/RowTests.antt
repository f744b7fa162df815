-- What follows from the test of a row.
use Rattle.std.proofs.Common.{◌≡◌, ◌<◌, ◌^◌, nat_lt, true}
use Rattle.std.proofs.lemmas.Bool.{ltb-true}
use Rattle.gimli_lines_machine.specs.declared.rules.LineRules.{LineRules}
use Rattle.gimli_lines_write_rows.specs.declared.row.LineRow.{LineRow}
use Rattle.gimli_lines_write_rows.specs.BuiltRows.{can_place, can_show, can_follow, are_words}
use Rattle.gimli_lines_write_rows.proofs.Moves.{and-first, and-second}

module _ (rules : LineRules) (previous row : LineRow) (can : can_follow rules previous row ≡ true) where
  pub row_fits_place : can_place rules previous row.address_offset row.op_index ≡ true
  row_fits_place = and-first (can_place rules previous row.address_offset row.op_index) (can_show row) can

  pub row_shown : can_show row ≡ true
  row_shown = and-second (can_place rules previous row.address_offset row.op_index) (can_show row) can

  pub row_high : row.line < 2 ^ 63
  row_high = ltb-true row.line (2 ^ 63) (and-first (nat_lt row.line (2 ^ 63)) (are_words row) row_shown)

  pub row_words : are_words row ≡ true
  row_words = and-second (nat_lt row.line (2 ^ 63)) (are_words row) row_shown
