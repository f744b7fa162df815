use Rattle.gimli_lines_rows.proofs.ShortNumbers.{short_unsigned_read}
use Rattle.gimli_lines_rows.proofs.numbers.read_unsigned.Goals as goal

pub returns : goal.returns
returns g c =
    short_unsigned_read c.args.input.now c.advance.new.self c.slice.result.now c.in_ok-number.number c.in_ok-number.len
    c.slice.ensures c.in_ok-number.ensures.value c.advance.ensures
