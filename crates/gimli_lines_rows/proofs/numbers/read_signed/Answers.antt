use Rattle.std.proofs.Common.{rules}
use Rattle.std.proofs.lemmas.Int.{ints}
use Rattle.gimli_lines_rows.proofs.ShortNumbers.{short_signed_read}
use Rattle.gimli_lines_rows.proofs.numbers.read_signed.Goals as goal

pub returns : goal.returns
returns g c =
    short_signed_read c.args.input.now c.advance.new.self c.slice.result.now c.in_ok-number.number _ c.in_ok-number.len
    c.slice.ensures c.in_ok-number.ensures.value c.advance.ensures (search (rules, ints))
