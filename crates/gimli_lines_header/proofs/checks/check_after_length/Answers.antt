use Rattle.std.proofs.Common.{◌∙◌, ap, sym, ℕ}
use Rattle.gimli_units_headers.specs.Parsers.{part}
use Rattle.gimli_lines_header.specs.HeaderParsing.{header_in}
use Rattle.gimli_lines_header.proofs.CheckSteps.{returns_fault}
use Rattle.gimli_lines_header.proofs.HeaderChecks.{after_length_checked, refusal_next, refusal_here}
use Rattle.gimli_lines_header.proofs.checks.check_after_length.Goals as goal

pub returns : goal.returns
returns g c = λ offset unit_length directory name.
    after_length_checked g.O.ReaderOffset.limit offset unit_length c.args.address_size directory name c.args.format
    c.args.program _ _ _ _ _ c.into_u64.result _ c.into_u64.ensures.value c.in_ok-encoding.ensures.value
    c.in_ok-header_length.ensures c.in_ok-header.ensures _ _ c.check_fields.ensures

pub returns-in_err-encoding : goal.returns-in_err-encoding
unfolding header_in
returns-in_err-encoding g c = λ offset unit_length directory name.
    returns_fault _ c.from_residual.result _ _ c.from_residual.ensures.1
    (refusal_here _ _ _ c.in_err-encoding.ensures.value)

pub returns-in_err-header_length : goal.returns-in_err-header_length
unfolding header_in
returns-in_err-header_length g c = λ offset unit_length directory name.
    returns_fault _ c.from_residual-in_err-header_length.result _ _ c.from_residual-in_err-header_length.ensures.1
    (refusal_next _ _ _ _ c.in_ok-encoding.ensures.value ∙ refusal_here _ _ _ c.in_err-header_length.ensures)

pub returns-in_err-header : goal.returns-in_err-header
unfolding header_in
returns-in_err-header g c = λ offset unit_length directory name.
    returns_fault _ c.from_residual-in_err-header.result _ _ c.from_residual-in_err-header.ensures.1
    (refusal_next _ _ _ _ c.in_ok-encoding.ensures.value ∙ refusal_next _ _ _ _ c.in_ok-header_length.ensures
    ∙ refusal_here _ _ _
    (ap (λ (k : ℕ). part k c.read_word.new.input) (sym c.into_u64.ensures.value) ∙ c.in_err-header.ensures))
