use Rattle.std.proofs.Common.{◌≡◌, ℕ, ◌==◌, List, false, get_or, sym, ap, ◌∙◌}
use Rattle.fast_float.specs.Text.{scan}
use Rattle.serde_json.specs.Read.{number_of, number_from}
use Rattle.linemap_table.proofs.values.number_of.Goals as goal

without_minus : (s : List ℕ) → (get_or s 0 0 == 45) ≡ false → number_of s ≡ number_from false (scan s)
unfolding number_of
without_minus s positive = rw positive

pub returns : goal.returns
returns c =
    let s = c.as_bytes-bytes.result.now in
    let same : number_of c.args.text.now ≡ number_from false c.scan.result =
    ap number_of (sym c.as_bytes-bytes.ensures.value) ∙ without_minus s (sym c.if-has_minus.ensures)
    ∙ ap (number_from false) (sym c.scan.ensures.parts) in
    rw same c.unsigned.ensures
