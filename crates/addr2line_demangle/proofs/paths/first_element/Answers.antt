use Rattle.std.proofs.Common.{◌≡◌, ℕ, ◌<◌, ◌^◌, List, take, ap, subst, ◌∙◌, arith, length-drop}
use Rattle.std.proofs.lemmas.Str.{IsCharBoundary-from_ascii}
use Rattle.std.proofs.lemmas.List.Sums.{prefix_len-le-length}
use Rattle.std.specs.Char.{is_ascii_digit}
use Rattle.std.specs.List.{prefix_len}
use Rattle.std.specs.Str.Parse.{IsNumeral, without_leading_plus, digits_value}
use Rattle.addr2line_demangle.specs.LegacyNames.{length_digits}
use Rattle.addr2line_demangle.proofs.DigitTexts.{element_none}
use Rattle.addr2line_demangle.proofs.paths.first_element.Goals as goal

pub split_at-requires : goal.split_at-requires
split_at-requires c =
    let le = prefix_len-le-length is_ascii_digit c.args.text.now in
    let e = c.leading_digits.ensures.count in
    IsCharBoundary-from_ascii c.args.text.now c.leading_digits.result c.requires
    (omega (arith, le, e))

pub returns-in-Err : goal.returns-in-Err
returns-in-Err c =
    let digits : c.split_at.result.0.now ≡ length_digits c.args.text.now =
    c.split_at.ensures.front
    ∙ ap (λ (n : ℕ). take n c.args.text.now) c.leading_digits.ensures.count in
    let F : List ℕ → Type 0 =
    λ ds. ¬ (IsNumeral 10 (without_leading_plus ds)
    × (digits_value 10 (without_leading_plus ds) < 2 ^ 64)) in
    let l = length-drop (prefix_len is_ascii_digit c.args.text.now) c.args.text.now in
    element_none c.args.text.now (subst F digits c.in-Err.ensures.value.0)
    (omega (arith, c.leading_digits.ensures.fits, l))
