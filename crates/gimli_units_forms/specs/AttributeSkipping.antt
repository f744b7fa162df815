-- Skipping attributes by width alone. A run is what lies between two places where bytes must be
-- looked at: a length, a LEB128 number, the number of a form, or a text. Numbers aren't judged,
-- except lengths and numbers of forms.
use Rattle.std.specs.Prelude.{ℕ, ◌+◌, ◌^◌, ◌==◌, nat_lt, nat_le, List, [], ◌∷◌, length, map, Ok, Err, if◌then◌else◌}
use Rattle.gimli_core_abbrev.specs.TheConstants.{DW_FORM_indirect}
use Rattle.gimli_core_abbrev.specs.Error.{Error}
use Rattle.gimli_core_abbrev.specs.Error.TheVariants.{UnknownForm, OffsetSumOverflow}
use Rattle.gimli_core_abbrev.specs.View.{View, after, unexpected_end}
use Rattle.gimli_core_abbrev.specs.Parsers.{Parser, ◌>>=◌, ◌>>◌, give, fail, null_terminated}
use Rattle.gimli_core_abbrev.specs.Encoding.{Encoding}
use Rattle.gimli_core_abbrev.specs.Declarations.{Attribute}
use Rattle.gimli_core_abbrev.specs.NumberParsers.{fixed, unsigned, skip_leb}
use Rattle.gimli_units_forms.specs.declared.spelling.Spelling.{Spelling}
use Rattle.gimli_units_forms.specs.declared.spelling.Spelling.TheVariants.{Address, Fixed, Sixteen, Block, LongBlock, Unsigned, Signed, Text, Indirect, Constant, Unknown}
use Rattle.gimli_units_forms.specs.FormSpellings.{spelling}
use Rattle.gimli_units_forms.specs.AttributeReading.{final_form}

-- The way past a value: a number of bytes that no one looks at, or a look at bytes, which says how
-- many more to skip.
pub data Way : Type 0 where
  by_width : ℕ → Way
  by_look : Parser ℕ → Way

-- the width of a way without a look, or what its look says
abbrev pub look_of : Way → Parser ℕ
look_of (by_width n) = give n
look_of (by_look look) = look

-- skips a text and its zero byte
abbrev pub skip_text : Parser (Unit {0})
skip_text = null_terminated >> give tt

-- the way past what a form spells that isn't indirect
abbrev pub plain_way : Encoding → ℕ → Spelling → Way
plain_way e form Address = by_width e.address_size
plain_way e form (Fixed width) = by_width width
plain_way e form Sixteen = by_width 16
plain_way e form (Block width) = by_look (fixed width)
plain_way e form LongBlock = by_look unsigned
plain_way e form Unsigned = by_look (skip_leb >> give 0)
plain_way e form Signed = by_look (skip_leb >> give 0)
plain_way e form Text = by_look (skip_text >> give 0)
plain_way e form Constant = by_width 0
plain_way e form Indirect = by_look (fail (UnknownForm (record { 0 = form })))
plain_way e form Unknown = by_look (fail (UnknownForm (record { 0 = form })))

-- A look at a value: after indirect at the form's number, and then at whatever that form needs.
unfoldable pub look_at_value : Encoding → ℕ → Parser ℕ
look_at_value e form = final_form form >>= λ final. look_of (plain_way e final (spelling e final))

-- the way past the value of a form
unfoldable pub way_of : Encoding → ℕ → Way
way_of e form =
    if form == DW_FORM_indirect.0 then by_look (look_at_value e form)
    else plain_way e form (spelling e form)

-- a run past the end, or wider than 64 bits
abbrev pub run_fault : ℕ → View → Error
run_fault n v = if nat_lt n (2 ^ 64) then unexpected_end v else OffsetSumOverflow

-- skips a run of n bytes
unfoldable pub run : ℕ → Parser (Unit {0})
run n v = if nat_le n (length v.bytes) then Ok (tt, after n v) else Err (run_fault n v)

-- skips along ways, where the first run has n bytes more
unfoldable pub skip_ways : ℕ → List Way → Parser (Unit {0})
skip_ways n [] = run n
skip_ways n (by_width width ∷ ways) = skip_ways (n + width) ways
skip_ways n (by_look look ∷ ways) = do
  _ ← run n
  more ← look
  skip_ways more ways

-- skips the values that declarations describe
unfoldable pub skip_values : Encoding → List Attribute → Parser (Unit {0})
skip_values e specifications = skip_ways 0 (map (λ s. way_of e s.form) specifications)
