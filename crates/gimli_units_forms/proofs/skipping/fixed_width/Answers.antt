use Rattle.gimli_units_forms.proofs.WayWidths.{spelled_width, look_width}
use Rattle.gimli_units_forms.proofs.skipping.fixed_width.Goals as goal

pub returns-in-Address : goal.returns-in-Address
returns-in-Address c = spelled_width _ _ _ c.in-Address.ensures

pub returns-in-Fixed : goal.returns-in-Fixed
returns-in-Fixed c = spelled_width _ _ _ c.in-Fixed.ensures

pub returns-in-Sixteen : goal.returns-in-Sixteen
returns-in-Sixteen c = spelled_width _ _ _ c.in-Sixteen.ensures

pub returns-in-Constant : goal.returns-in-Constant
returns-in-Constant c = spelled_width _ _ _ c.in-Constant.ensures

pub returns-in_default : goal.returns-in_default
returns-in_default c =
    look_width _ _ c.spelling_of.result c.spelling_of.ensures c.in_default.not-Address c.in_default.not-Fixed
    c.in_default.not-Sixteen c.in_default.not-Constant
