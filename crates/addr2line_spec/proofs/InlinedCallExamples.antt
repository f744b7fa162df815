-- Worked values: what the definitions say of small lists of functions, rows and calls, by computation.
use Rattle.std.proofs.Common.{◌≡◌, ℕ, ◌^◌, ◌+◌, pos, Bool, true, false, List, [], ◌∷◌, map, Some, None, refl}
use Rattle.gimli_lines_machine.specs.Range.{Range}
use Rattle.gimli_dwarf_spec.specs.AttributeValues.{RawValue, RawAttribute, data_1, unsigned_data, flag}
use Rattle.gimli_dwarf_spec.specs.EntryRows.{Row}
use Rattle.addr2line_spec.specs.Functions.{Function, function_number}
use Rattle.addr2line_spec.specs.InlinedCalls.{Call, enclosing_rows, is_call_in, calls_above, call_file, is_call_line, number_or_0, chain_at}

abbrev range : ℕ → ℕ → Range
range begin end = record { begin = begin; end = end }

-- ---- the function of an address

abbrev function : ℕ → List Range → Function
function offset ranges = record { offset = offset; ranges = ranges }

-- the first is the whole, the second a part of it, and the third a part of that which begins with it
abbrev nested_functions : List Function
nested_functions =
    function 0x10 (range 0x40 0x60 ∷ []) ∷ function 0x20 (range 0x48 0x58 ∷ []) ∷ function 0x30 (range 0x48 0x50 ∷ [])
    ∷ []

below_the_part : function_number nested_functions 0x44 ≡ Some 0
below_the_part = refl

of_two_that_begin_there_the_longer : function_number nested_functions 0x4c ≡ Some 1
of_two_that_begin_there_the_longer = refl

none_after_the_part : function_number nested_functions 0x5c ≡ None
none_after_the_part = refl

abbrev overlapping_functions : List Function
overlapping_functions =
    function 0x10 (range 0 0x10 ∷ []) ∷ function 0x20 (range 0 8 ∷ []) ∷ function 0x30 (range 0x50 0x60 ∷ []) ∷ []

far_from_those_that_overlap : function_number overlapping_functions 0x58 ≡ Some 2
far_from_those_that_overlap = refl

-- each range of a function counts
second_range : function_number
    (function 0x10 (range 0 8 ∷ range 0x20 0x28 ∷ []) ∷ function 0x20 (range 0x10 0x18 ∷ []) ∷ []) 0x24 ≡ Some 0
second_range = refl

of_two_with_one_range_the_last : function_number
    (function 0x10 (range 0 8 ∷ []) ∷ function 0x20 (range 0 8 ∷ []) ∷ []) 4 ≡ Some 1
of_two_with_one_range_the_last = refl

-- ---- what an entry is nested in

abbrev row : ℕ → ℕ → ℕ → Bool → Row
row offset depth tag has_children =
    record { offset = offset; depth = pos depth; tag = tag; has_children = has_children; attributes = [] }

-- below a function: a block and in it a call, which is closed, and a second call with a block in it; the nearest first
abbrev before : List Row
before = row 5 3 0x0b true ∷ row 4 2 0x1d true ∷ row 3 3 0 false ∷ row 2 2 0x1d true ∷ row 1 1 0x0b true ∷ []

three_levels : enclosing_rows (pos 4) before ≡ row 5 3 0x0b true ∷ row 4 2 0x1d true ∷ row 1 1 0x0b true ∷ []
three_levels = refl

calls_alone_count : calls_above (enclosing_rows (pos 4) before) ≡ 1
calls_alone_count = refl

beside_the_second_call : calls_above (enclosing_rows (pos 2) before) ≡ 0
beside_the_second_call = refl

a_call_of_the_function : is_call_in (enclosing_rows (pos 4) before) 0x1d ≡ true
a_call_of_the_function = refl

no_call_of_a_nested_function : is_call_in (enclosing_rows (pos 3) (row 2 2 0x1d true ∷ row 1 1 0x2e true ∷ [])) 0x1d
    ≡ false
no_call_of_a_nested_function = refl

-- ---- the place of a call

abbrev attribute : ℕ → RawValue → RawAttribute
attribute name value = record { name = name; form = 0; value = value }

no_file_0_before_version_5 : call_file 4 (attribute 0x58 (data_1 0) ∷ []) ≡ None
no_file_0_before_version_5 = refl

file_0_of_version_5 : call_file 5 (attribute 0x58 (data_1 0) ∷ []) ≡ Some 0
file_0_of_version_5 = refl

no_line : number_or_0 is_call_line (attribute 0x59 (flag true) ∷ attribute 0x57 (data_1 7) ∷ []) ≡ 0
no_line = refl

a_line_of_more_than_32_bits : number_or_0 is_call_line (attribute 0x59 (unsigned_data (2 ^ 32 + 5)) ∷ []) ≡ 5
a_line_of_more_than_32_bits = refl

-- ---- the calls of an address

abbrev call : ℕ → ℕ → List Range → Call
call depth offset ranges =
    record { depth = depth; offset = offset; ranges = ranges; name = None; file = None; line = 0; column = 0 }

abbrev offsets : List Call → List ℕ
offsets cs = map (λ c. c.offset) cs

-- a call and one in it, and beside them a third
abbrev calls : List Call
calls = call 0 0x10 (range 0 0x20 ∷ []) ∷ call 1 0x20 (range 8 0x10 ∷ []) ∷ call 0 0x30 (range 0x20 0x30 ∷ []) ∷ []

both : offsets (chain_at calls 0xc) ≡ 0x10 ∷ 0x20 ∷ []
both = refl

the_outer_alone : offsets (chain_at calls 0x14) ≡ 0x10 ∷ []
the_outer_alone = refl

the_third : offsets (chain_at calls 0x20) ≡ 0x30 ∷ []
the_third = refl

no_call : chain_at calls 0x30 ≡ []
no_call = refl

-- where a call passes the end of the one that it is nested in, it counts at its depth
abbrev passing_calls : List Call
passing_calls = call 0 0x10 (range 0 8 ∷ []) ∷ call 1 0x20 (range 4 0x10 ∷ []) ∷ call 0 0x30 (range 8 0x10 ∷ []) ∷ []

whatever_it_is_nested_in : offsets (chain_at passing_calls 0xc) ≡ 0x30 ∷ 0x20 ∷ []
whatever_it_is_nested_in = refl

-- and where none of its depth does, the deeper ones don't count
none_of_the_first_depth : chain_at (call 1 0x20 (range 0 8 ∷ []) ∷ []) 4 ≡ []
none_of_the_first_depth = refl
