-- The conditions of a table, each as the test that finds it broken, over units of any shape.
use Rattle.std.specs.Prelude.{◌≡◌, ℕ, ◌+◌, ◌-◌, ◌^◌, max, Bool, false, not, ◌&&◌, ◌||◌, ◌==◌, nat_lt, nat_le, List, [], ◌∷◌, ◌++◌, length, flat_map, find, Option, None, if◌then◌else◌}
use Rattle.std.specs.List.{list_any}
use Rattle.linemap_meaning.specs.TableParts.{RangePart, RowPart, SequencePart, Site, Calls, no_calls, more_calls, UnitPart}
use Rattle.addr2line_paths.specs.FilePaths.{is_rooted}
use Rattle.linemap_meaning.specs.declared.rule.Rule.{Rule}
use Rattle.linemap_meaning.specs.declared.rule.Rule.TheVariants.{EmptyRange, Bounds, NoRange, UnitsOverlap, FunctionOutside, FunctionsOverlap, CallOutside, CallsOverlap, SequenceOutside, SequencesOverlap, Rows, LineOrColumn, FileNumber, Text, NotRooted, Nesting, Discriminator}

-- ---- ranges

-- two ranges share an address
abbrev pub overlap : RangePart → RangePart → Bool
overlap r s = nat_lt r.begin s.end && nat_lt s.begin r.end

-- some two ranges of a list overlap
abbrev pub any_overlap : List RangePart → Bool
any_overlap [] = false
any_overlap (r ∷ rs) = list_any (overlap r) rs || any_overlap rs

-- the first range lies in the second
abbrev pub is_within : RangePart → RangePart → Bool
is_within r whole = nat_le whole.begin r.begin && nat_le r.end whole.end

-- the range lies in no single one of the parent's ranges
abbrev pub is_outside : List RangePart → RangePart → Bool
is_outside parent r = not (list_any (is_within r) parent)

-- some range lies in no single one of them
abbrev pub any_outside : List RangePart → List RangePart → Bool
any_outside parent rs = list_any (is_outside parent) rs

-- ---- calls

-- some call, of a list or inlined into one of it at any depth, passes the test
abbrev pub any_call : (Site → Bool) → Calls → Bool
any_call test no_calls = false
any_call test (more_calls site inner others) =
    test site || any_call test inner || any_call test others

-- the ranges of the calls of a list, without those inlined into them
abbrev pub sibling_ranges : Calls → List RangePart
sibling_ranges no_calls = []
sibling_ranges (more_calls site inner others) = site.ranges ++ sibling_ranges others

-- some call has a range outside its parent's ranges: `parent` at the top, its caller's below
abbrev pub any_call_outside : List RangePart → Calls → Bool
any_call_outside parent no_calls = false
any_call_outside parent (more_calls site inner others) =
    any_outside parent site.ranges || any_call_outside site.ranges inner
    || any_call_outside parent others

-- the calls inlined into some call of a list, at any depth, overlap
abbrev pub any_inner_overlap : Calls → Bool
any_inner_overlap no_calls = false
any_inner_overlap (more_calls site inner others) =
    any_overlap (sibling_ranges inner) || any_inner_overlap inner || any_inner_overlap others

-- calls of the same parent overlap, at the top or at any depth
abbrev pub any_calls_overlap : Calls → Bool
any_calls_overlap cs = any_overlap (sibling_ranges cs) || any_inner_overlap cs

-- how deep calls may be nested
abbrev pub greatest_depth : ℕ
greatest_depth = 50

-- how deep calls are nested
abbrev pub depth : Calls → ℕ
depth no_calls = 0
depth (more_calls site inner others) = max (depth inner + 1) (depth others)

-- ---- sequences

-- the addresses of a sequence, from its first row to its end, where it has rows and the first is
-- below the end
abbrev pub extent : List RowPart → ℕ → List RangePart
extent [] end = []
extent (r ∷ rs) end =
    if nat_lt r.address end then record { begin = r.address; end = end } ∷ [] else []

-- those of a sequence, and of a unit's sequences
abbrev pub span : SequencePart → List RangePart
span s = extent s.rows s.end

abbrev pub spans : UnitPart → List RangePart
spans u = flat_map span u.sequences

-- some row is at a lower address than the row before it
abbrev pub goes_back_from : ℕ → List RowPart → Bool
goes_back_from before [] = false
goes_back_from before (r ∷ rs) = nat_lt r.address before || goes_back_from r.address rs

abbrev pub goes_back : List RowPart → Bool
goes_back rs = goes_back_from 0 rs

-- ---- the tests of one unit

-- the ranges of the unit, of a function of it or of a call in one pass the test
abbrev pub any_ranges : (List RangePart → Bool) → UnitPart → Bool
any_ranges test u =
    test u.ranges || list_any (λ f. test f.ranges || any_call (λ s. test s.ranges) f.calls)
    u.functions

abbrev pub is_empty_range : RangePart → Bool
is_empty_range r = nat_le r.end r.begin

abbrev pub has_empty_range : UnitPart → Bool
has_empty_range u = any_ranges (list_any is_empty_range) u

-- the addresses that a table may name; the two above them mark code that was removed
abbrev pub least_table_address : ℕ
least_table_address = 1

abbrev pub greatest_table_address : ℕ
greatest_table_address = 2 ^ 64 - 3

abbrev pub is_out_of_bounds : ℕ → Bool
is_out_of_bounds address =
    nat_lt address least_table_address || nat_lt greatest_table_address address

abbrev pub range_out_of_bounds : RangePart → Bool
range_out_of_bounds r = is_out_of_bounds r.begin || is_out_of_bounds r.end

abbrev pub sequence_out_of_bounds : SequencePart → Bool
sequence_out_of_bounds s =
    list_any (λ r. is_out_of_bounds r.address) s.rows || is_out_of_bounds s.end

abbrev pub has_out_of_bounds : UnitPart → Bool
has_out_of_bounds u =
    any_ranges (list_any range_out_of_bounds) u || list_any sequence_out_of_bounds u.sequences

abbrev pub has_no_range : UnitPart → Bool
has_no_range u = any_ranges (λ rs. length rs == 0) u

abbrev pub has_function_outside : UnitPart → Bool
has_function_outside u = list_any (λ f. any_outside u.ranges f.ranges) u.functions

abbrev pub has_functions_overlap : UnitPart → Bool
has_functions_overlap u = any_overlap (flat_map (λ f. f.ranges) u.functions)

abbrev pub has_call_outside : UnitPart → Bool
has_call_outside u = list_any (λ f. any_call_outside f.ranges f.calls) u.functions

abbrev pub has_calls_overlap : UnitPart → Bool
has_calls_overlap u = list_any (λ f. any_calls_overlap f.calls) u.functions

abbrev pub has_sequence_outside : UnitPart → Bool
has_sequence_outside u = any_outside u.ranges (spans u)

abbrev pub has_sequences_overlap : UnitPart → Bool
has_sequences_overlap u = any_overlap (spans u)

-- a sequence without rows, with rows that go back, or with one that is not below its end
abbrev pub has_bad_rows : SequencePart → Bool
has_bad_rows s =
    (length s.rows == 0) || goes_back s.rows || list_any (λ r. nat_le s.end r.address) s.rows

abbrev pub has_sequence_with_bad_rows : UnitPart → Bool
has_sequence_with_bad_rows u = list_any has_bad_rows u.sequences

-- a line or a column is a number of 32 bits, and 0 is none
abbrev pub greatest_number : ℕ
greatest_number = 2 ^ 32 - 1

abbrev pub is_bad_number : ℕ → Bool
is_bad_number n = nat_lt n 1 || nat_lt greatest_number n

-- some row or call has a line or column that is not within 1 to 2^32 - 1
abbrev pub has_bad_line_or_column : UnitPart → Bool
has_bad_line_or_column u =
    list_any (λ s. list_any (λ r. is_bad_number r.line || is_bad_number r.column) s.rows)
    u.sequences
    || list_any (λ f. any_call (λ c. is_bad_number c.line || is_bad_number c.column) f.calls)
    u.functions

-- some row or call names a file past the unit's files
abbrev pub has_bad_file_number : UnitPart → Bool
has_bad_file_number u =
    list_any (λ s. list_any (λ r. nat_le (length u.files) r.file) s.rows) u.sequences
    || list_any (λ f. any_call (λ c. nat_le (length u.files) c.file) f.calls) u.functions

-- an empty text, or one with a zero byte
abbrev pub is_bad_text : List ℕ → Bool
is_bad_text text = (length text == 0) || list_any (λ b. b == 0) text

-- some text of the unit is bad: its directory, its name, those of its files, or the name of a
-- function or a call
abbrev pub has_bad_text : UnitPart → Bool
has_bad_text u =
    is_bad_text u.directory || is_bad_text u.name
    || list_any (λ f. is_bad_text f.directory || is_bad_text f.name) u.files
    || list_any (λ f. is_bad_text f.name || any_call (λ c. is_bad_text c.name) f.calls) u.functions

abbrev pub is_not_rooted : UnitPart → Bool
is_not_rooted u = not (is_rooted u.directory)

abbrev pub has_deep_calls : UnitPart → Bool
has_deep_calls u = list_any (λ f. nat_lt greatest_depth (depth f.calls)) u.functions

-- a discriminator is a number of 32 bits, and 0 is one
abbrev pub is_bad_discriminator : ℕ → Bool
is_bad_discriminator n = nat_lt greatest_number n

-- some row has a discriminator above 2^32 - 1
abbrev pub has_bad_discriminator : UnitPart → Bool
has_bad_discriminator u =
    list_any (λ s. list_any (λ r. is_bad_discriminator r.discriminator) s.rows) u.sequences

-- ---- the rules

-- the units break the rule
abbrev pub breaks : List UnitPart → Rule → Bool
breaks us EmptyRange = list_any has_empty_range us
breaks us Bounds = list_any has_out_of_bounds us
breaks us NoRange = list_any has_no_range us
breaks us UnitsOverlap = any_overlap (flat_map (λ u. u.ranges) us)
breaks us FunctionOutside = list_any has_function_outside us
breaks us FunctionsOverlap = list_any has_functions_overlap us
breaks us CallOutside = list_any has_call_outside us
breaks us CallsOverlap = list_any has_calls_overlap us
breaks us SequenceOutside = list_any has_sequence_outside us
breaks us SequencesOverlap = list_any has_sequences_overlap us
breaks us Rows = list_any has_sequence_with_bad_rows us
breaks us LineOrColumn = list_any has_bad_line_or_column us
breaks us FileNumber = list_any has_bad_file_number us
breaks us Text = list_any has_bad_text us
breaks us NotRooted = list_any is_not_rooted us
breaks us Nesting = list_any has_deep_calls us
breaks us Discriminator = list_any has_bad_discriminator us

-- The rules in the order in which they are tried: how deep calls are nested, and then by their
-- numbers.
abbrev pub rules_in_order : List Rule
rules_in_order =
    Nesting ∷ EmptyRange ∷ Bounds ∷ NoRange ∷ UnitsOverlap ∷ FunctionOutside ∷ FunctionsOverlap
    ∷ CallOutside ∷ CallsOverlap ∷ SequenceOutside ∷ SequencesOverlap ∷ Rows ∷ LineOrColumn
    ∷ FileNumber ∷ Text ∷ NotRooted ∷ Discriminator ∷ []

-- the first of them that the units break
abbrev pub first_broken : List UnitPart → Option Rule
first_broken us = find (breaks us) rules_in_order

-- the units break no rule
abbrev pub IsSound : List UnitPart → Type 0
IsSound us = first_broken us ≡ None
