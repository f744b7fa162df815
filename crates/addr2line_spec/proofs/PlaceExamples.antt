-- Worked values: what the definitions say of small lists of rows and units, by computation.
use Rattle.std.proofs.Common.{◌≡◌, ℕ, ◌^◌, ◌-◌, false, true, List, [], ◌∷◌, map, Option, Some, None, Result, Ok, Err, refl, codes}
use Rattle.gimli_lines_machine.specs.Error.{Error}
use Rattle.gimli_lines_machine.specs.Error.TheVariants.{AddressOverflow}
use Rattle.gimli_lines_machine.specs.Repetition.{Listing}
use Rattle.gimli_lines_machine.specs.Range.{Range}
use Rattle.addr2line_spec.specs.Choice.{holder}
use Rattle.addr2line_spec.specs.Lines.{ProgramRow, Lines, Location, Stretch, sequences_of_rows}
use Rattle.addr2line_spec.specs.Pairs.{covering_pairs}
use Rattle.addr2line_spec.specs.PlaceLookups.{location_at, stretches_between}

-- ---- units as small as they can be

abbrev range : ℕ → ℕ → Range
range begin end = record { begin = begin; end = end }

record Unit_of : Type 0 where
  pub ranges : List Range
  pub lines : Result Lines Error

abbrev location : List Unit_of → ℕ → Result (Option Location) Error
location us a = location_at (λ u. u.ranges) (λ u. u.lines) us a

abbrev between : List Unit_of → ℕ → ℕ → Listing (Unit {0}) Stretch
between us low high = stretches_between (λ u. u.ranges) (λ u. u.lines) us low high

abbrev row : ℕ → ℕ → ProgramRow
row address line =
    record {
      address = address;
      file = 1;
      line = line;
      column = 1;
      statement = true;
      discriminator = 0;
      ends = false;
    }

abbrev end_row : ℕ → ProgramRow
end_row address =
    record {
      address = address;
      file = 1;
      line = 1;
      column = 0;
      statement = true;
      discriminator = 0;
      ends = true;
    }

-- a unit of one range, whose program shows these rows
abbrev unit : Range → List ProgramRow → Unit_of
unit r rows =
    record {
      ranges = r ∷ [];
      lines = Ok (record { sequences = sequences_of_rows rows; files = [] ∷ codes "/w/a.c" ∷ [] });
    }

abbrev place : ℕ → Location
place line =
    record {
      file = Some (codes "/w/a.c");
      line = Some line;
      column = Some 1;
      statement = Some true;
      discriminator = Some 0;
    }

abbrev stretch : ℕ → ℕ → ℕ → Stretch
stretch address length line = record { address = address; length = length; location = place line }

-- ---- two rows at one address

abbrev lines_with_doubled_row : List Unit_of
lines_with_doubled_row = unit (range 0x10 0x30) (row 0x10 1 ∷ row 0x10 2 ∷ row 0x20 3 ∷ end_row 0x30 ∷ []) ∷ []

last_of_one_address : location lines_with_doubled_row 0x10 ≡ Ok (Some (place 2))
last_of_one_address = refl

last_of_three : location (unit (range 0x10 0x30) (row 0x10 1 ∷ row 0x10 2 ∷ row 0x10 3 ∷ end_row 0x30 ∷ []) ∷ []) 0x10
    ≡ Ok (Some (place 3))
last_of_three = refl

-- a row where no statement begins, of the third block of its line
abbrev row_of_third_block : ℕ → ℕ → ProgramRow
row_of_third_block address line =
    record (row address line) { statement = false; discriminator = 3 }

abbrev place_in_third_block : Option ℕ → Option ℕ → Location
place_in_third_block line column =
    record {
      file = Some (codes "/w/a.c");
      line = line;
      column = column;
      statement = Some false;
      discriminator = Some 3;
    }

-- of two rows at one address the last one's flag and discriminator count too
flag_of_the_last : location
    (unit (range 0x10 0x30) (row 0x10 1 ∷ row_of_third_block 0x10 1 ∷ end_row 0x30 ∷ []) ∷ []) 0x10
    ≡ Ok (Some (place_in_third_block (Some 1) (Some 1)))
flag_of_the_last = refl

flag_of_the_first_is_dropped : location
    (unit (range 0x10 0x30) (row_of_third_block 0x10 1 ∷ row 0x10 1 ∷ end_row 0x30 ∷ []) ∷ []) 0x10
    ≡ Ok (Some (place 1))
flag_of_the_first_is_dropped = refl

-- they are known also where the line isn't
flag_without_line : location
    (unit (range 0x10 0x30) (row_of_third_block 0x10 0 ∷ end_row 0x30 ∷ []) ∷ []) 0x10
    ≡ Ok (Some (place_in_third_block None None))
flag_without_line = refl

last_row : location lines_with_doubled_row 0x2f ≡ Ok (Some (place 3))
last_row = refl

at_the_end : location lines_with_doubled_row 0x30 ≡ Ok None
at_the_end = refl

at_the_last_address : location lines_with_doubled_row (2 ^ 64 - 1) ≡ Ok None
at_the_last_address = refl

-- where the sequence ends before the unit's range does
abbrev ended_within : List Unit_of
ended_within = unit (range 0x10 0x40) (row 0x10 1 ∷ end_row 0x30 ∷ []) ∷ []

below_the_end_of_a_sequence : location ended_within 0x2f ≡ Ok (Some (place 1))
below_the_end_of_a_sequence = refl

at_the_end_of_a_sequence : location ended_within 0x30 ≡ Ok None
at_the_end_of_a_sequence = refl

both_stretches : between lines_with_doubled_row 0x18 0x21
    ≡ record { items = stretch 0x10 0x10 2 ∷ stretch 0x20 0x10 3 ∷ []; ending = Ok tt }
both_stretches = refl

ends_the_other_way_round : between lines_with_doubled_row 0x1e 0x18
    ≡ record { items = stretch 0x10 0x10 2 ∷ []; ending = Ok tt }
ends_the_other_way_round = refl

no_stretch : between lines_with_doubled_row 0 0 ≡ record { items = []; ending = Ok tt }
no_stretch = refl

-- a range that begins below the first row
abbrev doubled_above : List Unit_of
doubled_above = unit (range 0x8 0x30) (row 0x10 1 ∷ row 0x10 2 ∷ end_row 0x30 ∷ []) ∷ []

one_stretch_of_one_address : between doubled_above 0x8 0x30
    ≡ record { items = stretch 0x10 0x20 2 ∷ []; ending = Ok tt }
one_stretch_of_one_address = refl

-- ---- rows that go back

abbrev backwards : List Unit_of
backwards = unit (range 0x10 0x200) (row 0x10 1 ∷ row 0x100 2 ∷ row 0x20 3 ∷ end_row 0x30 ∷ []) ∷ []

no_length_going_back : between backwards 0x10 0x200
    ≡ record { items = stretch 0x10 0xf0 1 ∷ stretch 0x100 0 2 ∷ stretch 0x20 0x10 3 ∷ []; ending = Ok tt }
no_length_going_back = refl

before_the_first_above : location backwards 0x28 ≡ Ok (Some (place 1))
before_the_first_above = refl

-- below the row that is above all others, and at it and after it up to the end
abbrev backwards_within : List Unit_of
backwards_within = unit (range 0x10 0x200) (row 0x10 1 ∷ row 0x100 2 ∷ row 0x20 3 ∷ end_row 0x200 ∷ []) ∷ []

before_the_row_above : location backwards_within 0xff ≡ Ok (Some (place 1))
before_the_row_above = refl

after_all_rows_the_last : location backwards_within 0x100 ≡ Ok (Some (place 3))
after_all_rows_the_last = refl

-- ---- sequences

rows_without_an_end : sequences_of_rows (row 0x10 1 ∷ []) ≡ []
rows_without_an_end = refl

nothing_but_an_end : sequences_of_rows (end_row 0x10 ∷ end_row 0x20 ∷ []) ≡ []
nothing_but_an_end = refl

end_at_its_start : sequences_of_rows (row 0x10 1 ∷ end_row 0x10 ∷ []) ≡ []
end_at_its_start = refl

-- ---- several units

abbrev wide_and_narrow : List Unit_of
wide_and_narrow = unit (range 0 100) (row 0 1 ∷ end_row 100 ∷ []) ∷ unit (range 10 20) (row 10 2 ∷ end_row 20 ∷ []) ∷ []

the_narrow_one_first : map (λ p. p.number) (covering_pairs (λ (u : Unit_of). u.ranges) wide_and_narrow 15)
    ≡ (1 ∷ 0 ∷ [])
the_narrow_one_first = refl

the_first_that_answers : location wide_and_narrow 15 ≡ Ok (Some (place 2))
the_first_that_answers = refl

abbrev only_the_wide_one : List Unit_of
only_the_wide_one = unit (range 0 100) (row 0 1 ∷ end_row 100 ∷ []) ∷ unit (range 10 20) [] ∷ []

the_next_where_the_first_has_none : location only_the_wide_one 15 ≡ Ok (Some (place 1))
the_next_where_the_first_has_none = refl

-- a refusal of lines answers, whatever comes after it
abbrev refused_and_wide : List Unit_of
refused_and_wide =
    unit (range 0 100) (row 0 1 ∷ end_row 100 ∷ []) ∷ record { ranges = range 10 20 ∷ []; lines = Err AddressOverflow }
    ∷ []

the_refusal : location refused_and_wide 15 ≡ Err AddressOverflow
the_refusal = refl

nothing_without_units : location [] 15 ≡ Ok None
nothing_without_units = refl

-- ---- the choice

abbrev ranges : List Range
ranges = range 0 50 ∷ range 10 20 ∷ range 10 15 ∷ []

begins_last : holder (λ r. r) 12 ranges ≡ Some (range 10 20)
begins_last = refl

ends_here : holder (λ r. r) 20 ranges ≡ None
ends_here = refl

ended_already : holder (λ r. r) 30 ranges ≡ None
ended_already = refl
