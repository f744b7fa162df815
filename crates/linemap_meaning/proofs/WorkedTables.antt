-- Worked values: what the definitions say of small tables, by computation.
use Rattle.std.proofs.Common.{◌≡◌, ℕ, ◌-◌, ◌^◌, List, [], ◌∷◌, ◌++◌, Option, Some, None, refl, codes, true, false}
use Rattle.std.specs.Fmt.{digits}
use Rattle.linemap_meaning.specs.TableParts.{RangePart, RowPart, Calls, no_calls, more_calls, FunctionPart, UnitPart}
use Rattle.linemap_meaning.specs.Conditions.{first_broken}
use Rattle.linemap_meaning.specs.TableWeight.{table_weight}
use Rattle.linemap_meaning.specs.EncodingFits.{fits, is_target}
use Rattle.linemap_meaning.specs.Meaning.{Location, Frame, Stretch, location_at, frames_at, stretches_between}
use Rattle.linemap_meaning.specs.AnswerTexts.{word_address, place_text, ask_text}
use Rattle.linemap_meaning.specs.declared.rule.Rule.TheVariants.{CallOutside, Rows, Discriminator}

-- ---- the tables

abbrev range : ℕ → ℕ → List RangePart
range begin end = record { begin = begin; end = end } ∷ []

abbrev row : ℕ → ℕ → ℕ → RowPart
row address line column = record {
  address = address;
  file = 0;
  line = line;
  column = column;
  statement = true;
  discriminator = 0;
}

-- a unit in /w of one range, one file and one sequence
abbrev unit_of : List RangePart → List ℕ → List ℕ → List FunctionPart → List RowPart → ℕ → UnitPart
unit_of ranges directory name functions rows end = record {
  directory = codes "/w";
  name = codes "a.c";
  ranges = ranges;
  files = record { directory = directory; name = name } ∷ [];
  functions = functions;
  sequences = record { rows = rows; end = end } ∷ [];
}

abbrev three_rows : List RowPart
three_rows = row 0x1000 5 1 ∷ row 0x1010 20 2 ∷ row 0x1020 7 1 ∷ []

abbrev main_with : Calls → List FunctionPart
main_with calls = record { name = codes "main"; ranges = range 0x1000 0x1030; calls = calls } ∷ []

-- a call of f in main, at line 6, column 3
abbrev call_over : ℕ → ℕ → Calls
call_over begin end =
    more_calls (record { name = codes "f"; ranges = range begin end; file = 0; line = 6; column = 3 }) no_calls no_calls

-- the unit with main, with these calls, rows and end
abbrev main_unit : Calls → List RowPart → ℕ → UnitPart
main_unit calls rows end = unit_of (range 0x1000 0x1040) (codes "src") (codes "a.c") (main_with calls) rows end

abbrev plain : List UnitPart
plain = main_unit no_calls three_rows 0x1030 ∷ []

abbrev with_call : List UnitPart
with_call = main_unit (call_over 0x1010 0x1020) three_rows 0x1030 ∷ []

-- two rows of one address, and no function
abbrev doubled_units : List UnitPart
doubled_units =
    unit_of (range 0x10 0x30) (codes "src") (codes "a.c") [] (row 0x10 1 1 ∷ row 0x10 2 1 ∷ row 0x20 3 1 ∷ []) 0x30 ∷ []

-- the plain table, whose second row is not a statement and has a discriminator
abbrev with_discriminator : ℕ → List UnitPart
with_discriminator n =
    let second : RowPart = record {
      address = 0x1010;
      file = 0;
      line = 20;
      column = 2;
      statement = false;
      discriminator = n;
    } in
    main_unit no_calls (row 0x1000 5 1 ∷ second ∷ row 0x1020 7 1 ∷ []) 0x1030 ∷ []

-- a second unit, whose file's directory has a root
abbrev with_header : List UnitPart
with_header = main_unit no_calls three_rows 0x1030
    ∷ unit_of (range 0x2000 0x2010) (codes "/usr/include") (codes "x.h") [] (row 0x2000 9 1 ∷ []) 0x2010 ∷ []

-- ---- their conditions and weights

plain_is_sound : first_broken plain ≡ None
plain_is_sound = refl

with_call_is_sound : first_broken with_call ≡ None
with_call_is_sound = refl

doubled_is_sound : first_broken doubled_units ≡ None
doubled_is_sound = refl

with_header_is_sound : first_broken with_header ≡ None
with_header_is_sound = refl

no_units_is_sound : first_broken [] ≡ None
no_units_is_sound = refl

call_past_main : first_broken (main_unit (call_over 0x1010 0x1038) three_rows 0x1030 ∷ []) ≡ Some CallOutside
call_past_main = refl

row_at_the_end : first_broken (main_unit no_calls three_rows 0x1020 ∷ []) ≡ Some Rows
row_at_the_end = refl

fourth_row_at_the_end : first_broken (main_unit no_calls (three_rows ++ row 0x1030 8 1 ∷ []) 0x1030 ∷ []) ≡ Some Rows
fourth_row_at_the_end = refl

greatest_discriminator : first_broken (with_discriminator 0xffff_ffff) ≡ None
greatest_discriminator = refl

discriminator_too_great : first_broken (with_discriminator 0x1_0000_0000) ≡ Some Discriminator
discriminator_too_great = refl

plain_weight : table_weight plain ≡ 10268
plain_weight = refl

with_call_weight : table_weight with_call ≡ 10528
with_call_weight = refl

no_units_weight : table_weight [] ≡ 8192
no_units_weight = refl

-- ---- which encodings they fit

abbrev high_unit : ℕ → List UnitPart
high_unit end = unit_of (range 0x1000 end) (codes "src") (codes "a.c") [] (row 0x1000 1 1 ∷ []) 0x1010 ∷ []

below_the_tombstone : fits 4 (high_unit 0xffff_fffd) ≡ true
below_the_tombstone = refl

at_the_tombstone : fits 4 (high_unit 0xffff_fffe) ≡ false
at_the_tombstone = refl

no_units_fit : fits 4 [] ≡ true
no_units_fit = refl

targets : (is_target 2 false 4 ≡ true) × (is_target 2 true 4 ≡ false) × (is_target 5 true 8 ≡ true)
    × (is_target 4 false 2 ≡ false) × (is_target 6 false 8 ≡ false)
targets = (refl, refl, refl, refl, refl)

-- ---- locations

abbrev location_answer : List ℕ → ℕ → ℕ → Option Location
location_answer file line column =
    Some (record {
      file = Some file;
      line = line;
      column = column;
      statement = Some true;
      discriminator = Some 0;
    })

-- the place of a call
abbrev call_answer : List ℕ → ℕ → ℕ → Option Location
call_answer file line column =
    Some (record { file = Some file; line = line; column = column; statement = None; discriminator = None })

middle_of_first_row : location_at plain 0x100f ≡ location_answer (codes "/w/src/a.c") 5 1
middle_of_first_row = refl

at_the_end : location_at plain 0x1030 ≡ None
at_the_end = refl

below_the_unit : location_at plain 0xfff ≡ None
below_the_unit = refl

at_the_last_address : location_at plain (2 ^ 64 - 1) ≡ None
at_the_last_address = refl

last_of_one_address : location_at doubled_units 0x10 ≡ location_answer (codes "/w/src/a.c") 2 1
last_of_one_address = refl

last_row_of_doubled : location_at doubled_units 0x2f ≡ location_answer (codes "/w/src/a.c") 3 1
last_row_of_doubled = refl

end_of_doubled : location_at doubled_units 0x30 ≡ None
end_of_doubled = refl

nowhere_without_units : location_at [] 0x1000 ≡ None
nowhere_without_units = refl

registers_of_a_row : location_at (with_discriminator 3) 0x1018
    ≡ Some (record {
      file = Some (codes "/w/src/a.c");
      line = 20;
      column = 2;
      statement = Some false;
      discriminator = Some 3;
    })
registers_of_a_row = refl

-- ---- frames

abbrev named_frame : List ℕ → Option Location → Frame
named_frame name location = record { function = Some name; location = location }

frames_in_the_call : frames_at with_call 0x1018
    ≡ (named_frame (codes "f") (location_answer (codes "/w/src/a.c") 20 2)
    ∷ named_frame (codes "main") (call_answer (codes "/w/src/a.c") 6 3) ∷ [])
frames_in_the_call = refl

frames_before_the_call : frames_at with_call 0x100f
    ≡ (named_frame (codes "main") (location_answer (codes "/w/src/a.c") 5 1) ∷ [])
frames_before_the_call = refl

no_frames_below : frames_at with_call 0xfff ≡ []
no_frames_below = refl

no_frames_at_the_end : frames_at plain 0x1030 ≡ []
no_frames_at_the_end = refl

no_frames_at_the_last_address : frames_at plain (2 ^ 64 - 1) ≡ []
no_frames_at_the_last_address = refl

frame_without_function : frames_at with_header 0x2004
    ≡ (record { function = None; location = location_answer (codes "/usr/include/x.h") 9 1 } ∷ [])
frame_without_function = refl

-- ---- two ends

abbrev stretch : ℕ → ℕ → ℕ → Stretch
stretch address length line =
    record {
      address = address;
      length = length;
      location =
          record {
            file = Some (codes "/w/src/a.c");
            line = line;
            column = 1;
            statement = Some true;
            discriminator = Some 0;
          };
    }

both_stretches : stretches_between doubled_units 0x18 0x21 ≡ (stretch 0x10 0x10 2 ∷ stretch 0x20 0x10 3 ∷ [])
both_stretches = refl

ends_the_other_way_round : stretches_between doubled_units 0x1e 0x18 ≡ (stretch 0x10 0x10 2 ∷ [])
ends_the_other_way_round = refl

no_stretch : stretches_between doubled_units 0 0 ≡ []
no_stretch = refl

-- ---- words

words_of_a_number : (word_address (codes "1000") ≡ Some 0x1000) × (word_address (codes "0x1030") ≡ Some 0x1030)
    × (word_address (codes "0x+fF") ≡ Some 0xff) × (word_address (codes "ffffffffffffffff") ≡ Some (2 ^ 64 - 1))
words_of_a_number = (refl, refl, refl, refl)

unreadable_words : (word_address (codes "zz") ≡ None) × (word_address (codes "0x") ≡ None) × (word_address [] ≡ None)
    × (word_address (codes "0X10") ≡ None) × (word_address (codes " 10") ≡ None) × (word_address (codes "++1") ≡ None)
    × (word_address (codes "10000000000000000") ≡ None)
unreadable_words = (refl, refl, refl, refl, refl, refl, refl)

lines_of_words : ask_text plain (codes "1000" ∷ codes "0x1030" ∷ codes "zz" ∷ []) ≡ codes "/w/src/a.c:5\n??:0\n??:0\n"
unfolding digits
lines_of_words = refl

line_with_a_discriminator : ask_text (with_discriminator 3) (codes "1018" ∷ codes "1000" ∷ [])
    ≡ codes "/w/src/a.c:20 (discriminator 3)\n/w/src/a.c:5\n"
unfolding digits
line_with_a_discriminator = refl

line_unknown : place_text (Some (codes "a.c")) None ≡ codes "a.c:?"
line_unknown = refl
