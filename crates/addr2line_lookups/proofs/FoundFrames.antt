-- The frames of an address, found by the function and the row that it has.
use Rattle.std.proofs.Common.{◌≡◌, ℕ, ◌≤◌, true, List, [], ◌∷◌, ◌++◌, length, map, slice_get, Option, Some, None, option_map, Result, Ok, Err, refl, sym, ap, ◌∙◌, subst}
use Rattle.std.specs.Prelude.{option_and_then}
use Rattle.std.proofs.lemmas.Option.{slice_get-map, slice_get_past}
use Rattle.addr2line_unit.specs.Error.{Error}
use Rattle.addr2line_unit.specs.Calls.{ReturnsAs}
use Rattle.addr2line_unit.specs.Results.{and_then}
use Rattle.addr2line_unit.specs.View.{View}
use Rattle.addr2line_unit.specs.Lines.{Lines, LineRow, Location, row_at, row_location}
use Rattle.addr2line_unit.specs.InlinedCalls.{Call, FunctionCalls, chain_at}
use Rattle.addr2line_unit.specs.Frames.{Frame, FunctionAt, frame, call_site, frames_in as frames_of_calls, frame_without_function, function_with_calls, frames_of}
use Rattle.addr2line_unit.specs.Lookups.{has_frames}
use Rattle.addr2line_unit.specs.EntryReferences.{KnownUnits, HoldingUnit}
use Rattle.addr2line_unit.specs.CallNumbers.{calls_of_numbers}
use Rattle.addr2line_unit.specs.KeptFunctions.{function_at_number, frames_by_numbers}
use Rattle.addr2line_unit.specs.ResolvedUnits.{ResolvedUnit, AnsweredUnit, value_of_unit, plain_unit, main_unit, first_answer, unit_of_functions, functions_of, row_or_refusal, if_kept, KeepsLines}
use Rattle.addr2line_unit.specs.LineIndexes.{CountedLines, counted_lines}
use Rattle.addr2line_unit.specs.ContextNames.{naming_from}
use Rattle.addr2line_lookups.specs.declared.frame_place.FramePlace.{FramePlace}
use Rattle.addr2line_lookups.specs.KeptUnits.{KeepsAt, row_of_unit, row_at_number}
use Rattle.addr2line_lookups.specs.KeptCalls.{kept_calls_of}
use Rattle.addr2line_lookups.specs.FunctionPlaces.{function_of_answered, function_of_any, function_with_calls_at, kept_function_at, chain_of_any, chain_of, HoldsFunction, FindsFunction}
use Rattle.addr2line_lookups.specs.FramePlaces.{frames_of_answered, frames_of_any, frames_at_number, place_if_any, frames_in_unit, frames_in_any, frames_at_place, HoldsFrames, FindsFrames, LendsFrames}

-- ---- by the function and the lines

-- the frames of an address, from its function and the lines, if neither is refused
abbrev frames_from : Option ℕ → Result Lines Error → ℕ → Result (Option FunctionAt) Error → Result (List Frame) Error
frames_from language lines a r = and_then r (λ f. and_then lines (λ l. Ok (frames_of language l a f)))

-- those of a unit are these
frames_by_function : (known : KnownUnits) (a : ℕ) (v : AnsweredUnit)
    → frames_of_answered known a v ≡ frames_from v.unit.language v.unit.lines a (function_of_answered known a v)
frames_by_function known a v = by (unit_of_functions (main_unit v) (first_answer v))
  where
    by : (r : Result HoldingUnit Error)
        → and_then r (λ h.
        and_then (function_with_calls h.unit (naming_from known h) a) (λ f.
        and_then v.unit.lines (λ l. Ok (frames_of v.unit.language l a f))))
        ≡ frames_from v.unit.language v.unit.lines a
        (and_then r (λ h. function_with_calls h.unit (naming_from known h) a))
    by (Ok h) = refl
    by (Err e) = refl

module _ (language : Option ℕ) (a : ℕ) where
  refused_by_lines : (lines : Result Lines Error) (o : Option FunctionAt) (e : Error) → row_or_refusal a lines ≡ Err e
      → frames_from language lines a (Ok o) ≡ Err e
  refused_by_lines (Ok l) o e h = absurd cc
  refused_by_lines (Err d) o e h = let same : d ≡ e = cc in ap Err same

  -- neither a function nor a row
  no_frames : (lines : Result Lines Error) → row_or_refusal a lines ≡ Ok None
      → frames_from language lines a (Ok None) ≡ Ok []
  no_frames (Ok l) h =
      let none : row_at l a ≡ None = cc in
      ap (λ o. Ok (frame_without_function (option_map (row_location l.files) o))) none
  no_frames (Err e) h = absurd cc

  -- a row alone
  frames_of_row : (lines : Result Lines Error) (r : Option LineRow) (chain : List ℕ) → row_or_refusal a lines ≡ Ok r
      → and_then lines (λ l.
      frames_by_numbers language l.files (option_map (row_location l.files) r) None chain)
      ≡ frames_from language lines a (Ok None)
  frames_of_row (Ok l) r chain h =
      let is : row_at l a ≡ r = cc in
      ap (λ o. Ok (frame_without_function (option_map (row_location l.files) o))) (sym is)
  frames_of_row (Err e) r chain h = absurd cc

  -- a function, with a row or without one
  frames_of_function : (lines : Result Lines Error) (r : Option LineRow) (f : FunctionAt) (chain : List ℕ)
      → row_or_refusal a lines ≡ Ok r → calls_of_numbers f.calls.calls chain ≡ chain_at f.calls.calls a
      → and_then lines (λ l.
      frames_by_numbers language l.files (option_map (row_location l.files) r) (Some (Ok f)) chain)
      ≡ frames_from language lines a (Ok (Some f))
  frames_of_function (Ok l) r f chain h same =
      let is : row_at l a ≡ r = cc in
      ap (λ o. Ok (frames_of_calls language l.files (option_map (row_location l.files) o) f.offset f.calls.name
      (calls_of_numbers f.calls.calls chain))) (sym is)
      ∙ ap (λ cs. Ok (frames_of_calls language l.files (option_map (row_location l.files) (row_at l a)) f.offset
      f.calls.name cs)) same
  frames_of_function (Err e) r f chain h same = absurd cc

-- ---- there are some

one_frame : (fs : List Frame) (f : Frame) → has_frames (Ok (fs ++ f ∷ [])) ≡ true
one_frame [] f = refl
one_frame (x ∷ fs) f = refl

function_has_frames : (language : Option ℕ) (files : List (List ℕ)) (here : Option Location) (offset : ℕ)
    (name : Option View) (cs : List Call) → has_frames (Ok (frames_of_calls language files here offset name cs)) ≡ true
function_has_frames language files here offset name [] = refl
function_has_frames language files here offset name (c ∷ cs) =
    one_frame (frames_of_calls language files here c.offset c.name cs)
    (frame language offset name (Some (call_site files c)))

module _ (language : Option ℕ) (a : ℕ) where
  some_of_function : (lines : Result Lines Error) (r : Option LineRow) (f : FunctionAt) → row_or_refusal a lines ≡ Ok r
      → has_frames (frames_from language lines a (Ok (Some f))) ≡ true
  some_of_function (Ok l) r f h =
      function_has_frames language l.files (option_map (row_location l.files) (row_at l a)) f.offset f.calls.name
      (chain_at f.calls.calls a)
  some_of_function (Err e) r f h = absurd cc

  some_of_row : (lines : Result Lines Error) (r : LineRow) → row_or_refusal a lines ≡ Ok (Some r)
      → has_frames (frames_from language lines a (Ok None)) ≡ true
  some_of_row (Ok l) r h =
      let is : row_at l a ≡ Some r = cc in
      ap (λ o. has_frames (Ok (frame_without_function (option_map (row_location l.files) o)))) is
  some_of_row (Err e) r h = absurd cc

abbrev no_function_found : Result (Option FunctionAt) Error
no_function_found = Ok None

none_is_none : (f : FunctionAt) → no_function_found ≡ Ok (Some f) → ⊥
none_is_none f is = cc

-- ---- the unit of a number

module _ (known : KnownUnits) (a n : ℕ) where
  -- none past the last unit
  pub none_past : (us : List ResolvedUnit) (vs : List AnsweredUnit) → map value_of_unit us ≡ vs → length us ≤ n
      → frames_at_number known vs a n ≡ Ok []
  none_past us vs same past =
      ap (λ xs. frames_of_any known a (slice_get xs n)) (sym same)
      ∙ ap (frames_of_any known a)
      (slice_get-map value_of_unit us n ∙ ap (option_map value_of_unit) (slice_get_past us n past))

  refused_by : (o : Option AnsweredUnit) (e : Error) → function_of_any known a o ≡ Err e
      → frames_of_any known a o ≡ Err e
  refused_by None e h = absurd cc
  refused_by (Some v) e h =
      frames_by_function known a v ∙ ap (frames_from v.unit.language v.unit.lines a) h

  -- a function that is refused
  pub function_refuses : (vs : List AnsweredUnit) (e : Error) → function_with_calls_at known vs a n ≡ Err e
      → frames_at_number known vs a n ≡ Err e
  function_refuses vs e h = refused_by (slice_get vs n) e h

  -- ---- units whose values are these

  module _ (us : List ResolvedUnit) (vs : List AnsweredUnit) (same : map value_of_unit us ≡ vs) where
    at_value : slice_get vs n ≡ option_map value_of_unit (slice_get us n)
    at_value = ap (λ xs. slice_get xs n) (sym same) ∙ slice_get-map value_of_unit us n

    abbrev FunctionOf : Option ResolvedUnit → Result (Option FunctionAt) Error
    FunctionOf o = function_of_any known a (option_map value_of_unit o)

    abbrev FramesOf : Option ResolvedUnit → Result (List Frame) Error
    FramesOf o = frames_of_any known a (option_map value_of_unit o)

    abbrev RowOf : Option ResolvedUnit → Result (Option LineRow) Error
    RowOf o = row_of_unit a (option_map plain_unit o)

    row_is : row_at_number (map plain_unit us) a n ≡ RowOf (slice_get us n)
    row_is = ap (row_of_unit a) (slice_get-map plain_unit us n)

    frames_are : frames_at_number known vs a n ≡ FramesOf (slice_get us n)
    frames_are = ap (frames_of_any known a) at_value

    function_is : function_with_calls_at known vs a n ≡ FunctionOf (slice_get us n)
    function_is = ap (function_of_any known a) at_value

    -- lines that are refused
    lines_refuse_by : (o : Option ResolvedUnit) (f : Option FunctionAt) (e : Error) → FunctionOf o ≡ Ok f
        → RowOf o ≡ Err e → FramesOf o ≡ Err e
    lines_refuse_by None f e h r = absurd cc
    lines_refuse_by (Some u) f e h r =
        frames_by_function known a u.value ∙ ap (frames_from u.value.unit.language u.value.unit.lines a) h
        ∙ refused_by_lines u.value.unit.language a u.value.unit.lines f e r

    pub lines_refuse : (f : Option FunctionAt) (e : Error) → function_with_calls_at known vs a n ≡ Ok f
        → row_at_number (map plain_unit us) a n ≡ Err e → frames_at_number known vs a n ≡ Err e
    lines_refuse f e h r =
        frames_are ∙ lines_refuse_by (slice_get us n) f e (sym function_is ∙ h) (sym row_is ∙ r)

    -- neither a function nor a row
    none_by : (o : Option ResolvedUnit) → FunctionOf o ≡ Ok None → RowOf o ≡ Ok None → FramesOf o ≡ Ok []
    none_by None h r = refl
    none_by (Some u) h r =
        frames_by_function known a u.value ∙ ap (frames_from u.value.unit.language u.value.unit.lines a) h
        ∙ no_frames u.value.unit.language a u.value.unit.lines r

    -- a row alone
    module _ (keeps : KeepsAt us n) where
      abbrev chain : List ℕ
      chain = chain_of us n

      row_by : (o : Option ResolvedUnit) (r : LineRow) → slice_get us n ≡ o → FunctionOf o ≡ Ok None
          → RowOf o ≡ Ok (Some r)
          → HoldsFrames us (FramesOf o) (record { unit = n; function = None; row = Some r })
      row_by None r at h row = absurd cc
      row_by (Some u) r at h row =
          let language = u.value.unit.language in
          let lines = u.value.unit.lines in
          let all : frames_of_answered known a u.value ≡ frames_from language lines a (Ok None) =
          frames_by_function known a u.value ∙ ap (frames_from language lines a) h in
          record {
            frames_are =
                ap (frames_in_any (record { unit = n; function = None; row = Some r })) at
                ∙ frames_of_row language a lines (Some r) u.chain row ∙ sym all;
            has_some = ap has_frames all ∙ some_of_row language a lines r row;
            keeps_lines = keeps;
          }

      -- a function
      function_by : (o : Option ResolvedUnit) (k : ℕ) (r : Option LineRow) → slice_get us n ≡ o
          → HoldsFunction us n k a (FunctionOf o) chain → RowOf o ≡ Ok r
          → HoldsFrames us (FramesOf o) (record { unit = n; function = Some k; row = r })
      function_by None k r at holds row = absurd (none_is_none holds.function holds.is_answer)
      function_by (Some u) k r at holds row =
          let language = u.value.unit.language in
          let lines = u.value.unit.lines in
          let f = holds.function in
          let all : frames_of_answered known a u.value ≡ frames_from language lines a (Ok (Some f)) =
          frames_by_function known a u.value ∙ ap (frames_from language lines a) holds.is_answer in
          let kept : function_at_number (functions_of u.value) u.calls k ≡ Some (Ok f) =
          ap (option_and_then (λ (w : ResolvedUnit). function_at_number (functions_of w.value) w.calls k)) (sym at)
          ∙ holds.is_kept in
          let numbers : chain ≡ u.chain = ap chain_of_any at in
          let chain_is : calls_of_numbers f.calls.calls u.chain ≡ chain_at f.calls.calls a =
          ap (calls_of_numbers f.calls.calls) (sym numbers) ∙ holds.chain_is in
          record {
            frames_are =
                ap (frames_in_any (record { unit = n; function = Some k; row = r })) at
                ∙ ap (λ x. and_then lines (λ l.
                frames_by_numbers language l.files (option_map (row_location l.files) r) x u.chain)) kept
                ∙ frames_of_function language a lines r f u.chain row chain_is ∙ sym all;
            has_some = ap has_frames all ∙ some_of_function language a lines r f row;
            keeps_lines = keeps;
          }

      -- what was found
      found_by : (o : Option ResolvedUnit) (k : Option ℕ) (r : Option LineRow) → slice_get us n ≡ o
          → FindsFunction us n a (FunctionOf o) (Ok k) chain → RowOf o ≡ Ok r
          → FindsFrames us (FramesOf o) (Ok (place_if_any n k r))
      found_by o None None at h row = none_by o h row
      found_by o None (Some r) at h row = row_by o r at h row
      found_by o (Some k) r at h row = function_by o k r at h row

      pub frames_found : (k : Option ℕ) (r : Option LineRow)
          → FindsFunction us n a (function_with_calls_at known vs a n) (Ok k) chain
          → row_at_number (map plain_unit us) a n ≡ Ok r
          → FindsFrames us (frames_at_number known vs a n) (Ok (place_if_any n k r))
      frames_found k r h row =
          let P : Result (Option FunctionAt) Error → Type 0 = λ m. FindsFunction us n a m (Ok k) chain in
          let Q : Result (List Frame) Error → Type 0 = λ m. FindsFrames us m (Ok (place_if_any n k r)) in
          subst Q (sym frames_are)
          (found_by (slice_get us n) k r refl (subst P function_is h) (sym row_is ∙ row))

-- ---- units with the same values and calls

-- the function of a number, by the values and the calls
abbrev function_by_parts : ℕ → Option AnsweredUnit → Option (List (Option (Result FunctionCalls Error)))
    → Option (Result FunctionAt Error)
function_by_parts k (Some v) (Some calls) = function_at_number (functions_of v) calls k
function_by_parts k (Some v) None = None
function_by_parts k None calls = None

by_parts : (us : List ResolvedUnit) (n k : ℕ)
    → kept_function_at us n k
    ≡ function_by_parts k (slice_get (map value_of_unit us) n) (slice_get (map kept_calls_of us) n)
by_parts us n k =
    by (slice_get us n)
    ∙ ap (λ o. function_by_parts k o (option_map kept_calls_of (slice_get us n)))
    (sym (slice_get-map value_of_unit us n))
    ∙ ap (function_by_parts k (slice_get (map value_of_unit us) n)) (sym (slice_get-map kept_calls_of us n))
  where
    by : (o : Option ResolvedUnit)
        → option_and_then (λ (u : ResolvedUnit). function_at_number (functions_of u.value) u.calls k) o
        ≡ function_by_parts k (option_map value_of_unit o) (option_map kept_calls_of o)
    by None = refl
    by (Some u) = refl

module _ (us ws : List ResolvedUnit) (values : map value_of_unit ws ≡ map value_of_unit us)
    (calls : map kept_calls_of ws ≡ map kept_calls_of us) where
  same_function : (n k : ℕ) → kept_function_at ws n k ≡ kept_function_at us n k
  same_function n k =
      by_parts ws n k
      ∙ ap (λ xs. function_by_parts k (slice_get xs n) (slice_get (map kept_calls_of ws) n)) values
      ∙ ap (λ xs. function_by_parts k (slice_get (map value_of_unit us) n) (slice_get xs n)) calls
      ∙ sym (by_parts us n k)

  pub function_stays : (n a : ℕ) (answer : Result (Option FunctionAt) Error) (k : Option ℕ) (chain : List ℕ)
      → FindsFunction us n a answer (Ok k) chain → FindsFunction ws n a answer (Ok k) chain
  function_stays n a answer None _ h = h
  function_stays n a answer (Some k) chain h = record {
    function = h.function;
    is_kept = same_function n k ∙ h.is_kept;
    is_answer = h.is_answer;
    chain_is = h.chain_is;
  }

-- a function that was found isn't refused
abbrev pub FoundOf : Result (Option FunctionAt) Error → Type 0
FoundOf answer = (f : Option FunctionAt) × (answer ≡ Ok f)

pub found_function : (us : List ResolvedUnit) (n a : ℕ) (answer : Result (Option FunctionAt) Error) (k : Option ℕ)
    (chain : List ℕ) → FindsFunction us n a answer (Ok k) chain → FoundOf answer
found_function us n a answer None _ h = (None, h)
found_function us n a answer (Some k) chain h = (Some h.function, h.is_answer)

-- ---- lines that are kept

module _ (u : ResolvedUnit) (keeps : KeepsLines u) (o : Option (Result CountedLines Error))
    (is : o ≡ if_kept u.keeps_lines (counted_lines u.probes.name u.value.unit.lines)) where
  kept : o ≡ Some (counted_lines u.probes.name u.value.unit.lines)
  kept = is ∙ ap (λ b. if_kept b (counted_lines u.probes.name u.value.unit.lines)) keeps

  pub lines_are : (l : CountedLines) → o ≡ Some (Ok l) → u.value.unit.lines ≡ Ok l.lines
  lines_are l found = by u.value.unit.lines (sym found ∙ kept)
    where
      by : (r : Result Lines Error) → Some (Ok l) ≡ Some (counted_lines u.probes.name r) → r ≡ Ok l.lines
      by (Ok x) h =
          let same : l ≡ record { lines = x; counter = u.probes.name } = cc in
          ap (λ (c : CountedLines). Ok c.lines) (sym same)
      by (Err e) h = absurd cc

  pub lines_refused : (e : Error) → o ≡ Some (Err e) → u.value.unit.lines ≡ Err e
  lines_refused e found = by u.value.unit.lines (sym found ∙ kept)
    where
      by : (r : Result Lines Error) → Some (Err e) ≡ Some (counted_lines u.probes.name r) → r ≡ Err e
      by (Ok x) h = absurd cc
      by (Err d) h = let same : e ≡ d = cc in ap Err (sym same)

  pub lines_there : o ≡ None → ⊥
  lines_there none = let h : None ≡ Some (counted_lines u.probes.name u.value.unit.lines) = sym none ∙ kept in cc

-- ---- lending

-- the frames at a place in a unit, by its lines
pub frames_with_lines : (u : ResolvedUnit) (p : FramePlace) (chain : List ℕ) (l : Lines)
    → u.value.unit.lines ≡ Ok l
    → frames_in_unit p chain u
    ≡ frames_by_numbers u.value.unit.language l.files (option_map (row_location l.files) p.row)
    (option_and_then (function_at_number (functions_of u.value) u.calls) p.function) chain
frames_with_lines u p chain l is =
    ap (λ (r : Result Lines Error). and_then r (λ (x : Lines).
    frames_by_numbers u.value.unit.language x.files (option_map (row_location x.files) p.row)
    (option_and_then (function_at_number (functions_of u.value) u.calls) p.function) chain)) is

pub frames_refused : (u : ResolvedUnit) (p : FramePlace) (chain : List ℕ) (e : Error) → u.value.unit.lines ≡ Err e
    → frames_in_unit p chain u ≡ Err e
frames_refused u p chain e is =
    ap (λ (r : Result Lines Error). and_then r (λ (x : Lines).
    frames_by_numbers u.value.unit.language x.files (option_map (row_location x.files) p.row)
    (option_and_then (function_at_number (functions_of u.value) u.calls) p.function) chain)) is

-- those at a place, by its unit
pub frames_in : (us : List ResolvedUnit) (p : FramePlace) (o : Option ResolvedUnit)
    → o ≡ slice_get us p.unit → frames_at_place us p ≡ frames_in_any p o
frames_in us p o is = ap (frames_in_any p) (sym is)

-- ---- what is lent

abbrev ok_frames : List Frame → Result (List Frame) Error
ok_frames fs = Ok fs

module _ {X : Type 0} (see : X → List Frame) (us : List ResolvedUnit) (p : FramePlace) (r : Result X Error)
    (h : KeepsAt us p.unit → ReturnsAs see r (frames_at_place us p)) where
  pub lends_frames : (x : X) → r ≡ Ok x → LendsFrames us p (see x)
  lends_frames x is keeps fs found =
      let lent : ok_frames (see x) ≡ Ok fs =
      sym (subst (λ y. ReturnsAs see y (frames_at_place us p)) is (h keeps)) ∙ found in cc

  pub lends_none : (e : Error) (other : List Frame) → r ≡ Err e → LendsFrames us p other
  lends_none e other is keeps fs found =
      let refused : ok_frames fs ≡ Err e =
      sym found ∙ subst (λ y. ReturnsAs see y (frames_at_place us p)) is (h keeps) in
      absurd cc
