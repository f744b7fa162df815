-- The frames of an address over what was agrees are, one by one, the table's.
use Rattle.std.proofs.Common.{◌≡◌, ℕ, ◌+◌, ◌-◌, ◌^◌, ◌<◌, Bool, true, false, cond, ◌||◌, nat_lt, nat_le, List, [], ◌∷◌, ◌++◌, length, slice_get, find, Option, Some, None, option_map, option_and_then, Result, Ok, Contains, refl, sym, ap, subst, ◌∙◌, arith}
use Rattle.std.specs.List.{list_any}
use Rattle.std.proofs.lemmas.Bool.{or_parts, or_from, leb-false, ltb-false, ne_eqb}
use Rattle.std.proofs.lemmas.List.Elements.{Contains-append_left, Contains-append_right, Contains-push}
use Rattle.linemap_places_laws.specs.Error.{Error}
use Rattle.linemap_places_laws.specs.View.{View}
use Rattle.linemap_places_laws.specs.Range.{Range}
use Rattle.linemap_places_laws.specs.Lines.{Lines, Location, sequences_of_rows, place_in}
use Rattle.linemap_places_laws.specs.InlinedCalls.{Call, FunctionCalls, chain_at}
use Rattle.linemap_places_laws.specs.TableParts.{Site, Calls, no_calls, more_calls, FunctionPart, UnitPart}
use Rattle.linemap_places_laws.specs.FileText.{file_text}
use Rattle.linemap_places_laws.specs.Conditions.{IsSound, any_call, is_bad_number, has_bad_line_or_column, has_bad_file_number, has_sequence_with_bad_rows, has_sequences_overlap}
use Rattle.linemap_places_laws.specs.Meaning as table
use Rattle.linemap_places_laws.specs.Rule.TheVariants.{LineOrColumn, FileNumber, Rows, SequencesOverlap}
use Rattle.linemap_places_laws.proofs.SoundUnits.{sound_rule, none_passes}
use Rattle.linemap_places_laws.specs.LookupAgreement.{AreNumbered, UnitAgrees, lookup_location}
use Rattle.linemap_places_laws.proofs.AgreeingSequences.{all_good}
use Rattle.linemap_places_laws.proofs.UnitLocations.{location_agrees, all_rows_good}
use Rattle.linemap_frames_laws.specs.CallAgreement.{OneByOne, Likewise, CallAtDepth, HasName, CallAgrees, ChainAgrees, EntryAgrees}
use Rattle.linemap_places_laws.specs.Frames.{Frame, FunctionAt, nonzero, call_site, function_name, frame, frames_in, frame_without_function, frames_of}
use Rattle.linemap_frames_laws.specs.LookupFrameLaws.{FrameAgrees}
use Rattle.linemap_frames_laws.proofs.AgreeingChains.{chains_meet}

-- ---- lists side by side

pub one-append : {A B : Type 0} (R : A → B → Type 0) (xs zs : List A) (ys ws : List B) → OneByOne R xs ys
    → OneByOne R zs ws → OneByOne R (xs ++ zs) (ys ++ ws)
one-append R [] zs [] ws h k = k
one-append R [] zs (y ∷ ys) ws h k = absurd h
one-append R (x ∷ xs) zs [] ws h k = absurd h
one-append R (x ∷ xs) zs (y ∷ ys) ws h k = (h.0, one-append R xs zs ys ws h.1 k)

-- ---- the calls of a chain are among all

none_of_chain : (test : Site → Bool) (a : ℕ) (cs : Calls) → any_call test cs ≡ false
    → list_any test (table.chain a cs) ≡ false
none_of_chain test a no_calls h = refl
none_of_chain test a (more_calls site inner others) h =
    let p = or_parts (test site || any_call test inner) (any_call test others) h in
    let q = or_parts (test site) (any_call test inner) p.0 in
    by_case (table.any_holds a site.ranges)
    (or_from (test site) (list_any test (table.chain a inner)) q.0 (none_of_chain test a inner q.1))
    (none_of_chain test a others p.1)
  where
    by_case : (c : Bool) → list_any test (site ∷ table.chain a inner) ≡ false → list_any test (table.chain a others)
        ≡ false → list_any test (cond c (site ∷ table.chain a inner) (table.chain a others)) ≡ false
    by_case true here rest = here
    by_case false here rest = rest

-- ---- places

not_0 : (n : ℕ) → is_bad_number n ≡ false → nonzero n ≡ Some n
not_0 n h =
    let p = or_parts (nat_lt n 1) (nat_lt (2 ^ 32 - 1) n) h in
    let low = ltb-false n 1 p.0 in
    ap (λ b. cond b None (Some n)) (ne_eqb n 0 (λ same. omega (arith, same, low)))

-- a call without a file of the unit, or with a line or a column that is none
abbrev bad_numbers : Site → Bool
bad_numbers s = is_bad_number s.line || is_bad_number s.column

abbrev is_past : UnitPart → Site → Bool
is_past u s = nat_le (length u.files) s.file

module _ (number : ℕ → ℕ) (files : List (List ℕ)) (u : UnitPart) (numbered : AreNumbered number u files) where
  call_place : (p : CallAtDepth) (c : Call) → CallAgrees number p c → bad_numbers p.site ≡ false
      → is_past u p.site ≡ false → call_site files c ≡ lookup_location (table.call_location u p.site)
  call_place p c agrees numbers past =
      let n = or_parts (is_bad_number p.site.line) (is_bad_number p.site.column) numbers in
      let there : p.site.file < length u.files = leb-false (length u.files) p.site.file past in
      let place : Option (List ℕ) → Option ℕ → Option ℕ → Location =
      λ f l c. record { file = f; line = l; column = c; statement = None; discriminator = None } in
      let text : Option (List ℕ) = option_map (file_text u) (slice_get u.files p.site.file) in
      let file : option_and_then (slice_get files) c.file ≡ text =
      ap (λ (o : Option ℕ). option_and_then (slice_get files) o) agrees.file_is ∙ numbered p.site.file there in
      let line : nonzero c.line ≡ Some p.site.line = ap nonzero agrees.line_is ∙ not_0 p.site.line n.0 in
      let column : nonzero c.column ≡ Some p.site.column = ap nonzero agrees.column_is ∙ not_0 p.site.column n.1 in
      ap (λ f. place f (nonzero c.line) (nonzero c.column)) file
      ∙ ap (λ l. place text l (nonzero c.column)) line
      ∙ ap (λ k. place text (Some p.site.line) k) column

  named_bytes : (language : Option ℕ) (name : Option View)
      → option_map (λ n. n.name.bytes) (function_name language name) ≡ option_map (λ v. v.bytes) name
  named_bytes language None = refl
  named_bytes language (Some v) = refl

  frames_agree : (language : Option ℕ) (here : Option table.Location) (bytes : List ℕ) (offset : ℕ) (name : Option View)
      (d : ℕ) (ss : List Site) (cs : List Call) → HasName bytes name → list_any bad_numbers ss ≡ false
      → list_any (is_past u) ss ≡ false → ChainAgrees number d ss cs
      → OneByOne FrameAgrees (table.frames_in u here bytes ss)
      (frames_in language files (option_map lookup_location here) offset name cs)
  frames_agree language here bytes offset name d [] [] same numbers past agrees =
      (record { name_is = named_bytes language name ∙ same; location_is = refl }, tt)
  frames_agree language here bytes offset name d [] (c ∷ cs) same numbers past agrees = absurd agrees
  frames_agree language here bytes offset name d (s ∷ ss) [] same numbers past agrees = absurd agrees
  frames_agree language here bytes offset name d (s ∷ ss) (c ∷ cs) same numbers past agrees =
      let n = or_parts (bad_numbers s) (list_any bad_numbers ss) numbers in
      let q = or_parts (is_past u s) (list_any (is_past u) ss) past in
      let place = call_place (record { depth = d; site = s }) c agrees.0 n.0 q.0 in
      let last : FrameAgrees (table.frame bytes (Some (table.call_location u s)))
      (frame language offset name (Some (call_site files c))) =
      record { name_is = named_bytes language name ∙ same; location_is = ap (λ (l : Location). Some l) place } in
      one-append FrameAgrees (table.frames_in u here s.name ss)
      (table.frame bytes (Some (table.call_location u s)) ∷ [])
      (frames_in language files (option_map lookup_location here) c.offset c.name cs)
      (frame language offset name (Some (call_site files c)) ∷ [])
      (frames_agree language here s.name c.offset c.name (d + 1) ss cs agrees.0.name_is n.1 q.1 agrees.1) (last, tt)

-- ---- one function

-- the lines and columns of a sound unit count, those of rows and those of calls
lines_good : (us : List UnitPart) (u : UnitPart) → IsSound us → Contains us u
    → (list_any (λ s. list_any (λ r. is_bad_number r.line || is_bad_number r.column) s.rows) u.sequences ≡ false)
    × (list_any (λ f. any_call bad_numbers f.calls) u.functions ≡ false)
lines_good us u sound there =
    or_parts (list_any (λ s. list_any (λ r. is_bad_number r.line || is_bad_number r.column) s.rows) u.sequences)
    (list_any (λ f. any_call bad_numbers f.calls) u.functions)
    (none_passes has_bad_line_or_column us u (sound_rule us LineOrColumn sound) there)

-- and so do their files
files_good : (us : List UnitPart) (u : UnitPart) → IsSound us → Contains us u
    → (list_any (λ s. list_any (λ r. nat_le (length u.files) r.file) s.rows) u.sequences ≡ false)
    × (list_any (λ f. any_call (is_past u) f.calls) u.functions ≡ false)
files_good us u sound there =
    or_parts (list_any (λ s. list_any (λ r. nat_le (length u.files) r.file) s.rows) u.sequences)
    (list_any (λ f. any_call (is_past u) f.calls) u.functions)
    (none_passes has_bad_file_number us u (sound_rule us FileNumber sound) there)

function_frames : (number : ℕ → ℕ) (files : List (List ℕ)) (us : List UnitPart) (u : UnitPart) (f : FunctionPart)
    (language : Option ℕ) (offset : ℕ) (found : FunctionCalls) (here : Option table.Location) (a : ℕ)
    → IsSound us → Contains us u → Contains u.functions f → AreNumbered number u files → EntryAgrees number f found
    → OneByOne FrameAgrees (table.frames_in u here f.name (table.chain a f.calls))
    (frames_in language files (option_map lookup_location here) offset found.name (chain_at found.calls a))
function_frames number files us u f language offset found here a sound there inside numbered agrees =
    let line_parts = lines_good us u sound there in
    let file_parts = files_good us u sound there in
    let numbers = none_passes (λ (f : FunctionPart). any_call bad_numbers f.calls) u.functions f line_parts.1 inside in
    let past = none_passes (λ (f : FunctionPart). any_call (is_past u) f.calls) u.functions f file_parts.1 inside in
    frames_agree number files u numbered language here f.name offset found.name 0 (table.chain a f.calls)
    (chain_at found.calls a) agrees.name_is
    (none_of_chain bad_numbers a f.calls numbers) (none_of_chain (is_past u) a f.calls past)
    (chains_meet number us u f found.calls a sound there inside agrees.calls_are)

-- ---- one unit

-- what is found is there
found_names : {X : Type 0} (p : X → Bool) (xs : List X) (y : X) → find p xs ≡ Some y → Contains xs y
found_names {X} p [] y e = absurd cc
found_names {X} p (x ∷ xs) y e =
    by_case (p x) e (λ later. Contains-append_right (x ∷ []) xs y (found_names p xs y later))
  where
    by_case : (b : Bool) → cond b (Some x) (find p xs) ≡ Some y → (find p xs ≡ Some y → Contains (x ∷ xs) y)
        → Contains (x ∷ xs) y
    by_case true e rest = let same : x ≡ y = cc in let P : X
        → Type 0 = λ z. Contains (x ∷ xs) z in subst P same (Contains-append_left (x ∷ []) xs x (Contains-push [] x))
    by_case false e rest = rest e

without_function : (o : Option table.Location)
    → OneByOne FrameAgrees (table.frame_without_function o) (frame_without_function (option_map lookup_location o))
without_function None = tt
without_function (Some l) = (record { name_is = refl; location_is = refl }, tt)

module _ (us : List UnitPart) (u : UnitPart) (sound : IsSound us) (there : Contains us u) (number : ℕ → ℕ)
    (language : Option ℕ) (a : ℕ) where
  abbrev FramesAgree : Option FunctionPart → List Frame → Type 0
  FramesAgree o fs = OneByOne FrameAgrees (table.frames_of_function u a o) fs

  frames_by : (l : Lines) → place_in l a ≡ option_map lookup_location (table.place_in u a)
      → AreNumbered number u l.files → (o : Option FunctionPart)
      → ((f : FunctionPart) → o ≡ Some f → Contains u.functions f) → (found : Option FunctionAt)
      → Likewise (λ f x. EntryAgrees number f x.calls) o found → FramesAgree o (frames_of language l a found)
  frames_by l place numbered None inside None h =
      let P : Option Location → Type 0 = λ p. FramesAgree None (frame_without_function p) in
      subst P (sym place) (without_function (table.place_in u a))
  frames_by l place numbered None inside (Some x) h = absurd h
  frames_by l place numbered (Some f) inside None h = absurd h
  frames_by l place numbered (Some f) inside (Some x) h =
      let P : Option Location → Type 0 =
      λ p. FramesAgree (Some f) (frames_in language l.files p x.offset x.calls.name (chain_at x.calls.calls a)) in
      subst P (sym place)
      (function_frames number l.files us u f language x.offset x.calls (table.place_in u a) a sound there
      (inside f refl) numbered h)

abbrev lines_answer : Lines → Result Lines Error
lines_answer l = Ok l

lines_same : (l m : Lines) → lines_answer l ≡ lines_answer m → l ≡ m
lines_same l m e = cc

pub frames_meet : (us : List UnitPart) (u : UnitPart) (ranges : List Range) (l : Lines)
    (agrees : UnitAgrees u ranges (Ok l)) (language : Option ℕ) (found : Option FunctionAt) (a : ℕ)
    → IsSound us → Contains us u → Likewise (λ f x. EntryAgrees agrees.number f x.calls) (table.function_at u a) found
    → OneByOne FrameAgrees (table.frames_of_function u a (table.function_at u a)) (frames_of language l a found)
frames_meet us u ranges l agrees language found a sound there here =
    let m : Lines = record { sequences = sequences_of_rows agrees.rows; files = agrees.files } in
    let same : l ≡ m = lines_same l m agrees.lines_are in
    let rows = none_passes has_sequence_with_bad_rows us u (sound_rule us Rows sound) there in
    let apart = none_passes has_sequences_overlap us u (sound_rule us SequencesOverlap sound) there in
    let line_parts = lines_good us u sound there in
    let file_parts = files_good us u sound there in
    let place : place_in m a ≡ option_map lookup_location (table.place_in u a) =
    location_agrees agrees.number u agrees.files agrees.rows a agrees.rows_agree agrees.files_numbered
    (all_good u.sequences rows) (all_rows_good u u.sequences line_parts.0 file_parts.0) apart in
    let P : Lines → Type 0 =
    λ k. OneByOne FrameAgrees (table.frames_of_function u a (table.function_at u a))
    (frames_of language k a found) in
    subst P (sym same)
    (frames_by us u sound there agrees.number language a m place agrees.files_numbered (table.function_at u a)
    (λ f e. found_names (λ (g : FunctionPart). table.any_holds a g.ranges) u.functions f e) found here)
