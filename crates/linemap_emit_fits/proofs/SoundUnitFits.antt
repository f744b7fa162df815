-- What no condition refuses of a unit can be emitted.
use Rattle.std.proofs.Common.{◌≡◌, ℕ, ◌-◌, ◌<◌, ◌^◌, Bool, true, false, ◌||◌, ◌==◌, nat_lt, nat_le, List, [], ◌∷◌, length, map, get_or, arith}
use Rattle.std.specs.List.{list_any}
use Rattle.std.proofs.lemmas.Bool.{both_ways, eq-eqb, eqb-false, ltb-false, leb-false, not-true, not-false, or_parts}
use Rattle.std.proofs.lemmas.List.Folds.{list_any_at}
use Rattle.linemap_emit_units.specs.StringSections.{IsText}
use Rattle.linemap_emit_units.specs.TableParts.{RangePart, FilePart, Site, Calls, no_calls, more_calls, FunctionPart, UnitPart}
use Rattle.linemap_emit_units.specs.Conditions.{IsSound, any_call, is_empty_range, range_out_of_bounds, is_out_of_bounds, sequence_out_of_bounds, has_empty_range, has_out_of_bounds, is_bad_number, has_bad_line_or_column, has_bad_file_number, is_bad_text, has_bad_text, is_not_rooted}
use Rattle.linemap_emit_units.specs.EncodingFits.{least_tombstone, any_address, fits}
use Rattle.linemap_emit_units.specs.Rule.TheVariants.{EmptyRange, Bounds, LineOrColumn, FileNumber, Text, NotRooted}
use Rattle.linemap_emit_units.proofs.SoundSequenceLemmas.{is_high}
use Rattle.linemap_emit_units.proofs.SoundUnits.{sound_rule}
use Rattle.linemap_emit_units.specs.EmittedRanges.{AllWritable}
use Rattle.linemap_emit_units.specs.FilePaths.{is_rooted}
use Rattle.linemap_emit_units.specs.EmittedFiles.{IsTableText, AllTableTexts, HasTableTexts}
use Rattle.linemap_emit_units.specs.InlinedNames.{inlined_names}
use Rattle.linemap_emit_units.specs.UnitEmission.{CanEmitCalls, CanEmitFunctions, CanEmitUnit}
use Rattle.linemap_emit_fits.proofs.EntrySizes.{AllCounted, AllFunctionsCounted}
use Rattle.linemap_emit_units.specs.LookupAgreement.{lookup_range}

-- ---- texts

text_is : (text : List ℕ) → is_bad_text text ≡ false → IsText text
text_is text good i d within e =
    both_ways (list_any (λ b. b == 0) text) (or_parts (length text == 0) (list_any (λ b. b == 0) text) good).1
    (list_any_at (λ b. b == 0) text i d within (eq-eqb (get_or text i d) 0 e))

entry_is : (text : List ℕ) → is_bad_text text ≡ false → IsTableText text
entry_is text good =
    let parts = or_parts (length text == 0) (list_any (λ b. b == 0) text) good in
    (text_is text good, eqb-false (length text) 0 parts.0)

-- ---- ranges

-- a range that begins or ends at an address that a size of addresses doesn't have
abbrev range_is_high : ℕ → RangePart → Bool
range_is_high size r = is_high size r.begin || is_high size r.end

writable : (size : ℕ) (rs : List RangePart) → list_any is_empty_range rs ≡ false
    → list_any range_out_of_bounds rs ≡ false → list_any (range_is_high size) rs ≡ false
    → AllWritable size (map lookup_range rs)
writable size [] a b h = tt
writable size (r ∷ rs) a b h =
    let pa = or_parts (is_empty_range r) (list_any is_empty_range rs) a in
    let pb = or_parts (range_out_of_bounds r) (list_any range_out_of_bounds rs) b in
    let ph = or_parts (range_is_high size r) (list_any (range_is_high size) rs) h in
    let ends = or_parts (is_out_of_bounds r.begin) (is_out_of_bounds r.end) pb.0 in
    let begins = or_parts (nat_lt r.begin 1) (nat_lt (2 ^ 64 - 3) r.begin) ends.0 in
    let low = ltb-false r.begin 1 begins.0 in
    let high = or_parts (is_high size r.begin) (is_high size r.end) ph.0 in
    let end_high = leb-false (least_tombstone size) r.end high.1 in
    let some = leb-false r.end r.begin pa.0 in (
      record {
        not_from_0 = omega arith;
        not_empty = some;
        begins_low = leb-false (least_tombstone size) r.begin high.0;
        ends_low = omega arith;
      },
      writable size rs pa.1 pb.1 ph.1,
    )

-- ---- calls

number_low : (n : ℕ) → is_bad_number n ≡ false → n < 2 ^ 64
number_low n h = let high = ltb-false (2 ^ 32 - 1) n (or_parts (nat_lt n 1) (nat_lt (2 ^ 32 - 1) n) h).1 in omega arith

-- what no condition refuses of calls
record ArePlain (size files : ℕ) (cs : Calls) : Type 0 where
  empty : any_call (λ s. list_any is_empty_range s.ranges) cs ≡ false
  bounds : any_call (λ s. list_any range_out_of_bounds s.ranges) cs ≡ false
  fits_size : any_call (λ s. list_any (range_is_high size) s.ranges) cs ≡ false
  numbers : any_call (λ c. is_bad_number c.line || is_bad_number c.column) cs ≡ false
  files_are : any_call (λ c. nat_le files c.file) cs ≡ false
  texts : any_call (λ c. is_bad_text c.name) cs ≡ false

-- of one call, and of those in it and after it
record CallFacts (test : Site → Bool) (s : Site) (inner others : Calls) : Type 0 where
  here : test s ≡ false
  within : any_call test inner ≡ false
  after : any_call test others ≡ false

call_parts : (test : Site → Bool) (s : Site) (inner others : Calls) → any_call test (more_calls s inner others) ≡ false
    → CallFacts test s inner others
call_parts test s inner others h =
    let outer = or_parts (test s || any_call test inner) (any_call test others) h in
    let front = or_parts (test s) (any_call test inner) outer.0 in
    record { here = front.0; within = front.1; after = outer.1 }

calls_can : (size files : ℕ) (cs : Calls) → ArePlain size files cs → CanEmitCalls size files cs × AllCounted cs
unfolding CanEmitCalls AllCounted
calls_can size files no_calls plain = (tt, tt)
calls_can size files (more_calls s inner others) plain =
    let a = call_parts (λ s. list_any is_empty_range s.ranges) s inner others plain.empty in
    let b = call_parts (λ s. list_any range_out_of_bounds s.ranges) s inner others plain.bounds in
    let h = call_parts (λ s. list_any (range_is_high size) s.ranges) s inner others plain.fits_size in
    let c = call_parts (λ c. is_bad_number c.line || is_bad_number c.column) s inner others plain.numbers in
    let d = call_parts (λ c. nat_le files c.file) s inner others plain.files_are in
    let t = call_parts (λ c. is_bad_text c.name) s inner others plain.texts in
    let numbers = or_parts (is_bad_number s.line) (is_bad_number s.column) c.here in
    let file = leb-false files s.file d.here in
    let i =
    calls_can size files inner
    (record {
      empty = a.within;
      bounds = b.within;
      fits_size = h.within;
      numbers = c.within;
      files_are = d.within;
      texts = t.within;
    }) in
    let o =
    calls_can size files others
    (record {
      empty = a.after;
      bounds = b.after;
      fits_size = h.after;
      numbers = c.after;
      files_are = d.after;
      texts = t.after;
    }) in (
      ((text_is s.name t.here, writable size s.ranges a.here b.here h.here), file, i.0, o.0),
      (
        record { line = number_low s.line numbers.0; column = number_low s.column numbers.1 },
        i.1,
        o.1,
      ),
    )

-- ---- functions

-- what no condition refuses of functions
record FunctionsPlain (size files : ℕ) (fs : List FunctionPart) : Type 0 where
  empty : list_any (λ f. list_any is_empty_range f.ranges || any_call (λ s. list_any is_empty_range s.ranges) f.calls)
      fs ≡ false
  bounds : list_any (λ f. list_any range_out_of_bounds f.ranges
      || any_call (λ s. list_any range_out_of_bounds s.ranges) f.calls) fs ≡ false
  fits_size : list_any (λ f. list_any (range_is_high size) f.ranges
      || any_call (λ s. list_any (range_is_high size) s.ranges) f.calls) fs ≡ false
  numbers : list_any (λ f. any_call (λ c. is_bad_number c.line || is_bad_number c.column) f.calls) fs ≡ false
  files_are : list_any (λ f. any_call (λ c. nat_le files c.file) f.calls) fs ≡ false
  texts : list_any (λ f. is_bad_text f.name || any_call (λ c. is_bad_text c.name) f.calls) fs ≡ false

functions_can : (size files : ℕ) (fs : List FunctionPart) → FunctionsPlain size files fs
    → CanEmitFunctions size files fs × AllFunctionsCounted fs
unfolding AllFunctionsCounted
functions_can size files [] plain = (tt, tt)
functions_can size files (f ∷ fs) plain =
    let a =
    or_parts _ (list_any (λ f. list_any is_empty_range f.ranges
    || any_call (λ s. list_any is_empty_range s.ranges) f.calls) fs) plain.empty in
    let b =
    or_parts _ (list_any (λ f. list_any range_out_of_bounds f.ranges
    || any_call (λ s. list_any range_out_of_bounds s.ranges) f.calls) fs) plain.bounds in
    let h =
    or_parts _ (list_any (λ f. list_any (range_is_high size) f.ranges
    || any_call (λ s. list_any (range_is_high size) s.ranges) f.calls) fs) plain.fits_size in
    let c =
    or_parts _ (list_any (λ f. any_call (λ c. is_bad_number c.line || is_bad_number c.column) f.calls) fs)
    plain.numbers in
    let d = or_parts _ (list_any (λ f. any_call (λ c. nat_le files c.file) f.calls) fs) plain.files_are in
    let t =
    or_parts _ (list_any (λ f. is_bad_text f.name || any_call (λ c. is_bad_text c.name) f.calls) fs) plain.texts in
    let own_a =
    or_parts (list_any is_empty_range f.ranges) (any_call (λ s. list_any is_empty_range s.ranges) f.calls) a.0 in
    let own_b =
    or_parts (list_any range_out_of_bounds f.ranges) (any_call (λ s. list_any range_out_of_bounds s.ranges) f.calls)
    b.0 in
    let own_h =
    or_parts (list_any (range_is_high size) f.ranges) (any_call (λ s. list_any (range_is_high size) s.ranges) f.calls)
    h.0 in
    let own_t = or_parts (is_bad_text f.name) (any_call (λ c. is_bad_text c.name) f.calls) t.0 in
    let calls =
    calls_can size files f.calls
    (record {
      empty = own_a.1;
      bounds = own_b.1;
      fits_size = own_h.1;
      numbers = c.0;
      files_are = d.0;
      texts = own_t.1;
    }) in
    let others =
    functions_can size files fs
    (record { empty = a.1; bounds = b.1; fits_size = h.1; numbers = c.1; files_are = d.1; texts = t.1 }) in
    (((text_is f.name own_t.0, writable size f.ranges own_a.0 own_b.0 own_h.0), calls.0, others.0), (calls.1, others.1))

-- ---- files

files_can : (fs : List FilePart)
    → list_any (λ (f : FilePart). is_bad_text f.directory || is_bad_text f.name) fs ≡ false → AllTableTexts fs
unfolding AllTableTexts
files_can [] good = tt
files_can (f ∷ fs) good =
    let parts =
    or_parts (is_bad_text f.directory || is_bad_text f.name)
    (list_any (λ (f : FilePart). is_bad_text f.directory || is_bad_text f.name) fs) good in
    let own = or_parts (is_bad_text f.directory) (is_bad_text f.name) parts.0 in
    (entry_is f.directory own.0, entry_is f.name own.1, files_can fs parts.1)

-- ---- units

-- what is known of a unit of a sound table
pub record IsPlain (size : ℕ) (u : UnitPart) : Type 0 where
  pub empty : has_empty_range u ≡ false
  pub bounds : has_out_of_bounds u ≡ false
  pub fits_size : any_address (is_high size) u ≡ false
  pub numbers : has_bad_line_or_column u ≡ false
  pub files_are : has_bad_file_number u ≡ false
  pub texts : has_bad_text u ≡ false
  pub rooted : is_not_rooted u ≡ false

-- what can be emitted of it
pub record CanEmitUnitSequences (size : ℕ) (u : UnitPart) : Type 0 where
  pub can_emit : CanEmitUnit size u
  pub numbers_fit : AllFunctionsCounted u.functions
  pub table_texts : HasTableTexts u
  pub rooted : is_rooted u.directory ≡ true

pub plain_can_emit : (size : ℕ) (u : UnitPart) → length (inlined_names u) < 2 ^ 31 → IsPlain size u
    → CanEmitUnitSequences size u
plain_can_emit size u few_names plain =
    let empty = or_parts (list_any is_empty_range u.ranges) _ plain.empty in
    let bounds = or_parts _ (list_any sequence_out_of_bounds u.sequences) plain.bounds in
    let range_bounds = or_parts (list_any range_out_of_bounds u.ranges) _ bounds.0 in
    let low =
    or_parts _ (list_any (λ s. list_any (λ r. is_high size r.address) s.rows || is_high size s.end) u.sequences)
    plain.fits_size in
    let range_low = or_parts (list_any (range_is_high size) u.ranges) _ low.0 in
    let numbers =
    or_parts _ (list_any (λ f. any_call (λ c. is_bad_number c.line || is_bad_number c.column) f.calls) u.functions)
    plain.numbers in
    let files =
    or_parts _ (list_any (λ f. any_call (λ c. nat_le (length u.files) c.file) f.calls) u.functions)
    plain.files_are in
    let texts =
    or_parts _ (list_any (λ f. is_bad_text f.name || any_call (λ c. is_bad_text c.name) f.calls) u.functions)
    plain.texts in
    let own = or_parts _ (list_any (λ (f : FilePart). is_bad_text f.directory || is_bad_text f.name) u.files) texts.0 in
    let names = or_parts (is_bad_text u.directory) (is_bad_text u.name) own.0 in
    let functions =
    functions_can size (length u.files) u.functions
    (record {
      empty = empty.1;
      bounds = range_bounds.1;
      fits_size = range_low.1;
      numbers = numbers.1;
      files_are = files.1;
      texts = texts.1;
    }) in
    record {
      can_emit = (
        text_is u.directory names.0,
        (text_is u.name names.1, writable size u.ranges empty.0 range_bounds.0 range_low.0),
        functions.0,
        few_names,
      );
      numbers_fit = functions.1;
      table_texts = record {
        directory = entry_is u.directory names.0;
        name = entry_is u.name names.1;
        files = files_can u.files own.1;
      };
      rooted = not-false (is_rooted u.directory) plain.rooted;
    }

-- ---- a table

unfoldable pub AllPlain : ℕ → List UnitPart → Type 0
AllPlain size [] = Unit {0}
AllPlain size (u ∷ us) = IsPlain size u × AllPlain size us

all_plain : (size : ℕ) (us : List UnitPart) → list_any has_empty_range us ≡ false
    → list_any has_out_of_bounds us ≡ false → list_any (any_address (is_high size)) us ≡ false
    → list_any has_bad_line_or_column us ≡ false → list_any has_bad_file_number us ≡ false
    → list_any has_bad_text us ≡ false → list_any is_not_rooted us ≡ false → AllPlain size us
unfolding AllPlain
all_plain size [] a b h c d t r = tt
all_plain size (u ∷ us) a b h c d t r =
    let pr = or_parts (is_not_rooted u) (list_any is_not_rooted us) r in
    let ph = or_parts (any_address (is_high size) u) (list_any (any_address (is_high size)) us) h in
    let pa = or_parts (has_empty_range u) (list_any has_empty_range us) a in
    let pb = or_parts (has_out_of_bounds u) (list_any has_out_of_bounds us) b in
    let pc = or_parts (has_bad_line_or_column u) (list_any has_bad_line_or_column us) c in
    let pd = or_parts (has_bad_file_number u) (list_any has_bad_file_number us) d in
    let pt = or_parts (has_bad_text u) (list_any has_bad_text us) t in (
      record {
        empty = pa.0;
        bounds = pb.0;
        fits_size = ph.0;
        numbers = pc.0;
        files_are = pd.0;
        texts = pt.0;
        rooted = pr.0;
      },
      all_plain size us pa.1 pb.1 ph.1 pc.1 pd.1 pt.1 pr.1,
    )

pub sound_is_plain : (size : ℕ) (us : List UnitPart) → IsSound us → fits size us ≡ true → AllPlain size us
sound_is_plain size us sound fitting =
    all_plain size us (sound_rule us EmptyRange sound) (sound_rule us Bounds sound)
    (not-true (list_any (any_address (is_high size)) us) fitting) (sound_rule us LineOrColumn sound)
    (sound_rule us FileNumber sound) (sound_rule us Text sound)
    (sound_rule us NotRooted sound)
