-- Skipping bytes leaves what comes after some of them.
use Rattle.std.proofs.Common.{◌≡◌, ℕ, zero, suc, ◌+◌, ◌^◌, Bool, true, false, cond, eqb, List, [], ◌∷◌, length, Option, Some, None, Result, Ok, Err, refl, sym, ◌∙◌, arith}
use Rattle.std.specs.Prelude.{map}
use Rattle.gimli_core_abbrev.specs.Error.{Error}
use Rattle.gimli_core_abbrev.specs.View.{View, prefix}
use Rattle.gimli_core_abbrev.specs.Parsers.{branch, give, null_terminated, find_byte, text_to, ◌>>=◌}
use Rattle.gimli_core_abbrev.proofs.StepParts.{state_is, read}
use Rattle.gimli_core_abbrev.specs.Encoding.{Encoding}
use Rattle.gimli_core_abbrev.specs.Declarations.{Attribute}
use Rattle.gimli_core_abbrev.specs.Leb128.{leb_string, bounded_string}
use Rattle.gimli_core_abbrev.specs.NumberParsers.{unsigned_16, skip_leb, rest_after_string}
use Rattle.gimli_units_forms.specs.declared.spelling.Spelling.{Spelling}
use Rattle.gimli_units_forms.specs.declared.spelling.Spelling.TheVariants.{Address, Fixed, Sixteen, Block, LongBlock, Unsigned, Signed, Text, Indirect, Constant, Unknown}
use Rattle.gimli_units_forms.specs.FormSpellings.{spelling}
use Rattle.gimli_core_abbrev.specs.Places.{IsAfter}
use Rattle.gimli_units_forms.specs.AttributeReading.{form_within, final_form}
use Rattle.gimli_units_forms.specs.AttributeSkipping.{Way, by_width, by_look, look_of, plain_way, look_at_value, way_of, run, skip_ways, skip_values, skip_text}
use Rattle.gimli_core_abbrev.proofs.NumberReadSizes.{string_fits_in}
use Rattle.gimli_core_abbrev.proofs.PlaceLemmas.{Goes, Goes-onward, Goes-give, Goes-fail, Goes-fixed, Goes-unsigned, string_goes}
use Rattle.gimli_units_forms.specs.AttributeReading.{attributes}
use Rattle.gimli_units_forms.specs.AttributeValues.{RawAttribute}
use Rattle.gimli_units_forms.proofs.SkipAgreementLemmas.{skip_values-attributes}
use Rattle.gimli_units_forms.proofs.RunLemmas.{Runs-from_run, leaves, found-within}

-- a run leads to what comes after some bytes
pub IsAfter-run : (n : ℕ) (v w : View) → run n v ≡ leaves w → IsAfter v w
IsAfter-run n v w h =
    let r = Runs-from_run n v w h in record { count = n; within = r.there; rest = r.after_it }

-- ---- strings

Goes-unsigned_16 : Goes unsigned_16
unfolding unsigned_16
Goes-unsigned_16 = record { goes = λ v x w e. string_goes 3 (2 ^ 16) (bounded_string 3 v.bytes) v x w refl e }

goes_skip : (o : Option (List ℕ)) (v : View) (x : Unit {0}) (w : View) → leb_string v.bytes ≡ o
    → rest_after_string v o ≡ read x w → IsAfter v w
goes_skip None v x w f e = absurd cc
goes_skip (Some s) v x w f e =
    record { count = length s; within = (string_fits_in v.bytes s f).fits; rest = state_is tt x _ _ e }

Goes-skip : Goes skip_leb
unfolding skip_leb
Goes-skip = record { goes = λ v x w e. goes_skip (leb_string v.bytes) v x w refl e }

goes_text : (r : Result ℕ Error) (v : View) (x w : View) → find_byte 0 v ≡ r → text_to r v ≡ read x w → IsAfter v w
goes_text (Ok n) v x w f e =
    record {
      count = n + 1;
      within = omega (arith, found-within n v f);
      rest = state_is (prefix n v) x _ _ e;
    }
goes_text (Err d) v x w f e = absurd cc

Goes-null_terminated : Goes null_terminated
Goes-null_terminated = record { goes = λ v x w e. goes_text (find_byte 0 v) v x w refl e }

-- ---- forms

Goes-form_within : (n form : ℕ) → Goes (form_within n form)
unfolding form_within
Goes-form_within zero form = Goes-give form
Goes-form_within (suc n) form =
    by_test (eqb form 0x16) (Goes-onward unsigned_16 (form_within n) Goes-unsigned_16 (λ x. Goes-form_within n x))
  where
    by_test : (t : Bool) → Goes (unsigned_16 >>= form_within n)
        → Goes (branch t (unsigned_16 >>= form_within n) (give form))
    by_test true k = k
    by_test false k = Goes-give form

pub Goes-final_form : (form : ℕ) → Goes (final_form form)
unfolding final_form
Goes-final_form form = record { goes = λ v x w e. (Goes-form_within (suc (length v.bytes)) form).goes v x w e }

pub Goes-plain_way : (e : Encoding) (form : ℕ) (s : Spelling) → Goes (look_of (plain_way e form s))
Goes-plain_way e form Address = Goes-give e.address_size
Goes-plain_way e form (Fixed width) = Goes-give width
Goes-plain_way e form Sixteen = Goes-give 16
Goes-plain_way e form (Block width) = Goes-fixed width
Goes-plain_way e form LongBlock = Goes-unsigned
Goes-plain_way e form Unsigned = Goes-onward skip_leb (λ _. give 0) Goes-skip (λ _. Goes-give 0)
Goes-plain_way e form Signed = Goes-onward skip_leb (λ _. give 0) Goes-skip (λ _. Goes-give 0)
Goes-plain_way e form Text =
    Goes-onward skip_text (λ _. give 0)
    (Goes-onward null_terminated (λ _. give tt) Goes-null_terminated (λ _. Goes-give tt)) (λ _. Goes-give 0)
Goes-plain_way e form Constant = Goes-give 0
Goes-plain_way e form Indirect = Goes-fail _
Goes-plain_way e form Unknown = Goes-fail _

Goes-look_at_value : (e : Encoding) (form : ℕ) → Goes (look_at_value e form)
unfolding look_at_value
Goes-look_at_value e form =
    Goes-onward (final_form form) (λ final. look_of (plain_way e final (spelling e final))) (Goes-final_form form)
    (λ final. Goes-plain_way e final (spelling e final))

pub Goes-way_of : (e : Encoding) (form : ℕ) → Goes (look_of (way_of e form))
unfolding way_of
Goes-way_of e form = by_test (eqb form 0x16)
  where
    by_test : (t : Bool) → Goes (look_of (cond t (by_look (look_at_value e form)) (plain_way e form (spelling e form))))
    by_test true = Goes-look_at_value e form
    by_test false = Goes-plain_way e form (spelling e form)

-- ---- attributes

Goes-run : (n : ℕ) → Goes (run n)
Goes-run n = record { goes = λ v x w e. IsAfter-run n v w e }

goes_along : (n : ℕ) (way : Way) (ways : List Way) → Goes (look_of way) → ((m : ℕ) → Goes (skip_ways m ways))
    → Goes (skip_ways n (way ∷ ways))
unfolding skip_ways
goes_along n (by_width m) ways h k = k (n + m)
goes_along n (by_look look) ways h k =
    Goes-onward (run n) (λ _. look >>= λ more. skip_ways more ways) (Goes-run n)
    (λ _. Goes-onward look (λ more. skip_ways more ways) h k)

Goes-skip_ways : (e : Encoding) (ss : List Attribute) (n : ℕ) → Goes (skip_ways n (map (λ s. way_of e s.form) ss))
unfolding skip_ways
Goes-skip_ways e [] n = Goes-run n
Goes-skip_ways e (s ∷ ss) n =
    goes_along n (way_of e s.form) (map (λ s'. way_of e s'.form) ss) (Goes-way_of e s.form) (λ m. Goes-skip_ways e ss m)

-- what is left after attributes comes after some of the bytes
pub skip_values-after : (e : Encoding) (ss : List Attribute) (v w : View) → skip_values e ss v ≡ leaves w → IsAfter v w
unfolding skip_values
skip_values-after e ss v w h = (Goes-skip_ways e ss 0).goes v tt w h

-- what can be read isn't refused when skipped
pub read_values_are_skipped : (limit : ℕ) (e : Encoding) (ss : List Attribute) (all : List RawAttribute) (v rest : View)
    (fault : Error)
    → attributes limit e ss v ≡ Ok (all, rest) → skip_values e ss v ≡ Err fault → ⊥
read_values_are_skipped limit e ss all v rest fault h k = let p = skip_values-attributes limit e ss v rest all h in cc

-- and leaves the same
pub skip_leaves_as_read : (limit : ℕ) (e : Encoding) (ss : List Attribute) (all : List RawAttribute) (v w rest : View)
    → attributes limit e ss v ≡ Ok (all, rest) → skip_values e ss v ≡ leaves w → w ≡ rest
skip_leaves_as_read limit e ss all v w rest h k =
    state_is tt tt w rest (sym k ∙ skip_values-attributes limit e ss v rest all h)
