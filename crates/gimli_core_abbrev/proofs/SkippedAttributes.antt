-- The attributes of a declaration, when only what comes after them counts.
use Rattle.std.proofs.Common.{◌≡◌, ℕ, ◌+◌, ◌*◌, ◌<◌, List, [], drop, true, false, is_some, option_map, Option, Some, None, Result, Ok, Err, sym, ap, ◌∙◌, arith, length-drop}
use Rattle.gimli_core_readers.specs.Error.{Error}
use Rattle.gimli_core_readers.specs.View.{View, bytes_left, after}
use Rattle.gimli_core_readers.specs.Parsers.{proceed, give, map_value}
use Rattle.gimli_core_readers.specs.Repetition.{Listing, listing_in, whole_of}
use Rattle.gimli_core_readers.proofs.ViewCuts.{after-after}
use Rattle.gimli_core_readers.proofs.Listings.{listing_item, listing_end, listing_fault}
use Rattle.gimli_core_abbrev.specs.Declarations.{Attribute}
use Rattle.gimli_core_abbrev.specs.AbbreviationViews.{nothing}
use Rattle.gimli_core_abbrev.specs.TableParsing.{attribute, attributes, IsShortAttribute}
use Rattle.gimli_core_abbrev.proofs.DeclarationSizes.{attributes-shrink}

abbrev pub ending_from : View → Result View Error
ending_from v = (listing_in bytes_left attribute v).ending

abbrev ending_of : Listing View Attribute → Result View Error
ending_of l = l.ending

pub ending_after : (v w u : View) (a : Attribute) → ending_from w ≡ ending_from v → attribute w ≡ Ok (Some a, u)
    → ending_from u ≡ ending_from v
ending_after v w u a same item = sym (ap ending_of (listing_item attributes-shrink [] a w u item)) ∙ same

abbrev without_items : {A : Type 0} → Result (A × View) Error → Result (Unit {0} × View) Error
without_items r = proceed r (λ x. give (nothing x))

pub skipped_to : (v w u : View) → ending_from w ≡ ending_from v → attribute w ≡ Ok (None, u)
    → map_value nothing attributes v ≡ Ok (tt, u)
unfolding attributes
skipped_to v w u same end =
    let is : ending_from v ≡ Ok u = sym same ∙ ap ending_of (listing_end attributes-shrink w u end) in
    ap (λ (r : Result View Error). without_items (whole_of (listing_in bytes_left attribute v).items r)) is

pub skip_refused : (v w : View) (e : Error) → ending_from w ≡ ending_from v → attribute w ≡ Err e
    → map_value nothing attributes v ≡ Err e
unfolding attributes
skip_refused v w e same fault =
    let is : ending_from v ≡ Err e = sym same ∙ ap ending_of (listing_fault attributes-shrink w e fault) in
    ap (λ (r : Result View Error). without_items (whole_of (listing_in bytes_left attribute v).items r)) is

pub item_there : {X : Type 0} (see : X → Attribute) (o : Option X) (v w : View) → is_some o ≡ true
    → attribute v ≡ Ok (option_map see o, w) → (a : Attribute) × (attribute v ≡ Ok (Some a, w))
item_there see None v w there e = absurd cc
item_there see (Some x) v w there e = (see x, e)

pub none_there : {X : Type 0} (see : X → Attribute) (o : Option X) (v w : View) → is_some o ≡ false
    → attribute v ≡ Ok (option_map see o, w) → attribute v ≡ Ok (None, w)
none_there see None v w there e = e
none_there see (Some x) v w there e = absurd cc

-- ---- runs of attributes of two bytes each

-- after n of them comes what ends all
abbrev pub EndsAfter : List ℕ → ℕ → Type 0
EndsAfter bytes n = (v : View) → v.bytes ≡ bytes → ending_from (after (2 * n) v) ≡ ending_from v

abbrev ok_item : Attribute → View → Result (Option Attribute × View) Error
ok_item a v = Ok (Some a, v)

pub ends_further : (bytes : List ℕ) (n : ℕ) (a : Attribute) → EndsAfter bytes n
    → IsShortAttribute (drop (2 * n) bytes) (Some a) → EndsAfter bytes (n + 1)
ends_further bytes n a run short = λ v e.
    let twice : 2 * n + 2 ≡ 2 * (n + 1) = omega arith in
    let place : after 2 (after (2 * n) v) ≡ after (2 * (n + 1)) v = after-after 2 (2 * n) v
    ∙ ap (λ (k : ℕ). after k v) twice in
    let item : attribute (after (2 * n) v) ≡ ok_item a (after (2 * (n + 1)) v) =
    short.1 (after (2 * n) v) (ap (drop (2 * n)) e) ∙ ap (ok_item a) place in
    ending_after v (after (2 * n) v) (after (2 * (n + 1)) v) a (run v e) item

-- a run after what was skipped before it
pub ending_run : (v w u : View) (n : ℕ) (bytes : List ℕ) → ending_from w ≡ ending_from v → EndsAfter bytes n
    → bytes ≡ w.bytes → u ≡ after (2 * n) w → ending_from u ≡ ending_from v
ending_run v w u n bytes was run same place = ap ending_from place ∙ run w (sym same) ∙ was

-- what is smaller than the rest after a run is smaller than what was there before it
pub run_smaller : (w u x : View) (n : ℕ) → u ≡ after (2 * n) w → bytes_left x < bytes_left u
    → bytes_left x < bytes_left w
run_smaller w u x n place below =
    let cut = ap (λ (v : View). bytes_left v) place in omega (arith, below, cut, length-drop (2 * n) w.bytes)
