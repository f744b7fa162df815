-- Attributes that a loop reads, some of them in runs of two bytes each.
use Rattle.std.proofs.Common.{◌≡◌, ℕ, suc, ◌+◌, ◌*◌, ◌<◌, List, [], ◌∷◌, ◌++◌, length, drop, get_or, Option, Some, Result, Ok, sym, ap, subst, ◌∙◌, arith, append_assoc, add-one}
use Rattle.std.proofs.Math.Seq.{drop-cons}
use Rattle.gimli_core_readers.specs.Error.{Error}
use Rattle.gimli_core_readers.specs.View.{View, bytes_left, after}
use Rattle.gimli_core_readers.specs.Repetition.{Listing, prepend, listing_in}
use Rattle.gimli_core_readers.proofs.ViewCuts.{after-after}
use Rattle.gimli_core_readers.proofs.Listings.{listing_item}
use Rattle.gimli_core_abbrev.specs.declared.abbreviation.AttributeSpecification.{AttributeSpecification}
use Rattle.gimli_core_abbrev.specs.Declarations.{Attribute}
use Rattle.gimli_core_abbrev.specs.AbbreviationViews.{attribute_view, added, added_view, Extends}
use Rattle.gimli_core_abbrev.specs.TableParsing.{attribute, IsShortAttribute}
use Rattle.gimli_core_abbrev.proofs.DeclarationSizes.{attributes-shrink}
use Rattle.gimli_core_abbrev.proofs.AddedAttributes.{extends_none, extends_further, view_none, view_further, view_more}

abbrev Specifications : Type 0
Specifications = List AttributeSpecification

abbrev pub listing_of : View → Listing View Attribute
listing_of v = listing_in bytes_left attribute v

-- ---- a loop that began at v, and has appended what comes before s to a list

pub record ReadSoFar (old now : Specifications) (v s : View) : Type 0 where
  pub extends : Extends old now
  pub listing : prepend (added_view old now) (listing_of s) ≡ listing_of v

-- nothing yet
pub read_none : (old : Specifications) (v : View) → ReadSoFar old old v v
read_none old v =
    let none = view_none old in
    record {
      extends = extends_none old;
      listing = ap (λ (xs : List Attribute). prepend xs (listing_of v)) none;
    }

-- one more
pub read_item : (old now new : Specifications) (a : AttributeSpecification) (v s t : View) → ReadSoFar old now v s
    → new ≡ now ++ a ∷ [] → attribute s ≡ Ok (Some (attribute_view a), t) → ReadSoFar old new v t
read_item old now new a v s t was pushed item =
    let more = view_further old now new a was.extends pushed in
    record {
      extends = extends_further old now (a ∷ []) new was.extends pushed;
      listing =
          ap (λ (xs : List Attribute). prepend xs (listing_of t)) more
          ∙ sym (listing_item attributes-shrink (added_view old now) (attribute_view a) s t item) ∙ was.listing;
    }

-- ---- runs

-- n attributes of two bytes each come first, wherever the bytes are
abbrev pub IsRun : List ℕ → ℕ → List Attribute → Type 0
IsRun bytes n found = (v : View) → v.bytes ≡ bytes → listing_of v ≡ prepend found (listing_of (after (2 * n) v))

-- the attribute in the two bytes at a place
pub short_at : (bytes : List ℕ) (i : ℕ) (found : Option Attribute) → i + 1 < length bytes
    → ((rest : List ℕ) → IsShortAttribute (get_or bytes i 0 ∷ get_or bytes (i + 1) 0 ∷ rest) found)
    → IsShortAttribute (drop i bytes) found
short_at bytes i found within short =
    let rest = drop (suc (suc i)) bytes in
    let cut : drop i bytes ≡ get_or bytes i 0 ∷ get_or bytes (i + 1) 0 ∷ rest = drop-cons bytes i 0 (omega arith)
    ∙ ap (λ (xs : List ℕ). get_or bytes i 0 ∷ xs) (drop-cons bytes (suc i) 0 (omega arith))
    ∙ ap (λ (k : ℕ). get_or bytes i 0 ∷ get_or bytes k 0 ∷ rest) (sym (add-one i)) in
    subst (λ (xs : List ℕ). IsShortAttribute xs found) (sym cut) (short rest)

abbrev ok_item : Attribute → View → Result (Option Attribute × View) Error
ok_item a v = Ok (Some a, v)

-- one more
pub run_more : (bytes : List ℕ) (n : ℕ) (old now new : Specifications) (a : AttributeSpecification)
    → Extends old now → IsRun bytes n (added_view old now) → new ≡ now ++ a ∷ []
    → IsShortAttribute (drop (2 * n) bytes) (Some (attribute_view a)) → IsRun bytes (n + 1) (added_view old new)
run_more bytes n old now new a extends run pushed short = λ v e.
    let twice : 2 * n + 2 ≡ 2 * (n + 1) = omega arith in
    let place : after 2 (after (2 * n) v) ≡ after (2 * (n + 1)) v = after-after 2 (2 * n) v
    ∙ ap (λ (k : ℕ). after k v) twice in
    let item : attribute (after (2 * n) v) ≡ ok_item (attribute_view a) (after (2 * (n + 1)) v) =
    short.1 (after (2 * n) v) (ap (drop (2 * n)) e) ∙ ap (ok_item (attribute_view a)) place in
    sym (read_item old now new a v (after (2 * n) v) (after (2 * (n + 1)) v)
    (record { extends = extends; listing = sym (run v e) }) pushed item).listing

abbrev before_ending : Listing View Attribute → List Attribute → Listing View Attribute
before_ending l xs = record { items = xs; ending = l.ending }

-- a run after what was read before it
pub read_run : (old now new : Specifications) (n : ℕ) (bytes : List ℕ) (v s t : View) → ReadSoFar old now v s
    → Extends now new → IsRun bytes n (added_view now new) → bytes ≡ s.bytes → t ≡ after (2 * n) s
    → ReadSoFar old new v t
read_run old now new n bytes v s t was more run same place =
    let rest = listing_of (after (2 * n) s) in
    let items = view_more old now new was.extends more in
    record {
      extends = extends_further old now (added now new) new was.extends more;
      listing =
          ap (λ (u : View). prepend (added_view old new) (listing_of u)) place
          ∙ ap (λ (xs : List Attribute). prepend xs rest) items
          ∙ ap (before_ending rest) (append_assoc (added_view old now) (added_view now new) rest.items)
          ∙ ap (λ (l : Listing View Attribute). prepend (added_view old now) l) (sym (run s (sym same))) ∙ was.listing;
    }
