-- Each attribute and each declaration takes some of the bytes.
use Rattle.std.proofs.Common.{◌≡◌, ℕ, ◌≤◌, ◌<◌, arith, List, [], ◌∷◌, Option, Some, None, zero, suc, Result, Ok, Err, refl}
use Rattle.gimli_core_readers.specs.Error.{Error}
use Rattle.gimli_core_readers.specs.View.{View, bytes_left}
use Rattle.gimli_core_readers.specs.Parsers.{Step}
use Rattle.gimli_core_readers.specs.Repetition.{items_within, listing_in, next_item, item_or_end, whole_of}
use Rattle.gimli_core_readers.proofs.StepSizes.{Below, AtMost, SomeBelow, SomeBelow-None, Below-lt, AtMost-Ok, AtMost-Err, sizes}
use Rattle.gimli_core_readers.proofs.Listings.{Shrinks}
use Rattle.gimli_core_readers.proofs.NumberReadSizes.{number_sizes}
use Rattle.gimli_core_abbrev.specs.TableParsing.{implicit_const, attribute_of, attribute, attributes, children, declaration_of, coded_declaration, unless_ended, declaration}

pub implicit_const-leaves : (form : ℕ) (v : View) (n : ℕ) → bytes_left v < n
    → Below bytes_left n (implicit_const form v)
unfolding implicit_const
implicit_const-leaves form v n h = search (arith, sizes, number_sizes) depth 40

pub attribute_of-takes : (name form : ℕ) (v : View) (n : ℕ) → bytes_left v < n
    → SomeBelow bytes_left n (attribute_of name form v)
unfolding attribute_of
attribute_of-takes name form v n h = search (arith, sizes, number_sizes, implicit_const-leaves) depth 40

pub attributes-shrink : Shrinks bytes_left attribute
unfolding attribute
attributes-shrink = record { smaller = λ v n h. search (arith, sizes, number_sizes, attribute_of-takes) depth 40 }

abbrev well : View → Result View Error
well w = Ok w

ok_is : (v w : View) → well v ≡ well w → v ≡ w
ok_is v w e = cc

-- what a listing leaves where it ends well
listed_leaves : {A : Type 0} (p : Step View (Option A))
    → ((v : View) (n : ℕ) → bytes_left v ≤ n → AtMost bytes_left n (p v)) → (k : ℕ) (v w : View) (n : ℕ)
    → bytes_left v ≤ n → (items_within k p v).ending ≡ Ok w → bytes_left w ≤ n
unfolding items_within
listed_leaves p leaves zero v w n h e = rw (← (ok_is v w e)) h
listed_leaves {A} p leaves (suc k) v w n h e = by_step (p v) refl e (λ t. listed_leaves p leaves k t w n)
  where
    by_step : (r : Result (Option A × View) Error) → p v ≡ r → (next_item r (items_within k p)).ending ≡ Ok w
        → ((t : View) → bytes_left t ≤ n → (items_within k p t).ending ≡ Ok w → bytes_left w ≤ n) → bytes_left w ≤ n
    by_step (Err d) q f again = absurd cc
    by_step (Ok r) q f again = by_item r.0 ((leaves v n h).left r.0 r.1 q) f
      where
        by_item : (o : Option A) → bytes_left r.1 ≤ n → (item_or_end o r.1 (items_within k p)).ending ≡ Ok w
            → bytes_left w ≤ n
        by_item None le g = rw (← (ok_is r.1 w g)) le
        by_item (Some x) le g = again r.1 le g

pub attribute-leaves : (v : View) (n : ℕ) → bytes_left v ≤ n → AtMost bytes_left n (attribute v)
unfolding attribute attribute_of implicit_const
attribute-leaves v n h = search (arith, sizes, number_sizes) depth 40

listing_leaves : (v w : View) (n : ℕ) → bytes_left v ≤ n → (listing_in bytes_left attribute v).ending ≡ Ok w
    → bytes_left w ≤ n
unfolding listing_in
listing_leaves v w n h e = listed_leaves attribute attribute-leaves (suc (bytes_left v)) v w n h e

pub attributes-leave : (v : View) (n : ℕ) → bytes_left v ≤ n → AtMost bytes_left n (attributes v)
unfolding attributes
attributes-leave v n h = by_end (listing_in bytes_left attribute v).ending refl
  where
    by_end : (r : Result View Error) → (listing_in bytes_left attribute v).ending ≡ r
        → AtMost bytes_left n (whole_of (listing_in bytes_left attribute v).items r)
    by_end (Ok w) e = AtMost-Ok (listing_leaves v w n h e)
    by_end (Err d) e = AtMost-Err

attributes-below : (v : View) (n : ℕ) → bytes_left v < n → Below bytes_left n (attributes v)
attributes-below v n h = Below-lt (attributes-leave v (bytes_left v) (omega arith)) h

children-below : (v : View) (n : ℕ) → bytes_left v < n → Below bytes_left n (children v)
unfolding children
children-below v n h = search (arith, sizes, number_sizes) depth 40

pub declaration_of-leaves : (code : ℕ) (v : View) (n : ℕ) → bytes_left v ≤ n
    → Below bytes_left n (declaration_of code v)
unfolding declaration_of
declaration_of-leaves code v n h = search (arith, sizes, number_sizes, children-below, attributes-below) depth 40

declaration_of-below : (code : ℕ) (v : View) (n : ℕ) → bytes_left v < n → Below bytes_left n (declaration_of code v)
declaration_of-below code v n h = declaration_of-leaves code v n (omega arith)

pub coded-shrinks : (v : View) (n : ℕ) → bytes_left v ≤ n → SomeBelow bytes_left n (coded_declaration v)
unfolding coded_declaration
coded-shrinks v n h = search (arith, sizes, number_sizes, declaration_of-below) depth 40

unless_ended-shrinks : (bytes : List ℕ) (v : View) (n : ℕ) → bytes_left v ≤ n
    → SomeBelow bytes_left n (unless_ended bytes coded_declaration v)
unless_ended-shrinks [] v n h = SomeBelow-None
unless_ended-shrinks (b ∷ bytes) v n h = coded-shrinks v n h

pub declarations-shrink : Shrinks bytes_left declaration
unfolding declaration
declarations-shrink = record { smaller = λ v n h. unless_ended-shrinks v.bytes v n h }
