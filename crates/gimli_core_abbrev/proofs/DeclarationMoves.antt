-- What a read leaves comes after some of the bytes.
use Rattle.std.proofs.Common.{◌≡◌, ℕ, zero, suc, ◌+◌, ◌≤◌, Bool, true, false, cond, List, [], ◌∷◌, length, Option, Some, None, Result, Ok, Err, refl, ap, subst, ◌∙◌, inl, inr, arith, length-drop}
use Rattle.std.specs.Prelude.{◌^◌}
use Rattle.std.proofs.lemmas.Bool.{cases_lt, lt-ltb, le-ltb}
use Rattle.gimli_core_readers.specs.Error.{Error}
use Rattle.gimli_core_readers.specs.Error.TheVariants.{BadUnsignedLeb128, BadSignedLeb128}
use Rattle.gimli_core_readers.specs.View.{View, bytes_left, after}
use Rattle.gimli_core_readers.specs.Parsers.{Step, proceed}
use Rattle.gimli_core_readers.specs.Repetition.{items_within, listing_in, next_item, item_or_end, whole_of}
use Rattle.gimli_core_readers.specs.Fault.{Fault}
use Rattle.gimli_core_readers.specs.Leb128.{unsigned_at, signed_at}
use Rattle.gimli_core_readers.specs.NumberParsers.{fixed, number_and_rest, unsigned, unsigned_16, signed}
use Rattle.gimli_core_readers.proofs.StepParts.{begins, state_is}
use Rattle.gimli_core_readers.proofs.ViewCuts.{after-after}
use Rattle.gimli_core_abbrev.specs.Declarations.{Attribute, Declaration}
use Rattle.gimli_core_abbrev.specs.TableParsing.{implicit_const, attribute_of, attribute, attributes, children, declaration_of, coded_declaration, unless_ended, declaration}
use Rattle.gimli_core_readers.proofs.LebStringFits.{signed_fits}
use Rattle.gimli_core_abbrev.proofs.AppendedBytes.{unsigned_fits}

-- w is what is left of v after some bytes
pub record IsPart (v w : View) : Type 0 where
  pub count : ℕ
  pub within : count ≤ bytes_left v
  pub rest : w ≡ after count v

-- a value leaves a part of v
record Moves {A : Type 0} (v : View) (r : Result (A × View) Error) : Type 0 where
  to : (x : A) (w : View) → r ≡ Ok (x, w) → IsPart v w

abbrev starting_at : View → ℕ → View
starting_at v n = record { bytes = v.bytes; is_big = v.is_big; first = n }

IsPart-self : (v : View) → IsPart v v
IsPart-self v = record {
  count = 0;
  within = omega arith;
  rest = ap (starting_at v) (let same : v.first ≡ v.first + 0 = omega arith in same);
}

pub IsPart-IsPart : (u v w : View) → IsPart u v → IsPart v w → IsPart u w
IsPart-IsPart u v w a b =
    let left = ap bytes_left a.rest in
    record {
      count = a.count + b.count;
      within = omega (arith, a.within, b.within, left, length-drop a.count u.bytes);
      rest = b.rest ∙ ap (after b.count) a.rest ∙ after-after b.count a.count u;
    }

-- ---- answers

Moves-Ok : {A : Type 0} {v : View} {x : A} {w : View} → IsPart v w → Moves v (Ok (x, w))
Moves-Ok {A} {v} {x} {w} h = record { to = λ y t e. subst (λ (u : View). IsPart v u) (state_is x y w t e) h }

Moves-Err : {A : Type 0} {v : View} {e : Error} → Moves {A = A} v (Err e)
Moves-Err = record { to = λ y t e. absurd cc }

Moves-proceed : {A B : Type 0} {v : View} {r : Result (A × View) Error} {f : A → Step View B}
    → Moves v r → ((x : A) (w : View) → IsPart v w → Moves v (f x w)) → Moves v (proceed r f)
Moves-proceed {r = r} {f = f} h k =
    record { to = λ y t e. let b = begins r f y t e in (k b.0 b.1 (h.to b.0 b.1 b.2)).to y t b.3 }

Moves-cond : {A : Type 0} {v : View} (b : Bool) {p q : Result (A × View) Error} → Moves v p → Moves v q
    → Moves v (cond b p q)
Moves-cond {v = v} b {p = p} {q = q} h k = elim b as (λ c. Moves v (cond c p q)) [ true ↦ h | false ↦ k ]

-- ---- numbers

Moves-fixed : {u : View} (n : ℕ) (v : View) → IsPart u v → Moves u (fixed n v)
unfolding fixed
Moves-fixed {u} n v h = elim (cases_lt (length v.bytes) n) [
  | inl short ↦ rw (lt-ltb (length v.bytes) n short) Moves-Err
  | inr long ↦ rw (le-ltb (length v.bytes) n long)
      (Moves-Ok (IsPart-IsPart u v (after n v) h (record { count = n; within = long; rest = refl })))
]

abbrev number : {A : Type 0} → A → ℕ → Result (A × ℕ) Fault
number x k = Ok (x, k)

Moves-number : {A : Type 0} (u v : View) (bad : Error) (r : Result (A × ℕ) Fault)
    → ((x : A) (k : ℕ) → r ≡ number x k → k ≤ length v.bytes) → IsPart u v → Moves u (number_and_rest bad v r)
Moves-number u v bad (Ok p) fits h =
    Moves-Ok (IsPart-IsPart u v (after p.1 v) h (record { count = p.1; within = fits p.0 p.1 refl; rest = refl }))
Moves-number u v bad (Err fault) fits h = Moves-Err

Moves-unsigned : {u : View} (v : View) → IsPart u v → Moves u (unsigned v)
unfolding unsigned
Moves-unsigned {u} v h =
    Moves-number u v BadUnsignedLeb128 (unsigned_at 10 (2 ^ 64) v.bytes) (unsigned_fits (2 ^ 64) 10 v.bytes) h

Moves-unsigned_16 : {u : View} (v : View) → IsPart u v → Moves u (unsigned_16 v)
unfolding unsigned_16
Moves-unsigned_16 {u} v h =
    Moves-number u v BadUnsignedLeb128 (unsigned_at 3 (2 ^ 16) v.bytes) (unsigned_fits (2 ^ 16) 3 v.bytes) h

Moves-signed : {u : View} (v : View) → IsPart u v → Moves u (signed v)
unfolding signed
Moves-signed {u} v h = Moves-number u v BadSignedLeb128 (signed_at v.bytes) (signed_fits v.bytes) h

ruleset moves = (
  Moves-Ok,
  Moves-Err,
  Moves-proceed,
  Moves-cond,
  Moves-fixed,
  Moves-unsigned,
  Moves-unsigned_16,
  Moves-signed,
)

-- ---- attributes

attribute_of-moves : {u : View} (name form : ℕ) (v : View) → IsPart u v → Moves u (attribute_of name form v)
unfolding attribute_of implicit_const
attribute_of-moves {u} name form v h = search moves depth 40

attribute-moves : {u : View} (v : View) → IsPart u v → Moves u (attribute v)
unfolding attribute
attribute-moves {u} v h = search (moves, attribute_of-moves) depth 40

abbrev well : View → Result View Error
well w = Ok w

ok_is : (v w : View) → well v ≡ well w → v ≡ w
ok_is v w e = cc

items_move : (k : ℕ) (u v w : View) → IsPart u v → (items_within k attribute v).ending ≡ Ok w → IsPart u w
unfolding items_within
items_move zero u v w h e = subst (λ (t : View). IsPart u t) (ok_is v w e) h
items_move (suc k) u v w h e = by_step (attribute v) refl e (λ t. items_move k u t w)
  where
    by_step : (r : Result (Option Attribute × View) Error) → attribute v ≡ r
        → (next_item r (items_within k attribute)).ending ≡ Ok w
        → ((t : View) → IsPart u t → (items_within k attribute t).ending ≡ Ok w → IsPart u w) → IsPart u w
    by_step (Err d) q f again = absurd cc
    by_step (Ok r) q f again = by_item r.0 ((attribute-moves v h).to r.0 r.1 q) f
      where
        by_item : (o : Option Attribute) → IsPart u r.1
            → (item_or_end o r.1 (items_within k attribute)).ending ≡ Ok w → IsPart u w
        by_item None part g = subst (λ (t : View). IsPart u t) (ok_is r.1 w g) part
        by_item (Some x) part g = again r.1 part g

listing_moves : (u v w : View) → IsPart u v → (listing_in bytes_left attribute v).ending ≡ Ok w → IsPart u w
unfolding listing_in
listing_moves u v w h e = items_move (suc (bytes_left v)) u v w h e

attributes-move : {u : View} (v : View) → IsPart u v → Moves u (attributes v)
unfolding attributes
attributes-move {u} v h = by_end (listing_in bytes_left attribute v).ending refl
  where
    by_end : (r : Result View Error) → (listing_in bytes_left attribute v).ending ≡ r
        → Moves u (whole_of (listing_in bytes_left attribute v).items r)
    by_end (Ok w) e = Moves-Ok (listing_moves u v w h e)
    by_end (Err d) e = Moves-Err

-- ---- declarations

children-moves : {u : View} (v : View) → IsPart u v → Moves u (children v)
unfolding children
children-moves {u} v h = search moves depth 40

declaration_of-moves : {u : View} (code : ℕ) (v : View) → IsPart u v → Moves u (declaration_of code v)
unfolding declaration_of
declaration_of-moves {u} code v h = search (moves, children-moves, attributes-move) depth 40

coded-moves : {u : View} (v : View) → IsPart u v → Moves u (coded_declaration v)
unfolding coded_declaration
coded-moves {u} v h = search (moves, declaration_of-moves) depth 40

unless_ended-moves : (bytes : List ℕ) (u v : View) → IsPart u v → Moves u (unless_ended bytes coded_declaration v)
unless_ended-moves [] u v h = Moves-Ok h
unless_ended-moves (b ∷ bytes) u v h = coded-moves v h

declaration-moves : (u v : View) → IsPart u v → Moves u (declaration v)
unfolding declaration
declaration-moves u v h = unless_ended-moves v.bytes u v h

pub declaration_leaves : (v : View) (o : Option Declaration) (w : View) → declaration v ≡ Ok (o, w) → IsPart v w
declaration_leaves v o w e = (declaration-moves v v (IsPart-self v)).to o w e
