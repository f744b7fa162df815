-- What bytes after a section change of a table that is in it.
use Rattle.std.proofs.Common.{◌≡◌, ◌≢◌, ◌⊎◌, ℕ, zero, suc, ◌+◌, ◌<◌, ◌≤◌, Bool, true, false, cond, eqb, subst, List, [], ◌∷◌, ◌++◌, length, Option, Some, None, Result, Ok, Err, refl, sym, ap, ◌∙◌, inl, inr, arith, append_assoc, append-nil}
use Rattle.std.specs.Prelude.{◌^◌, IsOk, IsErr, is_ok}
use Rattle.std.specs.Result.{is_err}
use Rattle.std.proofs.lemmas.Bool.{cases_lt, lt-ltb, le-ltb}
use Rattle.std.proofs.lemmas.List.{length-append}
use Rattle.gimli_core_readers.specs.ReaderOffsetId.{ReaderOffsetId}
use Rattle.gimli_core_readers.specs.Error.{Error}
use Rattle.gimli_core_readers.specs.Error.TheVariants.{UnexpectedEof, BadUnsignedLeb128, DuplicateAbbreviationCode}
use Rattle.gimli_core_readers.specs.View.{View, bytes_left, after, unexpected_end}
use Rattle.gimli_core_readers.specs.Parsers.{◌>>=◌, proceed, give, branch, value_of}
use Rattle.gimli_core_readers.specs.Repetition.{Listing, no_items, prepend, next_item, item_or_end, listing_in, whole_of}
use Rattle.gimli_core_readers.proofs.Listings.{Shrinks, listing_next, item_smaller}
use Rattle.gimli_core_readers.specs.Leb128.{unsigned_at}
use Rattle.gimli_core_readers.specs.NumberParsers.{number_and_rest, unsigned}
use Rattle.gimli_core_abbrev.specs.Declarations.{Declaration, declaration_at, has_code, by_code, repeated_after, repeated_code}
use Rattle.gimli_core_abbrev.specs.TableParsing.{implicit_const, attribute_of, attribute, attributes, children, declaration_of, coded_declaration, unless_ended, declaration, distinct, table, table_at}
use Rattle.gimli_core_abbrev.specs.TableLaws.{with_more_bytes, table_to_0_at, IsEndedBySection}
use Rattle.gimli_core_abbrev.proofs.DeclarationSizes.{attributes-shrink, coded-shrinks, declarations-shrink}
use Rattle.gimli_core_abbrev.proofs.TableCollection.{found_by_code}
use Rattle.gimli_core_abbrev.proofs.AppendedBytes.{NotCut, Stays, Stays-whole, stays, listing-stays, ending_with, listing_with, after-more}

-- ---- a declaration

implicit_const-stays : {more : List ℕ} (form : ℕ) (v : View)
    → Stays more (implicit_const form v) (implicit_const form (with_more_bytes more v))
unfolding implicit_const
implicit_const-stays {more} form v = search stays depth 40

attribute_of-stays : {more : List ℕ} (name form : ℕ) (v : View)
    → Stays more (attribute_of name form v) (attribute_of name form (with_more_bytes more v))
unfolding attribute_of
attribute_of-stays {more} name form v = search (stays, implicit_const-stays) depth 40

attribute-stays : {more : List ℕ} (v : View) → Stays more (attribute v) (attribute (with_more_bytes more v))
unfolding attribute
attribute-stays {more} v = search (stays, attribute_of-stays) depth 40

attributes-stays : {more : List ℕ} (v : View) → Stays more (attributes v) (attributes (with_more_bytes more v))
unfolding attributes
attributes-stays {more} v =
    Stays-whole (listing_in bytes_left attribute v) (listing_in bytes_left attribute (with_more_bytes more v))
    (listing-stays more attributes-shrink attribute-stays (suc (bytes_left v)) v (omega arith))

children-stays : {more : List ℕ} (v : View) → Stays more (children v) (children (with_more_bytes more v))
unfolding children
children-stays {more} v = search stays depth 40

declaration_of-stays : {more : List ℕ} (code : ℕ) (v : View)
    → Stays more (declaration_of code v) (declaration_of code (with_more_bytes more v))
unfolding declaration_of
declaration_of-stays {more} code v = search (stays, children-stays, attributes-stays) depth 40

coded-stays : {more : List ℕ} (v : View) → Stays more (coded_declaration v) (coded_declaration (with_more_bytes more v))
unfolding coded_declaration
coded-stays {more} v = search (stays, declaration_of-stays) depth 40

-- ---- declarations laid end to end

codes-shrink : Shrinks bytes_left coded_declaration
codes-shrink = record { smaller = λ v n h. coded-shrinks v n h }

-- What further bytes make (m) of the declarations that were there (l), beside those that the code 0 alone ends (c):
-- they stay; or a read was cut; or the end ended them, as a code 0 does.
pub data Becomes (more : List ℕ) (l m c : Listing View Declaration) : Type 0 where
  was_whole : NotCut l.ending → c ≡ l → m ≡ listing_with more l → Becomes more l m c
  was_cut : (id : ReaderOffsetId) (rest : List Declaration) → l.ending ≡ Err (UnexpectedEof id) → c ≡ l
      → m.items ≡ l.items ++ rest → Becomes more l m c
  was_ended : (id : ReaderOffsetId) (w : View) (rest : List Declaration) → l.ending ≡ Ok w
      → c ≡ record { items = l.items; ending = Err (UnexpectedEof id) } → m.items ≡ l.items ++ rest
      → ((tail : List ℕ) → more ≡ 0 ∷ tail → (rest ≡ []) × ((u : View) × (m.ending ≡ Ok u))) → Becomes more l m c

Becomes-prepend : {more : List ℕ} {l m c : Listing View Declaration} (ds : List Declaration) → Becomes more l m c
    → Becomes more (prepend ds l) (prepend ds m) (prepend ds c)
Becomes-prepend ds (was_whole uncut same is) = was_whole uncut (ap (prepend ds) same) (ap (prepend ds) is)
Becomes-prepend {l = l} ds (was_cut id rest cut same is) =
    was_cut id rest cut (ap (prepend ds) same)
    (ap (λ (xs : List Declaration). ds ++ xs) is ∙ sym (append_assoc ds l.items rest))
Becomes-prepend {l = l} ds (was_ended id w rest end same is zero_ends) =
    was_ended id w rest end (ap (prepend ds) same)
    (ap (λ (xs : List Declaration). ds ++ xs) is ∙ sym (append_assoc ds l.items rest)) zero_ends

along : {more : List ℕ} {l l' m m' c c' : Listing View Declaration} → l ≡ l' → m ≡ m' → c ≡ c' → Becomes more l' m' c'
    → Becomes more l m c
along {more} {l} {l'} {m} {m'} {c} {c'} e f g b =
    subst (λ (x : Listing View Declaration). Becomes more x m c) (sym e)
    (subst (λ (x : Listing View Declaration). Becomes more l' x c) (sym f)
    (subst (λ (x : Listing View Declaration). Becomes more l' m' x) (sym g) b))

-- a fault is that of a read that met the end, or another
which : (e : Error) → ((id : ReaderOffsetId) × (e ≡ UnexpectedEof id)) ⊎ ((id : ReaderOffsetId) → e ≢ UnexpectedEof id)
which (UnexpectedEof id) = inl (id, refl)
which _ = inr (λ id is. cc)

abbrev Step : Type 0
Step = Result (Option Declaration × View) Error

abbrev step_of : Option Declaration → View → Step
step_of o v = Ok (o, v)

abbrev fault : Error → Step
fault e = Err e

abbrev stops : Result View Error → Listing View Declaration
stops r = no_items r

abbrev faulty : Error → Result View Error
faulty e = Err e

fault_is : (d e : Error) → fault d ≡ fault e → d ≡ e
fault_is d e h = cc

faulty_is : (d e : Error) → faulty d ≡ faulty e → d ≡ e
faulty_is d e h = cc

-- the declarations from here on, up to a code 0 or the end; and up to a code 0
abbrev pub all : View → Listing View Declaration
all v = listing_in bytes_left declaration v

abbrev pub coded_list : View → Listing View Declaration
coded_list v = listing_in bytes_left coded_declaration v

-- what follows the number that is read
abbrev after_code : ℕ → View → Step
after_code code = branch (eqb code 0) (give None) (declaration_of code >>= λ declaration. give (Some declaration))

-- no byte is left
coded-empty : (v : View) → v.bytes ≡ [] → coded_declaration v
    ≡ fault (UnexpectedEof (record { 0 = v.first + length v.bytes }))
unfolding coded_declaration unsigned
coded-empty v none =
    ap (λ (bs : List ℕ). proceed (number_and_rest BadUnsignedLeb128 v (unsigned_at 10 (2 ^ 64) bs)) after_code) none

-- the next byte is a code 0
coded-zero : (v : View) (tail : List ℕ) → v.bytes ≡ 0 ∷ tail → coded_declaration v ≡ step_of None (after 1 v)
unfolding coded_declaration unsigned
coded-zero v tail is =
    ap (λ (bs : List ℕ). proceed (number_and_rest BadUnsignedLeb128 v (unsigned_at 10 (2 ^ 64) bs)) after_code) is

zero_or_end : (bytes : List ℕ) (v : View) (tail : List ℕ) → bytes ≡ 0 ∷ tail → v.bytes ≡ 0 ∷ tail
    → unless_ended bytes coded_declaration v ≡ step_of None (after 1 v)
zero_or_end bytes v tail is holds =
    ap (λ (bs : List ℕ). unless_ended bs coded_declaration v) is ∙ coded-zero v tail holds

at_end : (more : List ℕ) (v : View) → v.bytes ≡ []
    → Becomes more (stops (Ok v)) (next_item (unless_ended more coded_declaration (with_more_bytes more v)) all)
    (next_item (coded_declaration v) coded_list)
at_end more v none =
    was_ended (record { 0 = v.first + length v.bytes }) v
    (next_item (unless_ended more coded_declaration (with_more_bytes more v)) all).items
    refl (ap (λ (r : Step). next_item r coded_list) (coded-empty v none)) refl zero_ends
  where
    zero_ends : (tail : List ℕ) → more ≡ 0 ∷ tail
        → ((next_item (unless_ended more coded_declaration (with_more_bytes more v)) all).items ≡ [])
        × ((u : View) × ((next_item (unless_ended more coded_declaration (with_more_bytes more v)) all).ending ≡ Ok u))
    zero_ends tail is =
        let holds : v.bytes ++ more ≡ 0 ∷ tail = ap (λ (bs : List ℕ). bs ++ more) none ∙ is in
        let same : next_item (unless_ended more coded_declaration (with_more_bytes more v)) all
        ≡ stops (Ok (after 1 (with_more_bytes more v))) =
        ap (λ (r : Step). next_item r all) (zero_or_end more (with_more_bytes more v) tail is holds) in (
          ap (λ (l : Listing View Declaration). l.items) same,
          (after 1 (with_more_bytes more v), ap (λ (l : Listing View Declaration). l.ending) same),
        )

coded_step : (more : List ℕ) (v : View)
    → ((t : View) → bytes_left t < bytes_left v → Becomes more (all t) (all (with_more_bytes more t)) (coded_list t))
    → (r s : Step) → coded_declaration v ≡ r → Stays more r s
    → Becomes more (next_item r all) (next_item s all) (next_item r coded_list)
coded_step more v again (Err d) s is st = elim (which d) [
  | inl cut ↦ was_cut cut.0 (next_item s all).items (ap faulty cut.1) refl refl
  | inr other ↦
      let same : s ≡ fault d = st.same (λ id e. other id (fault_is d (UnexpectedEof id) e)) in
      was_whole (λ id e. other id (faulty_is d (UnexpectedEof id) e)) refl (ap (λ (r : Step). next_item r all) same)
]
coded_step more v again (Ok r) s is st =
    let same : s ≡ step_of r.0 (with_more_bytes more r.1) = st.same (λ id e. cc) in
    subst (λ (t : Step). Becomes more (item_or_end r.0 r.1 all) (next_item t all) (item_or_end r.0 r.1 coded_list))
    (sym same) (by_item r.0 refl)
  where
    by_item : (o : Option Declaration) → r.0 ≡ o
        → Becomes more (item_or_end o r.1 all) (item_or_end o (with_more_bytes more r.1) all)
        (item_or_end o r.1 coded_list)
    by_item None e = was_whole (λ id h. cc) refl refl
    by_item (Some x) e =
        let lt : bytes_left r.1 < bytes_left v = item_smaller codes-shrink v x r.1
        (is ∙ ap (λ (o : Option Declaration). step_of o r.1) e) in
        Becomes-prepend (x ∷ []) (again r.1 lt)

by_step : (more : List ℕ) (v : View)
    → ((t : View) → bytes_left t < bytes_left v → Becomes more (all t) (all (with_more_bytes more t)) (coded_list t))
    → (bytes : List ℕ) → v.bytes ≡ bytes
    → Becomes more (next_item (unless_ended bytes coded_declaration v) all)
    (next_item (unless_ended (bytes ++ more) coded_declaration (with_more_bytes more v)) all)
    (next_item (coded_declaration v) coded_list)
by_step more v again [] none = at_end more v none
by_step more v again (b ∷ bytes) is =
    coded_step more v again (coded_declaration v) (coded_declaration (with_more_bytes more v)) refl (coded-stays v)

pub becomes : (more : List ℕ) (n : ℕ) (v : View) → bytes_left v < n
    → Becomes more (all v) (all (with_more_bytes more v)) (coded_list v)
unfolding declaration
becomes more zero v few = absurd (omega arith)
becomes more (suc n) v few =
    along (listing_next declarations-shrink v) (listing_next declarations-shrink (with_more_bytes more v))
    (listing_next codes-shrink v)
    (by_step more v (λ t lt. becomes more n t (omega arith)) v.bytes refl)

-- ---- the answer

abbrev good : List Declaration → Result (List Declaration) Error
good ds = Ok ds

abbrev bad : Error → Result (List Declaration) Error
bad e = Err e

abbrev answer_at_end : Option ℕ → List Declaration → Result View Error → Result (List Declaration) Error
answer_at_end twice ds r = value_of (distinct twice (proceed (whole_of ds r) (λ xs. give (by_code xs))))

abbrev answer : Listing View Declaration → Result (List Declaration) Error
answer l = answer_at_end (repeated_code l.items) l.items l.ending

answered-more : (more : List ℕ) (twice : Option ℕ) (ds : List Declaration) (r : Result View Error)
    → answer_at_end twice ds (ending_with more r) ≡ answer_at_end twice ds r
answered-more more (Some code) ds r = refl
answered-more more None ds (Ok w) = refl
answered-more more None ds (Err e) = refl

is_repeated : (l : Listing View Declaration) (code : ℕ) → repeated_code l.items ≡ Some code
    → answer l ≡ Err (DuplicateAbbreviationCode code)
is_repeated l code e = ap (λ (o : Option ℕ). answer_at_end o l.items l.ending) e

is_refused : (l : Listing View Declaration) (d : Error) → repeated_code l.items ≡ None → l.ending ≡ Err d
    → answer l ≡ Err d
is_refused l d e f =
    ap (λ (o : Option ℕ). answer_at_end o l.items l.ending) e
    ∙ ap (λ (r : Result View Error). answer_at_end None l.items r) f

is_read : (l : Listing View Declaration) (w : View) → repeated_code l.items ≡ None → l.ending ≡ Ok w
    → answer l ≡ Ok (by_code l.items)
is_read l w e f =
    ap (λ (o : Option ℕ). answer_at_end o l.items l.ending) e
    ∙ ap (λ (r : Result View Error). answer_at_end None l.items r) f

-- the first code that occurs twice is the same, whatever follows
repeated-append : (before ds rest : List Declaration) (code : ℕ) → repeated_after before ds ≡ Some code
    → repeated_after before (ds ++ rest) ≡ Some code
repeated-append before [] rest code e = absurd cc
repeated-append before (d ∷ ds) rest code e =
    cases (has_code d.code before) (repeated-append (d ∷ before) ds rest code) e
  where
    cases : (b : Bool) → (repeated_after (d ∷ before) ds ≡ Some code → repeated_after (d ∷ before) (ds ++ rest) ≡ Some
        code)
        → cond b (Some d.code) (repeated_after (d ∷ before) ds) ≡ Some code
        → cond b (Some d.code) (repeated_after (d ∷ before) (ds ++ rest)) ≡ Some code
    cases true again h = h
    cases false again h = again h

-- and so is the answer
repeated_stays : (l m : Listing View Declaration) (rest : List Declaration) (code : ℕ) → m.items ≡ l.items ++ rest
    → repeated_code l.items ≡ Some code → answer m ≡ answer l
repeated_stays l m rest code is e =
    is_repeated m code (ap repeated_code is ∙ repeated-append [] l.items rest code e) ∙ sym (is_repeated l code e)

stays_answered : (more : List ℕ) (l m c : Listing View Declaration) → Becomes more l m c → NotCut (answer l)
    → ¬ (IsOk (answer l) × IsErr (answer c)) → answer m ≡ answer l
stays_answered more l m c (was_whole uncut same is) not_cut zero_there =
    ap answer is ∙ answered-more more (repeated_code l.items) l.items l.ending
stays_answered more l m c (was_cut id rest cut same is) not_cut zero_there = cases (repeated_code l.items) refl
  where
    cases : (o : Option ℕ) → repeated_code l.items ≡ o → answer m ≡ answer l
    cases (Some code) e = repeated_stays l m rest code is e
    cases None e = absurd (not_cut id (is_refused l (UnexpectedEof id) e cut))
stays_answered more l m c (was_ended id w rest end same is zero_ends) not_cut zero_there =
    cases (repeated_code l.items) refl
  where
    cases : (o : Option ℕ) → repeated_code l.items ≡ o → answer m ≡ answer l
    cases (Some code) e = repeated_stays l m rest code is e
    cases None e = absurd (zero_there (
      ap is_ok (is_read l w e end),
      ap is_err
          (ap answer same ∙ ap (λ (o : Option ℕ). answer_at_end o l.items (Err (UnexpectedEof id))) e),
    ))

zero_answered : (tail : List ℕ) (l m c : Listing View Declaration) → Becomes (0 ∷ tail) l m c → IsOk (answer l)
    → answer m ≡ answer l
zero_answered tail l m c (was_whole uncut same is) ok =
    ap answer is ∙ answered-more (0 ∷ tail) (repeated_code l.items) l.items l.ending
zero_answered tail l m c (was_cut id rest cut same is) ok = cases (repeated_code l.items) refl
  where
    cases : (o : Option ℕ) → repeated_code l.items ≡ o → answer m ≡ answer l
    cases (Some code) e = repeated_stays l m rest code is e
    cases None e = absurd (let no : is_ok (answer l) ≡ false = ap is_ok (is_refused l (UnexpectedEof id) e cut) in cc)
zero_answered tail l m c (was_ended id w rest end same is zero_ends) ok = cases (repeated_code l.items) refl
  where
    cases : (o : Option ℕ) → repeated_code l.items ≡ o → answer m ≡ answer l
    cases (Some code) e = repeated_stays l m rest code is e
    cases None e =
        let unexpected_end = zero_ends tail refl in
        let items : m.items ≡ l.items = is ∙ ap (λ (xs : List Declaration). l.items ++ xs) unexpected_end.0
        ∙ append-nil l.items in
        is_read m unexpected_end.1.0 (ap repeated_code items ∙ e) unexpected_end.1.1
        ∙ ap (λ (xs : List Declaration). good (by_code xs)) items ∙ sym (is_read l w e end)

-- ---- the table at an offset

table_at-is : (offset : ℕ) (section : View) → offset ≤ length section.bytes
    → table_at offset section ≡ answer (all (after offset section))
unfolding table
table_at-is offset section fits = rw (le-ltb (length section.bytes) offset fits) refl

table_to_0_at-is : (offset : ℕ) (section : View) → offset ≤ length section.bytes
    → table_to_0_at offset section ≡ answer (coded_list (after offset section))
table_to_0_at-is offset section fits = rw (le-ltb (length section.bytes) offset fits) refl

table_at-beyond : (offset : ℕ) (section : View) → length section.bytes < offset
    → table_at offset section ≡ Err (unexpected_end section)
table_at-beyond offset section beyond = rw (lt-ltb (length section.bytes) offset beyond) refl

-- the same with bytes after it
table_at-more : (offset : ℕ) (section : View) (more : List ℕ) → offset ≤ length section.bytes
    → table_at offset (with_more_bytes more section) ≡ answer (all (with_more_bytes more (after offset section)))
table_at-more offset section more fits =
    table_at-is offset (with_more_bytes more section) (omega (arith, fits, length-append section.bytes more))
    ∙ ap (λ (v : View). answer (all v)) (after-more offset section more fits)

becomes_at : (more : List ℕ) (v : View) → Becomes more (all v) (all (with_more_bytes more v)) (coded_list v)
becomes_at more v = becomes more (suc (bytes_left v)) v (omega arith)

pub answers_stay : (offset : ℕ) (section : View) (more : List ℕ) → NotCut (table_at offset section)
    → ¬ IsEndedBySection offset section → table_at offset (with_more_bytes more section) ≡ table_at offset section
answers_stay offset section more uncut zero_there = elim (cases_lt (length section.bytes) offset) [
  | inl beyond ↦ absurd (uncut (record { 0 = section.first }) (table_at-beyond offset section beyond))
  | inr fits ↦
      let w = after offset section in
      let at = table_at-is offset section fits in
      let to_0 = table_to_0_at-is offset section fits in
      table_at-more offset section more fits
      ∙ stays_answered more (all w) (all (with_more_bytes more w)) (coded_list w) (becomes_at more w)
      (λ id e. uncut id (at ∙ e)) (λ both. zero_there (ap is_ok at ∙ both.0, ap is_err to_0 ∙ both.1))
      ∙ sym at
]

pub ends_as_code_0 : (offset : ℕ) (section : View) (more : List ℕ) → IsEndedBySection offset section
    → table_at offset (with_more_bytes (0 ∷ more) section) ≡ table_at offset section
ends_as_code_0 offset section more ended_there = elim (cases_lt (length section.bytes) offset) [
  | inl beyond ↦ absurd (let no : is_ok (table_at offset section) ≡ false = ap is_ok
      (table_at-beyond offset section beyond) in let yes_ok : is_ok (table_at offset section)
      ≡ true = ended_there.0 in cc)
  | inr fits ↦
      let w = after offset section in
      let at = table_at-is offset section fits in
      table_at-more offset section (0 ∷ more) fits
      ∙ zero_answered more (all w) (all (with_more_bytes (0 ∷ more) w)) (coded_list w) (becomes_at (0 ∷ more) w)
      (sym (ap is_ok at) ∙ ended_there.0)
      ∙ sym at
]

-- ---- what a code finds

found_in : (code : ℕ) (l : Listing View Declaration) (ds : List Declaration) → answer l ≡ Ok ds
    → declaration_at code ds ≡ declaration_at code l.items
found_in code l ds made = cases (repeated_code l.items) l.ending refl made
  where
    table_is : (x y : List Declaration) → good x ≡ good y → x ≡ y
    table_is x y e = cc

    cases : (o : Option ℕ) (r : Result View Error) → repeated_code l.items ≡ o → answer_at_end o l.items r ≡ good ds
        → declaration_at code ds ≡ declaration_at code l.items
    cases (Some c) r e h = absurd cc
    cases None (Err d) e h = absurd cc
    cases None (Ok w) e h = ap (declaration_at code) (sym (table_is (by_code l.items) ds h))
        ∙ found_by_code code l.items e

pub finds_in_byte_order : (offset code : ℕ) (section : View) (ds : List Declaration) → table_at offset section ≡ Ok ds
    → declaration_at code ds ≡ declaration_at code (all (after offset section)).items
finds_in_byte_order offset code section ds made = elim (cases_lt (length section.bytes) offset) [
  | inl beyond ↦ absurd (let both : good ds ≡ bad (unexpected_end section) = sym made ∙ table_at-beyond offset section
      beyond in cc)
  | inr fits ↦ found_in code (all (after offset section)) ds (sym (table_at-is offset section fits) ∙ made)
]
