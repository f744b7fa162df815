-- The notes of a section, one after the other.
use Rattle.std.proofs.Common.{◌≡◌, ℕ, ◌<◌, ◌≤◌, Bool, true, false, cond, eqb, length, Option, Some, None, option_map, Result, Ok, Err, min, ap, ◌∙◌, arith}
use Rattle.std.specs.List.{find}
use Rattle.gimli_core_readers.specs.Error.{Error}
use Rattle.gimli_core_readers.specs.View.{View, bytes_left}
use Rattle.gimli_core_readers.specs.Parsers.{proceed, give}
use Rattle.gimli_core_readers.specs.Repetition.{Listing, until_end, listing_in, next_item}
use Rattle.gimli_core_readers.proofs.StepSizes.{Below, AtMost-Ok, AtMost-proceed, Below-proceed, Below-lt, AtMost-part, AtMost-skip, SomeBelow-until_end, drop_at_most}
use Rattle.gimli_core_readers.proofs.NumberReadSizes.{AtMost-fixed, Below-fixed}
use Rattle.gimli_core_readers.proofs.Listings.{Shrinks, listing_next}
use Rattle.addr2line_debug_files.specs.declared.notes.Note.{Note}
use Rattle.addr2line_debug_files.specs.Notes.{padding, note, notes_of, is_build_id, first_build_id}

-- a note takes some bytes
pub Below-note : {n : ℕ} (v : View) → bytes_left v ≤ n → Below bytes_left n (note v)
unfolding note
Below-note {n} v h =
    Below-proceed (Below-fixed 4 v (omega arith) h) (λ name_size s lt. Below-lt {m = bytes_left s}
    (AtMost-proceed (AtMost-fixed 4 s (omega arith)) (λ descriptor_size s2 l2.
    AtMost-proceed (AtMost-fixed 4 s2 l2) (λ note_type s3 l3.
    AtMost-proceed (AtMost-part name_size s3 l3) (λ name s4 l4.
    AtMost-proceed (AtMost-skip (padding name_size) s4 l4) (λ name_padding s5 l5.
    AtMost-proceed (AtMost-part descriptor_size s5 l5) (λ descriptor s6 l6.
    AtMost-Ok (drop_at_most (min (padding descriptor_size) (length s6.bytes)) s6.bytes l6))))))) lt)

notes_shrink : Shrinks bytes_left (until_end note)
notes_shrink = record { smaller = λ v n h. SomeBelow-until_end v (λ w k. Below-note w k) h }

-- the rest after a note is shorter
pub note-shorter : (v w : View) (n : Note) → note v ≡ Ok (n, w) → length w.bytes < length v.bytes
note-shorter v w n is = (Below-note {n = length v.bytes} v (omega arith)).left n w is

-- ---- the first build identifier

abbrev first_of : Listing View Note → Option View
first_of notes = option_map (λ n. n.descriptor) (find is_build_id notes.items)

abbrev Read : Type 0
Read = Result (Option Note × View) Error

abbrev nothing : View → Read
nothing v = Ok (None, v)

abbrev as_item : Result (Note × View) Error → Read
as_item r = proceed r (λ x. give (Some x))

-- by what is next
by_next : (v : View) (r : Read) → until_end note v ≡ r
    → first_build_id v ≡ first_of (next_item r (listing_in bytes_left (until_end note)))
by_next v r is =
    ap first_of
    (listing_next notes_shrink v ∙ ap (λ (x : Read). next_item x (listing_in bytes_left (until_end note))) is)

next_is : (v : View) (r : Result (Note × View) Error) → eqb (length v.bytes) 0 ≡ false → note v ≡ r
    → until_end note v ≡ as_item r
next_is v r some is = ap (λ (b : Bool). cond b (nothing v) (as_item (note v))) some ∙ ap as_item is

-- there are no more notes
pub no_note : (v : View) → eqb (length v.bytes) 0 ≡ true → first_build_id v ≡ None
no_note v none = by_next v (nothing v) (ap (λ (b : Bool). cond b (nothing v) (as_item (note v))) none)

-- the next note is cut off
pub cut_note : (v : View) (e : Error) → eqb (length v.bytes) 0 ≡ false → note v ≡ Err e → first_build_id v ≡ None
cut_note v e some is = by_next v (Err e) (next_is v (Err e) some is)

-- the next note has a build identifier
pub identifying_note : (v w : View) (n : Note) → eqb (length v.bytes) 0 ≡ false → note v ≡ Ok (n, w)
    → is_build_id n ≡ true → first_build_id v ≡ Some n.descriptor
identifying_note v w n some is here =
    by_next v (Ok (Some n, w)) (next_is v (Ok (n, w)) some is)
    ∙ ap (λ (b : Bool). option_map (λ (m : Note). m.descriptor) (cond b (Some n) (find is_build_id (notes_of w)))) here

-- the next note has none
pub other_note : (v w : View) (n : Note) → eqb (length v.bytes) 0 ≡ false → note v ≡ Ok (n, w)
    → is_build_id n ≡ false → first_build_id v ≡ first_build_id w
other_note v w n some is not =
    by_next v (Ok (Some n, w)) (next_is v (Ok (n, w)) some is)
    ∙ ap (λ (b : Bool). option_map (λ (m : Note). m.descriptor) (cond b (Some n) (find is_build_id (notes_of w)))) not
