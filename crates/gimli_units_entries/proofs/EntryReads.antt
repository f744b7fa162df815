-- What is read of a walk's bytes after some of them.
use Rattle.std.proofs.Common.{◌≡◌, ◌≢◌, ℕ, ◌≤◌, List, Result, Ok, Err, sym, ap, ◌∙◌, arith, length-drop}
use Rattle.std.specs.Result.{IsErrAnd}
use Rattle.gimli_core_base.specs.declared.error.Error.{Error}
use Rattle.gimli_core_base.specs.declared.error.Error.TheVariants.{Memory}
use Rattle.gimli_core_base.specs.Calls.{ReadsAsOrNoMemory}
use Rattle.gimli_core_base.specs.View.{View, after, bytes_left}
use Rattle.gimli_core_base.specs.Parsers.{Parser}
use Rattle.gimli_core_base.proofs.StepParts.{read}
use Rattle.gimli_units_forms.specs.Declarations.{Attribute}
use Rattle.gimli_units_forms.specs.AttributeValues.{RawAttribute}
use Rattle.gimli_units_forms.specs.AttributeReading as forms
use Rattle.gimli_units_forms.specs.Places.{IsAfter}
use Rattle.gimli_units_forms.proofs.PlaceLemmas.{after-zero}
use Rattle.gimli_units_entries.specs.EntryWalks.{Walk, walk_with_rest, values, read_in_walk}

-- attributes that are read from the walk's place on
pub values-read : (limit : ℕ) (w w' : Walk) (ss : List Attribute) (n : ℕ) (found : List RawAttribute) (t : View)
    → w ≡ w' → forms.attributes limit w.encoding ss (after 0 w.rest) ≡ Ok (found, after n w.rest) → t ≡ after n w.rest
    → values limit ss w' ≡ Ok (found, walk_with_rest t w)
unfolding values
values-read limit w w' ss n found t same h e =
    ap (values limit ss) (sym same)
    ∙ ap (read_in_walk w)
    (ap (forms.attributes limit w.encoding ss) (sym (after-zero w.rest)) ∙ h ∙ ap (λ (v : View). read found v) (sym e))

pub values-fault : (limit : ℕ) (w w' : Walk) (ss : List Attribute) (d : Error) → w ≡ w'
    → forms.attributes limit w.encoding ss (after 0 w.rest) ≡ Err d → values limit ss w' ≡ Err d
unfolding values
values-fault limit w w' ss d same h =
    ap (values limit ss) (sym same)
    ∙ ap (read_in_walk w) (ap (forms.attributes limit w.encoding ss) (sym (after-zero w.rest)) ∙ h)

-- ---- places after some bytes

-- a place that was moved is in the reader
pub moves_after : (n : ℕ) (u v w : View) → n ≤ bytes_left u → v ≡ u → w ≡ after n v → IsAfter u w
moves_after n u v w h e m = record { count = n; within = h; rest = ap (after n) (sym e) ∙ sym m }

-- what is left further on comes after no fewer bytes
pub no_less : (n k : ℕ) (u b v w : View) → k ≤ bytes_left u → n ≤ bytes_left u → b ≡ u → v ≡ after k b
    → after n u ≡ w → bytes_left w ≤ bytes_left v → k ≤ n
no_less n k u b v w hk hn eb ev ew le =
    let lb = ap bytes_left eb in
    let lv = ap bytes_left ev in
    let lw = ap bytes_left ew in
    omega (arith, le, lb, lv, lw, length-drop k b.bytes, length-drop n u.bytes)

-- what is read at such a place
pub read_at : {A : Type 0} (p : Parser A) (x : A) (k n : ℕ) (u b v w : View) → b ≡ u → v ≡ after k b → after n u ≡ w
    → p v ≡ Ok (x, w) → p (after k u) ≡ Ok (x, after n u)
read_at p x k n u b v w eb ev ew h =
    ap p (ap (after k) (sym eb) ∙ sym ev) ∙ h ∙ ap (λ (t : View). read x t) (sym ew)

pub refused_at : {A : Type 0} (p : Parser A) (d : Error) (k : ℕ) (u b v : View) → b ≡ u → v ≡ after k b → p v ≡ Err d
    → p (after k u) ≡ Err d
refused_at p d k u b v eb ev h = ap p (ap (after k) (sym eb) ∙ sym ev) ∙ h

-- fewer bytes are left after some
pub after_fewer : (n : ℕ) (v w : View) → w ≡ after n v → bytes_left w ≤ bytes_left v
after_fewer n v w e = let left = ap bytes_left e in omega (arith, left, length-drop n v.bytes)

abbrev refusal : {A : Type 0} → Error → Result A Error
refusal d = Err d

-- a refusal is handed on, and nothing has moved
pub reads_refused : {A B S : Type 0} (see : A → B) (r : Result A Error) (old new : S) (meaning : Result (B × S) Error)
    (d : Error) → IsErrAnd r (λ e. e ≡ d) → (d ≢ Memory → meaning ≡ Err d) → new ≡ old
    → ReadsAsOrNoMemory see r old new meaning
reads_refused see (Ok x) old new meaning d h k same = absurd h
reads_refused see (Err e) old new meaning d h k same =
    (λ ne. k (λ is. ne (h ∙ is)) ∙ ap refusal (sym h), same)
