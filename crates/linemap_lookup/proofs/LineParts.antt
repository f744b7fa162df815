-- Parts of a line, one after the other.
use Rattle.std.proofs.Common.{◌≡◌, ◌≢◌, ◌∙◌, ℕ, ◌+◌, ◌-◌, ◌<◌, ◌≤◌, Bool, true, false, List, [], ◌∷◌, ◌++◌, All, length, take, Option, None, Some, IfSome, cond, refl, sym, ap, subst, arith, eq-eqb, get_or, true≢false, take_all, length-take-le, append-nil, Result, Ok, Err}
use Rattle.std.specs.Prelude.{◌==◌, ◌||◌, ◌&&◌, nat_lt, OnOk}
use Rattle.std.proofs.lemmas.Bool.{lt-ltb}
use Rattle.std.proofs.lemmas.List.Quantifiers.{position-Some}
use Rattle.std.proofs.lemmas.List.Sums.{fails_before_first}
use Rattle.std.proofs.lemmas.List.{get_or-take, nil_from_length}
use Rattle.std.proofs.lemmas.List.Elements.{All-more}
use Rattle.std.proofs.Math.Seq.{take-length}
use Rattle.std.proofs.Transfers.{StopsAt-append, StopsAt-of_All, StopsAt-take}
use Rattle.std.proofs.KnownBytes.{Consumes-kept, Consumes-nil, Consumes-trans}
use Rattle.std.proofs.BufReadLemmas.{Consumes_shown, zero_unless_positive}
use Rattle.std.proofs.lemmas.Grind.{common_steps}
use Rattle.std.specs.List.{position, position_or_len}
use Rattle.std.specs.Io.{StartsWith, StopsAt}
use Rattle.std.specs.Io.BufRead.{DropsConsumable, ends_with_byte}
use Rattle.std.specs.Io.KnownBytes.{Consumes, Keeps}
use Rattle.linemap_lookup.specs.LineReads.{AppendsPart, IsPartOfLine, IsWholeInput, is_whole, line_feed}
use Rattle.linemap_lookup.specs.declared.lines.LineBuffer.{LineBuffer}

pub other : (x : ℕ) → (x == line_feed) ≡ false → x ≢ line_feed
other x not is = true≢false (sym (eq-eqb x line_feed is) ∙ not)

-- ---- the first part of a line

prefix_is : (bytes : List ℕ) (n : ℕ) → n ≤ length bytes → take n bytes ≡ take (length (take n bytes)) bytes
prefix_is bytes n le = ap (λ k. take k bytes) (sym (length-take-le n bytes le))

pub part_to : (bytes : List ℕ) (i : ℕ) → position (λ b. b == line_feed) bytes ≡ Some i
    → IsPartOfLine bytes (take (i + 1) bytes)
part_to bytes i is =
    let found = position-Some (λ b. b == line_feed) bytes i 0 is in
    let lt : i < length bytes = found.0 in
    let le : i + 1 ≤ length bytes = omega arith in
    record {
      prefix = prefix_is bytes (i + 1) le;
      one_end =
          StopsAt-take bytes line_feed (i + 1) le
          (subst (λ k. All (λ x. x ≢ line_feed) (take k bytes)) (omega arith)
          (λ k d l. let short : k < i = omega (arith, length-take-le i bytes (omega arith)) in
          subst (λ x. x ≢ line_feed) (sym (get_or-take i bytes k d short))
          (other (get_or bytes k d) ((position-Some (λ b. b == line_feed) bytes i d is).2 k short))));
      some = λ _. omega (arith, length-take-le (i + 1) bytes le);
    }

all_before : (bytes : List ℕ) (b : Bool) → nat_lt (position_or_len (λ b. b == line_feed) bytes) (length bytes) ≡ b
    → cond b (Some (position_or_len (λ b. b == line_feed) bytes)) None ≡ None
    → length bytes ≤ position_or_len (λ b. b == line_feed) bytes
all_before bytes true lt is = cc
all_before bytes false lt is = grind (arith, common_steps)

pub part_all : (bytes : List ℕ) → position (λ b. b == line_feed) bytes ≡ None → IsPartOfLine bytes bytes
part_all bytes is =
    let le = all_before bytes _ refl is in
    record {
      prefix = sym (take-length bytes);
      one_end = StopsAt-of_All bytes line_feed
          (λ k d l. other (get_or bytes k d) (fails_before_first (λ b. b == line_feed) bytes k d (omega arith)));
      some = λ some. some;
    }

-- ---- a line of several parts

-- whether a line has its end is whether its last byte is one
pub last_byte : (b x : ℕ) (xs : List ℕ) → ends_with_byte b (x ∷ xs) ≡ (get_or (x ∷ xs) (length (x ∷ xs) - 1) 0 == b)
last_byte b x xs =
    ap (λ t. t && (get_or (x ∷ xs) (length (x ∷ xs) - 1) 0 == b)) (lt-ltb 0 (length (x ∷ xs)) (omega arith))

-- no byte ends a line that has no end yet
pub others : (xs : List ℕ) → StopsAt xs line_feed → ends_with_byte line_feed xs ≡ false → All (λ x. x ≢ line_feed) xs
others [] stops none = λ k d l. absurd (omega arith)
others (x ∷ xs) stops none =
    let last = get_or (x ∷ xs) (length (x ∷ xs) - 1) 0 in
    let is : (last == line_feed) ≡ false = sym (last_byte line_feed x xs) ∙ none in
    subst (All (λ y. y ≢ line_feed)) (take_all (length (x ∷ xs) - 1 + 1) (x ∷ xs) (omega arith))
    (All-more (λ y. y ≢ line_feed) (x ∷ xs) (length (x ∷ xs) - 1) 0 (omega arith) stops (other last is))

not_whole : (a b : Bool) → (a || b) ≡ false → (a ≡ false) × (b ≡ false)
not_whole true b is = absurd (true≢false is)
not_whole false b is = (refl, is)

-- what is left of an input whose first bytes are taken is all of the rest
pub whole_after : (a b : Option (List ℕ)) (xs ys : List ℕ) → Consumes a b xs → IsWholeInput b ys
    → IsWholeInput a (xs ++ ys)
whole_after None b xs ys takes whole = tt
whole_after (Some a) None xs ys takes whole = absurd takes
whole_after (Some a) (Some b) xs ys takes whole = takes ∙ ap (λ l. xs ++ l) whole

-- the parts so far
pub record ReadsParts (old new : Option (List ℕ)) (first now : LineBuffer) : Type 0 where
  pub consumes : Consumes old new now.line.items
  pub one_end : StopsAt now.line.items line_feed
  pub end : now.is_at_end ≡ true → IsWholeInput old now.line.items
  pub fewer : is_whole now ≡ true → now.tries_left < first.tries_left
  pub no_more : now.tries_left ≤ first.tries_left
  pub failed : now.has_failed ≡ first.has_failed

pub next_part : (a b c : Option (List ℕ)) (first old mid new : LineBuffer) → ReadsParts a b first old
    → is_whole old ≡ false → mid.tries_left < old.tries_left
    → mid ≡ record old { tries_left = mid.tries_left } → AppendsPart b c mid new → ReadsParts a c first new
next_part a b c first old mid new so_far unfinished fewer same part =
    let closed = not_whole old.is_at_end (ends_with_byte line_feed old.line.items) unfinished in
    let line : mid.line ≡ old.line = ap (λ (x : LineBuffer). x.line) same in
    let items : new.line.items ≡ old.line.items ++ part.part = part.line ∙ ap (λ v. v.items ++ part.part) line in
    let open_mid : mid.is_at_end ≡ false = ap (λ (x : LineBuffer). x.is_at_end) same ∙ closed.0 in
    let less : new.tries_left < first.tries_left = omega (arith, part.same.0, so_far.no_more) in
    record {
      consumes =
          subst (Consumes a c) (sym items)
          (Consumes-trans a b c old.line.items part.part so_far.consumes part.consumes);
      one_end =
          subst (λ l. StopsAt l line_feed) (sym items)
          (StopsAt-append old.line.items part.part line_feed (others old.line.items so_far.one_end closed.1)
          part.one_end);
      end = λ ends.
          subst (IsWholeInput a) (sym items)
          (whole_after a b old.line.items part.part so_far.consumes (part.end ends open_mid));
      fewer = λ _. less;
      no_more = omega arith;
      failed = part.same.1 ∙ ap (λ (x : LineBuffer). x.has_failed) same ∙ so_far.failed;
    }

-- ---- one part

-- the part that is consumed of what a reader shows
pub takes_part : (a b c : Option (List ℕ)) (limit : Option ℕ) (bytes part : List ℕ) → IsPartOfLine bytes part
    → IfSome a (λ xs. StartsWith xs bytes) → IfSome a (λ xs. length bytes ≡ 0 → xs ≡ []) → Keeps a b
    → IfSome a (λ _. IfSome limit (λ k. length bytes ≤ k)) → DropsConsumable b c limit (length part)
    → Consumes a c part
takes_part a b c limit bytes part is front end kept fits drops =
    let le : length part ≤ length bytes = part_le bytes part is.prefix in
    subst (Consumes a c) (sym is.prefix)
    (Consumes_shown a b c limit bytes (length part) le front end kept fits drops).0
  where
    part_le : (bytes part : List ℕ) → part ≡ take (length part) bytes → length part ≤ length bytes
    part_le bytes part is = grind (arith, common_steps)

-- where nothing is shown, nothing is left
pub whole_if_empty : (a : Option (List ℕ)) (bytes part : List ℕ) → IsPartOfLine bytes part → length part ≡ 0
    → IfSome a (λ xs. length bytes ≡ 0 → xs ≡ []) → IsWholeInput a part
whole_if_empty None bytes part is none end = tt
whole_if_empty (Some a) bytes part is none end =
    end (zero_unless_positive (length bytes) (length part) is.some none) ∙ sym (nil_from_length part none)

-- nothing is read where the reader was interrupted
pub after_interruption : {T E : Type 0} (a b : Option (List ℕ)) (old new : LineBuffer) (r : Result T E) → Keeps a b
    → new ≡ record old { interruptions = new.interruptions } → OnOk r (AppendsPart a b old new)
after_interruption a b old new (Err e) kept same = tt
after_interruption a b old new (Ok x) kept same = record {
  part = [];
  consumes = Consumes-kept a a b [] (Consumes-nil a) kept;
  line = ap (λ (x : LineBuffer). x.line.items) same ∙ sym (append-nil old.line.items);
  one_end = λ k d l. absurd (omega arith);
  end = λ ends was. absurd (true≢false (sym ends ∙ ap (λ (x : LineBuffer). x.is_at_end) same ∙ was));
  same = (ap (λ (x : LineBuffer). x.tries_left) same, ap (λ (x : LineBuffer). x.has_failed) same);
}
