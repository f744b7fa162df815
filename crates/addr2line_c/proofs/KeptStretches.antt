-- What an open file lends of the stretches that it keeps, and what is written of them.
use Rattle.std.proofs.Common.{◌≡◌, inl, ℕ, zero, suc, ◌<◌, ◌≤◌, Bool, false, ◌==◌, List, length, map, slice_get, Option, Some, None, option_map, Result, Ok, Bor, refl, sym, ap, ◌∙◌, subst, arith}
use Rattle.std.proofs.lemmas.Bool.{false≢true}
use Rattle.std.proofs.lemmas.List.{length-map}
use Rattle.std.proofs.lemmas.Option.{slice_get-map}
use Rattle.addr2line_context.specs.Error.{Error}
use Rattle.addr2line_context.specs.OwnedPlaces.{stretch_of}
use Rattle.addr2line_context.specs.Repetition.{prepend}
use Rattle.addr2line_context.specs.declared.owned_places.OwnedStretch.{OwnedStretch}
use Rattle.addr2line_c.specs.Answers.{AreNext, GivesStretches, KeepsStretches, LeavesNext, left_of, lent}
use Rattle.addr2line_c.specs.COutputs.{range_out, range_written}
use Rattle.addr2line_c.specs.declared.c_types.A2lRange.{A2lRange}
use Rattle.addr2line_c.specs.declared.numbers.TheConstants.{OK}
use Rattle.addr2line_c.specs.declared.open_file.OpenFile.{OpenFile}

pub are_next : (count : ℕ) (old new : OpenFile) (done : Unit {0}) (xs : List OwnedStretch)
    → KeepsStretches count old new (Ok done) → xs ≡ new.stretches.items → AreNext count old xs
are_next count old new done xs keeps is = record {
  rest = left_of new;
  first =
      subst (λ (ys : List OwnedStretch). left_of old ≡ prepend (map stretch_of ys) (left_of new)) (sym is) keeps.first;
  room = subst (λ (ys : List OwnedStretch). length ys ≤ count) (sym is) keeps.room;
  end = λ none some. keeps.end (sym is ∙ none) some;
}

pub leaves_next : (count : ℕ) (old new : OpenFile) (done : Result (Unit {0}) Error)
    (result : Result (Bor (List OwnedStretch)) Error) → KeepsStretches count old new done
    → new.stretches.items ≡ lent result → LeavesNext result old new
leaves_next count old new done result keeps is = record {
  same = keeps.same;
  kept = is;
  rest = subst (λ (ys : List OwnedStretch). left_of old ≡ prepend (map stretch_of ys) (left_of new)) is keeps.first;
}

map_twice : {A B C : Type 0} (f : B → C) (g : A → B) (o : Option A)
    → option_map (λ x. f (g x)) o ≡ option_map f (option_map g o)
map_twice f g None = refl
map_twice f g (Some x) = refl

pub not_empty : (empty : Bool) (n : ℕ) → empty ≡ (n == 0) → empty ≡ false → 0 < n
not_empty empty zero is isnt = absurd (false≢true (sym isnt ∙ is))
not_empty empty (suc n) is isnt = omega arith

pub gives_next : (count n : ℕ) (file : OpenFile) (xs : List OwnedStretch) (out : List A2lRange)
    → AreNext count file xs → 0 < n → n ≡ length xs
    → ((i : ℕ) → i < n → option_map range_written (slice_get out i)
    ≡ option_map (λ s. range_out (stretch_of s)) (slice_get xs i)) → GivesStretches file OK n out
gives_next count n file xs out next some n_is written =
    inl (
      refl,
      record {
        stretches = map stretch_of xs;
        rest = next.rest;
        first = next.first;
        count_is = length-map xs stretch_of ∙ sym n_is;
        some = some;
        written = λ i below.
            written i below ∙ map_twice range_out stretch_of (slice_get xs i)
            ∙ ap (option_map range_out) (sym (slice_get-map stretch_of xs i));
      },
    )
