-- What the items of a listing give, read one after the other.
use Rattle.std.proofs.Common.{◌≡◌, ◌≢◌, List, [], ◌∷◌, ◌++◌, Option, Some, None, option_map, Result, Ok, Err, refl, sym, ap, ◌∙◌, append_assoc}
use Rattle.std.proofs.lemmas.List.{append-nil}
use Rattle.std.specs.List.{filter_map, cons_option}
use Rattle.std.specs.Option.{option_to_list}
use Rattle.addr2line_functions.specs.Error.{Error}
use Rattle.addr2line_functions.specs.Error.TheVariants.{Memory}
use Rattle.addr2line_functions.specs.Repetition.{Listing, prepend, fault_of}
use Rattle.addr2line_functions.specs.View.{View}
use Rattle.addr2line_functions.specs.Iterators.{ComesNext}
use Rattle.addr2line_functions.specs.Results.{and_then, some_of, unless, each}
use Rattle.addr2line_functions.specs.OptionalValues.{if_any}

-- what comes after a list
abbrev pub append_to : {C : Type 0} → List C → Result (List C) Error → Result (List C) Error
append_to xs r = and_then r (λ ys. Ok (xs ++ ys))

append_to-none : {C : Type 0} (r : Result (List C) Error) → append_to [] r ≡ r
append_to-none (Ok ys) = refl
append_to-none (Err e) = refl

-- all that was read, unless a fault comes after it
abbrev pub unless_after : {C : Type 0} → Option Error → Result (List C) Error → Result (List C) Error
unless_after fault r = and_then r (λ ys. unless fault (Ok ys))

abbrev one_more : {C : Type 0} → C → Result (List C) Error → Result (List C) Error
one_more x r = and_then r (λ ys. Ok (x ∷ ys))

push_one : {C : Type 0} (xs : List C) (c : C) (r : Result (List C) Error) (fault : Option Error)
    → append_to xs (unless_after fault (one_more c r)) ≡ append_to (xs ++ c ∷ []) (unless_after fault r)
push_one xs c (Err e) fault = refl
push_one xs c (Ok ys) None = ap Ok (sym (append_assoc xs (c ∷ []) ys))
push_one xs c (Ok ys) (Some e) = refl

-- ---- one item

module _ {B C : Type 0} (read : B → Result C Error) where
  push_read : (xs : List C) (u : Option C) (r : Result C Error) (rest : Result (List C) Error) (fault : Option Error)
      → some_of r ≡ Ok u
      → append_to xs (unless_after fault (and_then r (λ y. one_more y rest)))
      ≡ append_to (xs ++ option_to_list u) (unless_after fault rest)
  push_read xs u (Ok c) rest fault h =
      let same : Some c ≡ u = cc in
      push_one xs c rest fault ∙ ap (λ o. append_to (xs ++ option_to_list o) (unless_after fault rest)) same
  push_read xs u (Err e) rest fault h = cc

  push_if_any : (xs : List C) (u : Option C) (o : Option B) (bs : List B) (fault : Option Error) → if_any read o ≡ Ok u
      → append_to xs (unless_after fault (each read (cons_option o bs)))
      ≡ append_to (xs ++ option_to_list u) (unless_after fault (each read bs))
  push_if_any xs u None bs fault h =
      let same : None ≡ u = cc in
      ap (λ ys. append_to ys (unless_after fault (each read bs))) (sym (append-nil xs))
      ∙ ap (λ o. append_to (xs ++ option_to_list o) (unless_after fault (each read bs))) same
  push_if_any xs u (Some b) bs fault h = push_read xs u (read b) (each read bs) fault h

  refuse_read : (xs : List C) (e : Error) (r : Result C Error) (rest : Result (List C) Error) (fault : Option Error)
      → some_of r ≡ Err e
      → append_to xs (unless_after fault (and_then r (λ y. one_more y rest))) ≡ Err e
  refuse_read xs e (Ok c) rest fault h = cc
  refuse_read xs e (Err d) rest fault h = let same : d ≡ e = cc in ap Err same

  refuse_if_any : (xs : List C) (e : Error) (o : Option B) (bs : List B) (fault : Option Error) → if_any read o ≡ Err e
      → append_to xs (unless_after fault (each read (cons_option o bs))) ≡ Err e
  refuse_if_any xs e None bs fault h = cc
  refuse_if_any xs e (Some b) bs fault h = refuse_read xs e (read b) (each read bs) fault h

-- ---- all items

comes_next : {A : Type 0} (o : Option A) (x : A) (old new : Listing View A) → o ≡ Some x → ComesNext (Ok o) old new
    → old ≡ prepend (x ∷ []) new
comes_next None x old new is h = cc
comes_next (Some y) x old new is h = let same : y ≡ x = cc in h ∙ ap (λ z. prepend (z ∷ []) new) same

module _ {A B C : Type 0} (choose : A → Option B) (read : B → Result C Error) where
  -- what is read of those that are kept, or the first refusal, or the fault that ends the listing
  abbrev pub read_all : Listing View A → Result (List C) Error
  read_all l = unless_after (fault_of l) (each read (filter_map choose l.items))

  -- before the first
  pub read_start : (old new : Listing View A) (xs : List C) → xs ≡ [] → old ≡ new
      → append_to xs (read_all old) ≡ read_all new
  read_start old new xs none same =
      ap (λ ys. append_to ys (read_all old)) none ∙ append_to-none (read_all old) ∙ ap read_all same

  -- one more
  pub read_more : (old new : Listing View A) (o : Option A) (x : A) (u : Option C) (xs ys : List C) → o ≡ Some x
      → ComesNext (Ok o) old new
      → if_any read (choose x) ≡ Ok u → ys ≡ xs ++ option_to_list u → (whole : Result (List C) Error)
      → append_to xs (read_all old) ≡ whole
      → append_to ys (read_all new) ≡ whole
  read_more old new o x u xs ys is h one pushed whole so_far =
      ap (λ zs. append_to zs (read_all new)) pushed
      ∙ sym (push_if_any read xs u (choose x) (filter_map choose new.items) (fault_of new) one)
      ∙ sym (ap (λ l. append_to xs (read_all l)) (comes_next o x old new is h))
      ∙ so_far

  -- a refusal of one refuses all
  pub read_refused : (old new : Listing View A) (o : Option A) (x : A) (e : Error) (xs : List C) → o ≡ Some x
      → ComesNext (Ok o) old new
      → if_any read (choose x) ≡ Err e → (whole : Result (List C) Error) → append_to xs (read_all old) ≡ whole
      → whole ≡ Err e
  read_refused old new o x e xs is h one whole so_far =
      sym so_far
      ∙ ap (λ l. append_to xs (read_all l)) (comes_next o x old new is h)
      ∙ refuse_if_any read xs e (choose x) (filter_map choose new.items) (fault_of new) one

  -- a fault ends all
  pub read_ended : (old new : Listing View A) (xs : List C) (whole : Result (List C) Error) (e : Error) → e ≢ Memory
      → ComesNext (Err e) old new → append_to xs (read_all old) ≡ whole
      → whole ≡ Err e
  read_ended old new xs whole e m h so_far =
      let ends = h m in
      sym so_far
      ∙ ap (λ bs. append_to xs (unless_after (fault_of old) (each read (filter_map choose bs)))) ends.0
      ∙ ap (λ fault. append_to xs (unless_after fault (Ok []))) ends.1

-- ---- what is appended to a list

abbrev pub appended : {C : Type 0} → List C → Result (Option C) Error → Result (List C) Error
appended xs r = and_then r (λ u. Ok (xs ++ option_to_list u))

module _ {B M C : Type 0} (place : B → M) (read : M → Result C Error) (xs : List C) where
  append_read : (r : Result C Error) → appended xs (some_of r) ≡ and_then r (λ u. Ok (xs ++ u ∷ []))
  append_read (Ok c) = refl
  append_read (Err e) = refl

  pub append_some : (o : Option B) (m : M) → option_map place o ≡ Some m
      → appended xs (if_any (λ b. read (place b)) o) ≡ and_then (read m) (λ u. Ok (xs ++ u ∷ []))
  append_some None m is = absurd cc
  append_some (Some b) m is =
      let same : place b ≡ m = cc in
      append_read (read (place b)) ∙ ap (λ y. and_then (read y) (λ u. Ok (xs ++ u ∷ []))) same

  pub append_none : (o : Option B) → option_map place o ≡ None → appended xs (if_any (λ b. read (place b)) o) ≡ Ok xs
  append_none None is = ap Ok (append-nil xs)
  append_none (Some b) is = absurd cc

module _ {A B C : Type 0} (choose : A → Option B) (read : B → Result C Error) (old new : Listing View A) (o : Option A)
    (x : A) (xs : List C) (is : o ≡ Some x) (h : ComesNext (Ok o) old new) (whole : Result (List C) Error)
    (so_far : append_to xs (read_all choose read old) ≡ whole) where
  -- one that was read and appended
  pub append_more : (ys : List C) → appended xs (if_any read (choose x)) ≡ Ok ys
      → append_to ys (read_all choose read new) ≡ whole
  append_more ys pushed = by (if_any read (choose x)) refl pushed
    where
      by : (r : Result (Option C) Error) → if_any read (choose x) ≡ r → appended xs r ≡ Ok ys
          → append_to ys (read_all choose read new) ≡ whole
      by (Ok u) one pushed =
          let same : xs ++ option_to_list u ≡ ys = cc in
          read_more choose read old new o x u xs ys is h one (sym same) whole so_far
      by (Err e) one pushed = absurd cc

  -- a refusal of one refuses all
  pub append_refused : (e : Error) → appended xs (if_any read (choose x)) ≡ Err e → whole ≡ Err e
  append_refused e refused = by (if_any read (choose x)) refl refused
    where
      by : (r : Result (Option C) Error) → if_any read (choose x) ≡ r → appended xs r ≡ Err e → whole ≡ Err e
      by (Ok u) one refused = absurd cc
      by (Err d) one refused =
          let same : d ≡ e = cc in
          read_refused choose read old new o x e xs is h (one ∙ ap Err same) whole so_far

-- ---- where nothing is refused

abbrev pub ok_of : {B : Type 0} → B → Result B Error
ok_of x = Ok x

each_ok : {B : Type 0} (xs : List B) → each ok_of xs ≡ Ok xs
each_ok [] = refl
each_ok (x ∷ xs) = ap (one_more x) (each_ok xs)

pub if_any_ok : {B : Type 0} (o : Option B) → if_any ok_of o ≡ Ok o
if_any_ok None = refl
if_any_ok (Some x) = refl

pub read_ok : {A B : Type 0} (choose : A → Option B) (l : Listing View A)
    → read_all choose ok_of l ≡ unless (fault_of l) (Ok (filter_map choose l.items))
read_ok choose l = ap (unless_after (fault_of l)) (each_ok (filter_map choose l.items))
