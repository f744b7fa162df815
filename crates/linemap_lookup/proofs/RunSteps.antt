-- Addresses that are answered and written one after the other.
use Rattle.std.proofs.Common.{◌≡◌, ◌∙◌, Bool, true, false, List, [], ◌∷◌, ◌++◌, ℕ, Option, Result, map, Ok, Err, ◌+◌, ◌<◌, length, take, drop, get_or, inl, refl, sym, ap, subst, append-nil, append_assoc}
use Rattle.std.specs.Prelude.{◌||◌, IfErr}
use Rattle.std.specs.List.{FoldsTo, flat_map, list_any}
use Rattle.std.specs.Io.KnownBytes.{Appends}
use Rattle.std.proofs.lemmas.List.{map-append, take_more, take-append-drop}
use Rattle.std.proofs.lemmas.Grind.{flat_map-append}
use Rattle.addr2line_context.specs.Error.{Error}
use Rattle.addr2line_split.specs.Range.{Range}
use Rattle.linemap_output.specs.ErrorLine.{EndsOutOfMemory}
use Rattle.linemap_output.proofs.WritingLemmas.{appends_more, appends_nothing, keeps_same, prefix_none}
use Rattle.linemap_output.specs.declared.ended.Ended.{Ended}
use Rattle.linemap_output.specs.declared.options.Options.{Options}
use Rattle.linemap_lookup.specs.LookupAnswers.{AddressAnswer, AnswersAddress, LookupState}
use Rattle.linemap_lookup.specs.LookupRuns.{Records, Stops, StopsAmong, StopsBefore, Streams, WritesAddress, WritesAddresses, nothing, with_flags}
use Rattle.linemap_lookup.proofs.AnswerSteps.{or_false}

-- one more step of a fold
folds_more : {P A : Type 0} (R : P → A → P → Type 0) (p : P) (xs : List A) (q : P) (x : A) (r : P)
    → FoldsTo R p xs q → R q x r → FoldsTo R p (xs ++ x ∷ []) r
folds_more R p [] q x r is step = (r, subst (λ z. R z x r) (sym is) step, refl)
folds_more R p (y ∷ ys) q x r steps step = (steps.0, steps.1, folds_more R steps.0 ys q x r steps.2 step)

or_assoc : (a b c : Bool) → ((a || b) || c) ≡ (a || (b || c))
or_assoc true b c = refl
or_assoc false b c = refl

-- one is refused in two lists
any_more : {A : Type 0} (f : A → Bool) (xs : List A) (x : A) → list_any f (xs ++ x ∷ []) ≡ (list_any f xs || f x)
any_more f [] x = or_false (f x)
any_more f (y ∷ ys) x = ap (λ b. f y || b) (any_more f ys x) ∙ sym (or_assoc (f y) (list_any f ys) (f x))

-- the flags after two answers
records_more : (a b c : Ended) (r s : Bool) → Records a b r → Records b c s → Records a c (r || s)
records_more a b c r s p q = record {
  memory = q.memory ∙ ap (λ m. m || s) p.memory ∙ or_assoc a.memory r s;
  write = λ clear. p.write (q.write clear);
  status = q.status ∙ p.status;
  read = q.read ∙ p.read;
}

module _ {S : Type 0} {answers : S → List ℕ → List ℕ → Result (Option (List ℕ)) Error → S → Type 0} {o : Options}
    {section : Option Range} where
  pub writes_none : {s : LookupState S} {streams : Streams} {e : Ended}
      → WritesAddresses answers o section [] s s streams streams e e
  writes_none {streams} {e} = record {
    xs = [];
    are_addresses = refl;
    answer_them = refl;
    writes = record {
      out = appends_nothing streams.out streams.out (keeps_same streams.out);
      err = λ _. appends_nothing streams.err streams.err (keeps_same streams.err);
      flags = record { memory = sym (or_false e.memory); write = λ w. w; status = refl; read = refl };
    };
  }

  pub writes_more : {done : List (Option ℕ)} {a : Option ℕ} {s t u : LookupState S} {old mid new : Streams}
      {e f g : Ended} → WritesAddresses answers o section done s t old mid e f
      → WritesAddress answers o section a t u mid new f g
      → WritesAddresses answers o section (done ++ a ∷ []) s u old new e g
  writes_more {a} {s} {t} {u} {old} {mid} {new} {e} {f} {g} p q =
      let x : AddressAnswer = record { address = a; answer = q.answer } in
      record {
        xs = p.xs ++ x ∷ [];
        are_addresses =
            map-append (λ (y : AddressAnswer). y.address) p.xs (x ∷ []) ∙ ap (λ l. l ++ a ∷ []) p.are_addresses;
        answer_them = folds_more (AnswersAddress answers o section) s p.xs t x u p.answer_them q.answers_it;
        writes = record {
          out = subst (Appends old.out new.out)
              (sym (flat_map-append (λ (y : AddressAnswer). y.answer.text) p.xs (x ∷ [])
              ∙ ap (λ l. flat_map (λ (y : AddressAnswer). y.answer.text) p.xs ++ l) (append-nil q.answer.text)))
              (appends_more old.out mid.out new.out _ q.answer.text p.writes.out q.writes.out);
          err = λ clear. subst (Appends old.err new.err)
              (sym (flat_map-append (λ (y : AddressAnswer). y.answer.errors) p.xs (x ∷ [])
              ∙ ap (λ l. flat_map (λ (y : AddressAnswer). y.answer.errors) p.xs ++ l) (append-nil q.answer.errors)))
              (appends_more old.err mid.err new.err _ q.answer.errors (p.writes.err (q.writes.flags.write clear))
              (q.writes.err clear));
          flags = subst (Records e g) (sym (any_more (λ (y : AddressAnswer). y.answer.is_memory_refused) p.xs x))
              (records_more e f g _ _ p.writes.flags q.writes.flags);
        };
      }

  pub stops_after : {done all : List (Option ℕ)} (rest : List (Option ℕ)) {a : Option ℕ} {s t : LookupState S}
      {old mid new : Streams} {e f stop : Ended} → all ≡ done ++ a ∷ rest
      → WritesAddresses answers o section done s t old mid e f
      → StopsBefore answers o section (a ∷ []) t mid new f stop
      → StopsAmong answers o section all s old new e stop
  stops_after {done} rest {a} {t} {mid} {f} is p q = record {
    first = done;
    rest = a ∷ rest;
    are_addresses = is;
    state = t;
    streams = mid;
    ended = f;
    written = p;
    stops = record { partial = q.partial; is_answer = q.is_answer; stops = q.stops };
  }

-- ---- stops

-- out of memory, before anything of an answer is written
pub stops_out_of_memory : {out old new : Option (List ℕ)} {ended last : Ended} → EndsOutOfMemory old new last
    → Stops nothing (record { out = out; err = old }) (record { out = out; err = new }) ended (with_flags ended last)
stops_out_of_memory {out} {old} {ended} {last} ends = record {
  mid = old;
  noted = ended;
  last = last;
  out = prefix_none out out [] (keeps_same out);
  err = λ _. appends_nothing old old (keeps_same old);
  flags = record { memory = sym (or_false ended.memory); write = λ w. w; status = refl; read = refl };
  reports = inl ends;
  end = refl;
}

pub if_err : {T E : Type 0} (r : Result T E) {P Q : E → Type 0} → ((e : E) → P e → Q e) → IfErr r P → IfErr r Q
if_err (Ok x) f p = tt
if_err (Err e) f p = f e p

-- ---- items

module _ {A : Type 0} (address : A → Option ℕ) (items : List A) where
  -- the addresses of the items before one, and then its own
  items_more : (i : ℕ) (x : A) (a : Option ℕ) → i < length items → x ≡ get_or items i x → a ≡ address x
      → map address (take i items) ++ a ∷ [] ≡ map address (take (i + 1) items)
  items_more i x a lt at is =
      ap (λ b. map address (take i items) ++ b ∷ []) (is ∙ ap address at)
      ∙ sym (ap (map address) (take_more items i x lt) ∙ map-append address (take i items) (get_or items i x ∷ []))

  -- and then those of the others
  items_split : (i : ℕ) (x : A) (a : Option ℕ) → i < length items → x ≡ get_or items i x → a ≡ address x
      → map address items ≡ map address (take i items) ++ a ∷ map address (drop (i + 1) items)
  items_split i x a lt at is =
      sym (ap (map address) (take-append-drop (i + 1) items))
      ∙ map-append address (take (i + 1) items) (drop (i + 1) items)
      ∙ ap (λ xs. xs ++ map address (drop (i + 1) items)) (sym (items_more i x a lt at is))
      ∙ append_assoc (map address (take i items)) (a ∷ []) (map address (drop (i + 1) items))

module _ {S A : Type 0} {answers : S → List ℕ → List ℕ → Result (Option (List ℕ)) Error → S → Type 0} {o : Options}
    {section : Option Range} (address : A → Option ℕ) (items : List A) (i : ℕ) (x : A) where
  -- an item is answered after those before it
  pub item_more : {a : Option ℕ} {s t u : LookupState S} {old mid new : Streams} {e f g : Ended} → i < length items
      → x ≡ get_or items i x → a ≡ address x
      → WritesAddresses answers o section (map address (take i items)) s t old mid e f
      → WritesAddress answers o section a t u mid new f g
      → WritesAddresses answers o section (map address (take (i + 1) items)) s u old new e g
  item_more lt at is p q = rw (sym (items_more address items i x _ lt at is)) (writes_more p q)

  -- or the program stops at it
  pub item_stop : {a : Option ℕ} {s t : LookupState S} {old mid new : Streams} {e f stop : Ended} → i < length items
      → x ≡ get_or items i x → a ≡ address x
      → WritesAddresses answers o section (map address (take i items)) s t old mid e f
      → StopsBefore answers o section (a ∷ []) t mid new f stop
      → StopsAmong answers o section (map address items) s old new e stop
  item_stop lt at is p q =
      stops_after (map address (drop (i + 1) items)) (items_split address items i x _ lt at is) p q
