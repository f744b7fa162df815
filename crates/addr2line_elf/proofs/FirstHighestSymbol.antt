-- The highest symbol of an address is the first of the highest among all that hold it.
use Rattle.std.proofs.Common.{◌≡◌, ℕ, ◌<◌, ◌≤◌, Bool, true, false, cond, List, [], ◌∷◌, ◌++◌, Option, Some, None, filter, ltb, refl, sym, ◌∙◌, ap, subst, arith}
use Rattle.std.proofs.lemmas.Bool.{ltb-true, ltb-false}
use Rattle.addr2line_elf.specs.ElfSymbols.{NamedSymbol, holds, first_highest, highest, symbol_at, EachHolding, IsFirstHighest}

weaker : (address : ℕ) (P Q : NamedSymbol → Type 0) (xs : List NamedSymbol) → ((t : NamedSymbol) → P t → Q t)
    → EachHolding address P xs → EachHolding address Q xs
weaker address P Q [] f h = tt
weaker address P Q (x ∷ xs) f h = ((λ held. f x (h.0 held)), weaker address P Q xs f h.1)

each_holding_append : (address : ℕ) (P : NamedSymbol → Type 0) (xs ys : List NamedSymbol) (s : NamedSymbol)
    → EachHolding address P xs → P s → EachHolding address P ys → EachHolding address P (xs ++ s ∷ ys)
each_holding_append address P [] ys s h p k = ((λ _. p), k)
each_holding_append address P (x ∷ xs) ys s h p k = (h.0, each_holding_append address P xs ys s h.1 p k)

-- ---- none

some_first : (x : NamedSymbol) (o : Option NamedSymbol) → first_highest x o ≡ None → ⊥
some_first x None e = cc
some_first x (Some t) e = at (ltb x.address t.address) e
  where
    at : (b : Bool) → cond b (Some t) (Some x) ≡ None → ⊥
    at true e = cc
    at false e = cc

pub none_holds : (address : ℕ) (symbols : List NamedSymbol) → symbol_at address symbols ≡ None
    → EachHolding address (λ _. ⊥) symbols
none_holds address [] e = tt
none_holds address (x ∷ xs) e = at (none_holds address xs) (holds address x) refl e
  where
    at : (symbol_at address xs ≡ None → EachHolding address (λ _. ⊥) xs) → (b : Bool) → holds address x ≡ b
        → highest (cond b (x ∷ filter (holds address) xs) (filter (holds address) xs)) ≡ None
        → EachHolding address (λ _. ⊥) (x ∷ xs)
    at rest true held e = absurd (some_first x (symbol_at address xs) e)
    at rest false held e = ((λ h. let clash : true ≡ false = sym h ∙ held in cc), rest e)

-- ---- one

-- the one of the rest, after a symbol that doesn't hold the address or is lower
of_rest : (address : ℕ) (x s : NamedSymbol) (xs : List NamedSymbol) → (holds address x ≡ true → x.address < s.address)
    → IsFirstHighest address xs s → IsFirstHighest address (x ∷ xs) s
of_rest address x s xs low rest = record {
  before = x ∷ rest.before;
  after = rest.after;
  whole = ap (λ ys. x ∷ ys) rest.whole;
  holds_it = rest.holds_it;
  lower_before = (low, rest.lower_before);
  no_higher_after = rest.no_higher_after;
}

-- the first one, where the rest has none that is higher
of_first : (address : ℕ) (x : NamedSymbol) (xs : List NamedSymbol) → holds address x ≡ true
    → EachHolding address (λ t. t.address ≤ x.address) xs → IsFirstHighest address (x ∷ xs) x
of_first address x xs held rest = record {
  before = [];
  after = xs;
  whole = refl;
  holds_it = held;
  lower_before = tt;
  no_higher_after = rest;
}

none_higher : (address : ℕ) (x t : NamedSymbol) (xs : List NamedSymbol) → t.address ≤ x.address
    → IsFirstHighest address xs t → EachHolding address (λ u. u.address ≤ x.address) xs
none_higher address x t xs le rest =
    let P : NamedSymbol → Type 0 = λ u. u.address ≤ x.address in
    let before = weaker address (λ u. u.address < t.address) P rest.before (λ u lt. omega arith) rest.lower_before in
    let after = weaker address (λ u. u.address ≤ t.address) P rest.after (λ u k. omega arith) rest.no_higher_after in
    subst (EachHolding address P) (sym rest.whole)
    (each_holding_append address P rest.before rest.after t before le after)

pub first_highest_holds : (address : ℕ) (symbols : List NamedSymbol) (s : NamedSymbol)
    → symbol_at address symbols ≡ Some s → IsFirstHighest address symbols s
first_highest_holds address [] s e = absurd cc
first_highest_holds address (x ∷ xs) s e = at (first_highest_holds address xs) (holds address x) refl e
  where
    is_here : (y : NamedSymbol) → y ≡ s → IsFirstHighest address (x ∷ xs) y → IsFirstHighest address (x ∷ xs) s
    is_here y is h = subst (IsFirstHighest address (x ∷ xs)) is h

    higher_of : holds address x ≡ true → (t : NamedSymbol) → IsFirstHighest address xs t → (b : Bool)
        → ltb x.address t.address ≡ b → cond b (Some t) (Some x) ≡ Some s → IsFirstHighest address (x ∷ xs) s
    higher_of held t rest true lt e =
        is_here t (cc) (of_rest address x t xs (λ _. ltb-true x.address t.address lt) rest)
    higher_of held t rest false le e =
        is_here x (cc) (of_first address x xs held (none_higher address x t xs (ltb-false x.address t.address le) rest))

    choice : ((t : NamedSymbol) → symbol_at address xs ≡ Some t → IsFirstHighest address xs t) → holds address x ≡ true
        → (o : Option NamedSymbol) → symbol_at address xs ≡ o → first_highest x o ≡ Some s
        → IsFirstHighest address (x ∷ xs) s
    choice rest held None none e =
        is_here x (cc)
        (of_first address x xs held
        (weaker address (λ _. ⊥) (λ t. t.address ≤ x.address) xs (λ t no. absurd no) (none_holds address xs none)))
    choice rest held (Some t) found e = higher_of held t (rest t found) (ltb x.address t.address) refl e

    at : ((t : NamedSymbol) → symbol_at address xs ≡ Some t → IsFirstHighest address xs t) → (b : Bool)
        → holds address x ≡ b → highest (cond b (x ∷ filter (holds address) xs) (filter (holds address) xs)) ≡ Some s
        → IsFirstHighest address (x ∷ xs) s
    at rest true held e = choice rest held (symbol_at address xs) refl e
    at rest false held e = of_rest address x s xs (λ h. let clash : true ≡ false = sym h ∙ held in absurd cc) (rest s e)
