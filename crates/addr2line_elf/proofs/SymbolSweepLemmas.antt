-- Steps of the sweep that divides the addresses into stretches.
use Rattle.std.proofs.Common.{◌≡◌, ℕ, zero, suc, ◌+◌, ◌-◌, ◌<◌, ◌≤◌, true, false, cond, ◌&&◌, ◌||◌, min, List, [], ◌∷◌, ◌++◌, map, reverse, length, get_or, slice_get, Option, Some, None, refl, ap, sym, ◌∙◌, subst, inl, inr, leb, ltb, eqb, arith}
use Rattle.std.specs.List.{find}
use Rattle.std.specs.List.Sorted.{IsNonDecreasingBy}
use Rattle.std.proofs.lemmas.Bool.{cases_lt, leb-true, leb-false, le-leb, lt-leb, lt-ltb, le-ltb, ne_eqb}
use Rattle.std.proofs.lemmas.List.{reverse-append, append_assoc}
use Rattle.addr2line_elf.specs.declared.symbol_entries.SymbolEntry.{SymbolEntry}
use Rattle.addr2line_elf.specs.declared.stretch.SymbolStretch.{SymbolStretch}
use Rattle.addr2line_elf.specs.ElfSymbols.{covers}
use Rattle.addr2line_elf.specs.SymbolStretches.{greatest_symbol_address, last_covered, last_of, entry_at}
use Rattle.addr2line_elf.specs.SymbolSweeps.{entry_covers, first_value, Falls, AnswersFor, first_active, active_at, still_active, EndsAbove, EndBelow, Rises, ends, IsSwept, IsSweptTo, IsFilledTo}

-- ---- the stretch of an address

entry_at-append : (a : ℕ) (xs ys : List SymbolStretch) (r : Option SymbolEntry)
    → entry_at a (xs ++ ys) r ≡ entry_at a xs (entry_at a ys r)
entry_at-append a [] ys r = refl
entry_at-append a (x ∷ xs) ys r = ap (λ t. cond (leb a x.last) x.entry t) (entry_at-append a xs ys r)

-- stretches that end below the address are skipped
skip_ended : (a low : ℕ) (ss : List SymbolStretch) (r : Option SymbolEntry) → EndBelow low ss → low ≤ a
    → entry_at a ss r ≡ r
skip_ended a low [] r h le = refl
skip_ended a low (s ∷ ss) r h le =
    ap (λ b. cond b s.entry (entry_at a ss r)) (lt-leb a s.last (omega (arith, h.0))) ∙ skip_ended a low ss r h.1 le

-- ---- which addresses an entry covers

covers_to : (v s a : ℕ) → v ≤ a → a ≤ greatest_symbol_address
    → covers v s a ≡ leb a (cond (eqb s 0) greatest_symbol_address (min (v + (s - 1)) greatest_symbol_address))
covers_to v zero a le fits =
    ap (λ b. b && true) (le-leb v a le) ∙ sym (le-leb a greatest_symbol_address fits)
covers_to v (suc n) a le fits =
    let some : eqb (suc n) 0 ≡ false = ne_eqb (suc n) 0 (λ e. absurd (omega arith)) in
    ap (λ b. b && (eqb (suc n) 0 || ltb (a - v) (suc n))) (le-leb v a le)
    ∙ ap (λ b. b || ltb (a - v) (suc n)) some
    ∙ elim (cases_lt a (v + suc n)) [
      | inl below ↦
          lt-ltb (a - v) (suc n) (omega arith)
          ∙ sym (le-leb a (min (v + (suc n - 1)) greatest_symbol_address) (omega arith))
      | inr over ↦
          le-ltb (a - v) (suc n) (omega arith)
          ∙ sym (lt-leb a (min (v + (suc n - 1)) greatest_symbol_address) (omega arith))
    ]
    ∙ sym (ap (λ b. leb a (cond b greatest_symbol_address (min (v + (suc n - 1)) greatest_symbol_address))) some)

covers_below : (v s a : ℕ) → a < v → covers v s a ≡ false
covers_below v s a h = ap (λ b. b && (eqb s 0 || ltb (a - v) s)) (lt-leb v a h)

-- the last address is no less than the first
pub value-le-last : (v s : ℕ) → v ≤ greatest_symbol_address
    → v ≤ cond (eqb s 0) greatest_symbol_address (min (v + (s - 1)) greatest_symbol_address)
value-le-last v s fits =
    elim (eqb s 0) as (λ b. v ≤ cond b greatest_symbol_address (min (v + (s - 1)) greatest_symbol_address)) [
      | true ↦ fits
      | false ↦ omega arith
    ]

-- ---- ends

EndBelow-later : (low high : ℕ) (ss : List SymbolStretch) → low ≤ high → EndBelow low ss → EndBelow high ss
EndBelow-later low high [] le h = tt
EndBelow-later low high (s ∷ ss) le h = (omega (arith, h.0), EndBelow-later low high ss le h.1)

EndBelow-push : (low : ℕ) (ss : List SymbolStretch) (s : SymbolStretch) → EndBelow low ss → s.last < low
    → EndBelow low (ss ++ s ∷ [])
EndBelow-push low [] s h lt = (lt, tt)
EndBelow-push low (x ∷ xs) s h lt = (h.0, EndBelow-push low xs s h.1 lt)

Rises-lower : (low high : ℕ) (ns : List ℕ) → low ≤ high → Rises high ns → Rises low ns
Rises-lower low high [] le h = tt
Rises-lower low high (n ∷ ns) le h = (omega (arith, h.0), h.1)

ends-push : (ss : List SymbolStretch) (s : SymbolStretch) (es : List SymbolEntry)
    → ends (ss ++ s ∷ []) es ≡ map last_of ss ++ s.last ∷ map last_covered es
ends-push [] s es = refl
ends-push (x ∷ xs) s es = ap (λ ns. x.last ∷ ns) (ends-push xs s es)

-- an end between those of the stretches and those of the entries
Rises-between : (low n : ℕ) (ss : List SymbolStretch) (es : List SymbolEntry) → low ≤ n → EndBelow (n + 1) ss
    → EndsAbove n es → Rises low (ends ss es) → Rises low (map last_of ss ++ n ∷ map last_covered es)
Rises-between low n [] [] le below above h = (le, tt)
Rises-between low n [] (e ∷ es) le below above h = (le, (omega arith, h.1))
Rises-between low n (s ∷ ss) es le below above h =
    (h.0, Rises-between s.last n ss es (omega (arith, below.0)) below.1 above h.1)

-- ---- what an entry hides

Rises-hidden : (low last : ℕ) (ss : List SymbolStretch) (es : List SymbolEntry) → Rises low (ends ss es)
    → Rises low (ends ss (still_active last es))
Rises-hidden low last [] [] h = tt
Rises-hidden low last [] (e ∷ es) h =
    elim (leb (last_covered e) last) as (λ b. Rises low (map last_covered (cond b (still_active last es) (e ∷ es)))) [
      | true ↦ Rises-hidden low last [] es (Rises-lower low (last_covered e) (map last_covered es) h.0 h.1)
      | false ↦ h
    ]
Rises-hidden low last (s ∷ ss) es h = (h.0, Rises-hidden s.last last ss es h.1)

above_hidden : (last : ℕ) (es : List SymbolEntry) → EndsAbove last (still_active last es)
above_hidden last [] = tt
above_hidden last (e ∷ es) =
    elim (leb (last_covered e) last) as (λ b. leb (last_covered e) last ≡ b
    → EndsAbove last (cond b (still_active last es) (e ∷ es))) [
      | true ↦ λ _. above_hidden last es
      | false ↦ λ over. leb-false (last_covered e) last over
    ] refl

active_at-hidden : (a last : ℕ) (es : List SymbolEntry) → last < a
    → active_at a (still_active last es) ≡ active_at a es
active_at-hidden a last [] lt = refl
active_at-hidden a last (e ∷ es) lt =
    elim (leb (last_covered e) last) as (λ b. leb (last_covered e) last ≡ b
    → active_at a (cond b (still_active last es) (e ∷ es))
    ≡ cond (leb a (last_covered e)) (Some e) (active_at a es)) [
      | true ↦ λ hidden.
          let over : leb a (last_covered e) ≡ false =
          lt-leb a (last_covered e) (omega (arith, leb-true (last_covered e) last hidden)) in
          active_at-hidden a last es lt ∙ sym (ap (λ b. cond b (Some e) (active_at a es)) over)
      | false ↦ λ _. refl
    ] refl

-- ---- steps of the sweep

pub swept_later : (low high : ℕ) (ss : List SymbolStretch) (active entries : List SymbolEntry) → low ≤ high
    → IsSweptTo low ss active entries → IsSweptTo high ss active entries
swept_later low high ss active entries le h =
    record { ended = EndBelow-later low high ss le h.ended; swept = h.swept }

abbrev pub stretch_to : ℕ → Option SymbolEntry → SymbolStretch
stretch_to last entry = record { last = last; entry = entry }

-- the first active entry ends
pub swept_closed : (ss : List SymbolStretch) (e : SymbolEntry) (active entries : List SymbolEntry)
    → IsSwept ss (e ∷ active) entries
    → IsSwept (ss ++ stretch_to (last_covered e) (Some e) ∷ []) active entries
swept_closed ss e active entries h =
    let s = stretch_to (last_covered e) (Some e) in
    record {
      order = subst (Rises 0) (sym (ends-push ss s active)) h.order;
      answers = λ a fits. entry_at-append a ss (s ∷ []) (active_at a active) ∙ h.answers a fits;
    }

pub swept_to_closed : (low : ℕ) (ss : List SymbolStretch) (e : SymbolEntry) (active entries : List SymbolEntry)
    → last_covered e < low → IsSweptTo low ss (e ∷ active) entries
    → IsSweptTo low (ss ++ stretch_to (last_covered e) (Some e) ∷ []) active entries
swept_to_closed low ss e active entries lt h =
    record {
      ended = EndBelow-push low ss (stretch_to (last_covered e) (Some e)) h.ended lt;
      swept = swept_closed ss e active entries h.swept;
    }

-- the stretch up to an address, if no active entry ends there or below
first_at : (a last : ℕ) (active : List SymbolEntry) → EndsAbove last active
    → cond (leb a last) (first_active active) (active_at a active) ≡ active_at a active
first_at a last [] above =
    elim (leb a last) as (λ b. cond b (first_active []) None ≡ None) [ true ↦ refl | false ↦ refl ]
first_at a last (e ∷ es) above =
    elim (leb a last) as (λ b. leb a last ≡ b → cond b (Some e) (active_at a (e ∷ es)) ≡ active_at a (e ∷ es)) [
      | true ↦ λ within.
          sym (ap (λ b. cond b (Some e) (active_at a es))
          (le-leb a (last_covered e) (omega (arith, leb-true a last within))))
      | false ↦ λ _. refl
    ] refl

pub swept_filled : (last : ℕ) (ss : List SymbolStretch) (active entries : List SymbolEntry) → EndsAbove last active
    → IsSweptTo (last + 1) ss active entries
    → IsSweptTo (last + 1) (ss ++ stretch_to last (first_active active) ∷ []) active entries
swept_filled last ss active entries above h =
    let s = stretch_to last (first_active active) in
    record {
      ended = EndBelow-push (last + 1) ss s h.ended (omega arith);
      swept = record {
        order = subst (Rises 0) (sym (ends-push ss s active))
            (Rises-between 0 last ss active (omega arith) h.ended above h.swept.order);
        answers = λ a fits. entry_at-append a ss (s ∷ []) (active_at a active)
            ∙ ap (entry_at a ss) (first_at a last active above) ∙ h.swept.answers a fits;
      };
    }

pub filled_to : (last : ℕ) (ss : List SymbolStretch) (entry : Option SymbolEntry)
    → IsFilledTo (last + 1) (ss ++ stretch_to last entry ∷ [])
filled_to last ss entry a first other lt =
    let s = stretch_to last entry in
    let within : leb a last ≡ true = le-leb a last (omega arith) in
    let here = λ (r : Option SymbolEntry). ap (λ b. cond b entry r) within in
    entry_at-append a ss (s ∷ []) first
    ∙ ap (entry_at a ss) (here first ∙ sym (here other))
    ∙ sym (entry_at-append a ss (s ∷ []) other)

-- a stretch ends where the sweep has to come to
pub filled_at : (last n : ℕ) (ss : List SymbolStretch) (s : SymbolStretch) → slice_get ss n ≡ Some s → s.last ≡ last
    → IsFilledTo (last + 1) ss
filled_at last n [] s found is a first other lt = absurd cc
filled_at last zero (x ∷ xs) s found is a first other lt =
    let same : x ≡ s = cc in
    let within : leb a x.last ≡ true = le-leb a x.last (omega (arith, ap last_of same)) in
    ap (λ b. cond b x.entry (entry_at a xs first)) within
    ∙ sym (ap (λ b. cond b x.entry (entry_at a xs other)) within)
filled_at last (suc n) (x ∷ xs) s found is a first other lt =
    ap (cond (leb a x.last) x.entry) (filled_at last n xs s found is a first other lt)

-- a further entry begins where the sweep is, and hides those that end no later
pub swept_covered : (e : SymbolEntry) (ss : List SymbolStretch) (active entries : List SymbolEntry)
    → e.value ≤ greatest_symbol_address → IsFilledTo e.value ss → IsSweptTo e.value ss active entries
    → IsSweptTo e.value ss (e ∷ still_active (last_covered e) active) (e ∷ entries)
swept_covered e ss active entries value_fits filled h =
    let last = last_covered e in
    let hidden = still_active last active in
    record {
      ended = h.ended;
      swept = record {
        order = Rises-between 0 last ss hidden (omega arith)
            (EndBelow-later e.value (last + 1) ss (omega (arith, value-le-last e.value e.size value_fits)) h.ended)
            (above_hidden last active)
            (Rises-hidden 0 last ss active h.swept.order);
        answers = λ a fits. elim (cases_lt a e.value) [
          | inl below ↦
              filled a (active_at a (e ∷ hidden)) (active_at a active) below
              ∙ h.swept.answers a fits
              ∙ sym (ap (λ b. cond b (Some e) (find (entry_covers a) entries)) (covers_below e.value e.size a below))
          | inr from ↦
              let rest : active_at a active ≡ find (entry_covers a) entries =
              sym (skip_ended a e.value ss (active_at a active) h.ended from) ∙ h.swept.answers a fits in
              skip_ended a e.value ss (active_at a (e ∷ hidden)) h.ended from
              ∙ elim (leb a last) as (λ b. leb a last ≡ b → cond b (Some e) (active_at a hidden)
              ≡ cond b (Some e) (find (entry_covers a) entries)) [
                | true ↦ λ _. refl
                | false ↦ λ over. active_at-hidden a last active (leb-false a last over) ∙ rest
              ] refl
              ∙ sym (ap (λ b. cond b (Some e) (find (entry_covers a) entries))
              (covers_to e.value e.size a from fits))
        ];
      };
    }

-- ---- the end

least_end : (low : ℕ) (ss : List SymbolStretch) → Rises low (ends ss []) → (j : ℕ) (d : SymbolStretch) → j < length ss
    → low ≤ last_of (get_or ss j d)
least_end low [] h j d b = absurd (omega arith)
least_end low (s ∷ ss) h zero d b = h.0
least_end low (s ∷ ss) h (suc j) d b =
    least_end low ss (Rises-lower low s.last (ends ss []) h.0 h.1) j d (omega arith)

non_decreasing : (low : ℕ) (ss : List SymbolStretch) → Rises low (ends ss []) → IsNonDecreasingBy last_of ss
non_decreasing low [] h i j d le b = absurd (omega arith)
non_decreasing low (s ∷ ss) h zero zero d le b = omega arith
non_decreasing low (s ∷ ss) h zero (suc j) d le b = least_end s.last ss h.1 j d (omega arith)
non_decreasing low (s ∷ ss) h (suc i) zero d le b = absurd (omega arith)
non_decreasing low (s ∷ ss) h (suc i) (suc j) d le b = non_decreasing s.last ss h.1 i j d (omega arith) (omega arith)

pub swept_all : (ss : List SymbolStretch) (entries : List SymbolEntry) → IsSwept ss [] entries → AnswersFor entries ss
swept_all ss entries h = record { order = non_decreasing 0 ss h.order; answers = h.answers }

-- ---- entries by their values

pub falls_at : (left : List SymbolEntry) (e : SymbolEntry) (done : List SymbolEntry) → Falls (left ++ e ∷ done)
    → first_value done ≤ e.value
falls_at [] e done h = h.0
falls_at (x ∷ xs) e done h = falls_at xs e done h.1

-- entries that are left to add, and those that were added
pub record IsPartlySwept (left all : List SymbolEntry) (ss : List SymbolStretch) (active : List SymbolEntry)
    : Type 0 where
  pub done : List SymbolEntry
  pub whole : left ++ done ≡ all
  pub swept : IsSweptTo (first_value done) ss active done

-- ---- the same, as the code's lists have it: the first entry comes last

reverse-push : (xs : List SymbolEntry) (x : SymbolEntry) → reverse (xs ++ x ∷ []) ≡ x ∷ reverse xs
reverse-push xs x = reverse-append xs (x ∷ [])

pub closed_last : (ss made : List SymbolStretch) (active rest entries : List SymbolEntry) (e : SymbolEntry) (last : ℕ)
    → active ≡ rest ++ e ∷ [] → last ≡ last_covered e → made ≡ ss ++ stretch_to last (Some e) ∷ []
    → IsSwept ss (reverse active) entries → IsSwept made (reverse rest) entries
closed_last ss made active rest entries e last popped is pushed h =
    subst (λ all. IsSwept all (reverse rest) entries)
    (sym (pushed ∙ ap (λ n. ss ++ stretch_to n (Some e) ∷ []) is))
    (swept_closed ss e (reverse rest) entries
    (subst (λ es. IsSwept ss es entries) (ap reverse popped ∙ reverse-push rest e) h))

pub to_closed_last : (low : ℕ) (ss made : List SymbolStretch) (active rest entries : List SymbolEntry) (e : SymbolEntry)
    (last : ℕ) → active ≡ rest ++ e ∷ [] → last_covered e < low → last ≡ last_covered e
    → made ≡ ss ++ stretch_to last (Some e) ∷ []
    → IsSweptTo low ss (reverse active) entries → IsSweptTo low made (reverse rest) entries
to_closed_last low ss made active rest entries e last popped lt is pushed h =
    subst (λ all. IsSweptTo low all (reverse rest) entries)
    (sym (pushed ∙ ap (λ n. ss ++ stretch_to n (Some e) ∷ []) is))
    (swept_to_closed low ss e (reverse rest) entries lt
    (subst (λ es. IsSweptTo low ss es entries) (ap reverse popped ∙ reverse-push rest e) h))

pub covered_last : (e : SymbolEntry) (last : ℕ) (ss : List SymbolStretch)
    (active rest pushed entries : List SymbolEntry)
    → last ≡ last_covered e → reverse rest ≡ still_active last (reverse active) → pushed ≡ rest ++ e ∷ []
    → e.value ≤ greatest_symbol_address → IsFilledTo e.value ss → IsSweptTo e.value ss (reverse active) entries
    → IsSweptTo e.value ss (reverse pushed) (e ∷ entries)
covered_last e last ss active rest pushed entries is left now fits filled h =
    subst (λ es. IsSweptTo e.value ss es (e ∷ entries))
    (sym (ap reverse now ∙ reverse-push rest e
    ∙ ap (λ es. e ∷ es) (left ∙ ap (λ n. still_active n (reverse active)) is)))
    (swept_covered e ss (reverse active) entries fits filled h)

-- nothing is below the first address
pub filled_none : (ss : List SymbolStretch) → IsFilledTo 0 ss
filled_none ss a first other lt = absurd (omega arith)

-- a sweep that has come to a value, from where it was
pub record IsReady (v : ℕ) (old : List SymbolStretch) (old_active : List SymbolEntry) (ss : List SymbolStretch)
    (active : List SymbolEntry) : Type 0 where
  pub filled : IsFilledTo v ss
  pub swept : (low : ℕ) (entries : List SymbolEntry) → low ≤ v → IsSweptTo low old old_active entries
      → IsSweptTo v ss active entries

pub ready_here : (v : ℕ) (ss : List SymbolStretch) (active : List SymbolEntry) → v ≡ 0 → IsReady v ss active ss active
ready_here v ss active none =
    record {
      filled = subst (λ n. IsFilledTo n ss) (sym none) (filled_none ss);
      swept = λ low entries le h. swept_later low v ss active entries le h;
    }

pub ready_at : (before v : ℕ) (old : List SymbolStretch) (old_active : List SymbolEntry) (ss : List SymbolStretch)
    (active : List SymbolEntry) → before + 1 ≡ v → IsFilledTo (before + 1) ss
    → ((entries : List SymbolEntry) → IsSweptTo (before + 1) old old_active entries
    → IsSweptTo (before + 1) ss active entries)
    → IsReady v old old_active ss active
ready_at before v old old_active ss active is filled steps =
    subst (λ n. IsReady n old old_active ss active) is (record {
      filled = filled;
      swept = λ low entries le h. steps entries (swept_later low (before + 1) old old_active entries le h);
    })

-- one of the entries that are left
pub one_left : (left rest done all : List SymbolEntry) (e : SymbolEntry) → left ≡ rest ++ e ∷ [] → left ++ done ≡ all
    → rest ++ e ∷ done ≡ all
one_left left rest done all e popped whole =
    sym (append_assoc rest (e ∷ []) done) ∙ ap (λ es. es ++ done) (sym popped) ∙ whole
