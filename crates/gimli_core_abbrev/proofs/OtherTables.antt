-- Tables that are checked one after the other: what comes of each.
use Rattle.std.proofs.Common.{◌≡◌, ◌∙◌, refl, ap, sym, subst, ℕ, ◌+◌, ◌<◌, ◌≤◌, Bool, true, false, cond, ◌||◌, eqb, leb, List, [], ◌∷◌, ◌++◌, length, map, take, get_or, Option, Some, None, is_some, option_map, unwrap_or, Result, arith}
use Rattle.std.specs.Ordering.{nat_cmp}
use Rattle.std.specs.BTreeMap.{is_at}
use Rattle.std.specs.Map.{lookup}
use Rattle.std.specs.FinMap.{get, from_entries}
use Rattle.std.proofs.lemmas.Bool.{eqb-true, le-leb, leb-true}
use Rattle.std.specs.declared.rc.Rc.{Rc}
use Rattle.std.specs.declared.alloc.Global.{Global}
use Rattle.gimli_core_readers.specs.Error.{Error}
use Rattle.gimli_core_readers.specs.View.{View}
use Rattle.gimli_core_abbrev.specs.declared.table.Abbreviations.{Abbreviations}
use Rattle.gimli_core_abbrev.specs.Declarations.{Declaration}
use Rattle.gimli_core_abbrev.specs.TableCache.{AreTablesOf, table_view, cached_view}
use Rattle.gimli_core_abbrev.specs.TableParsing.{table_at}
use Rattle.gimli_core_abbrev.specs.CheckedTables.{IsDeclarationAt, AreDeclarationsOf, HasRepeated, HasAll, AreOwn, ChecksOthers}
use Rattle.gimli_core_abbrev.proofs.RepeatedOffsets.{among, times_among, among_times, among-push, places_more}
use Rattle.gimli_core_abbrev.proofs.DeclarationPlaces.{place_test}
use Rattle.gimli_core_abbrev.proofs.TableCollection.{is_some-map}
use Rattle.gimli_core_abbrev.proofs.CacheMaps.{get_cached}
use Rattle.gimli_core_abbrev.proofs.KeptDeclarations.{get_kept}

abbrev CachedTable : Type 0
CachedTable = Result (Rc Abbreviations Global) Error

-- ---- one entry more

-- what a map has at an offset, which took an entry at c
entry_more : {X : Type 0} (c offset : ℕ) (x : X) (old new : Option X)
    → new ≡ cond (is_at (nat_cmp c) offset) (Some x) old → new ≡ cond (eqb c offset) (Some x) old
entry_more {X} c offset x old new is = is ∙ ap (λ (b : Bool). cond b (Some x) old) (place_test c offset)

some_stays : {X : Type 0} (b : Bool) (x : X) (o : Option X) → is_some o ≡ true → is_some (cond b (Some x) o) ≡ true
some_stays true x o h = refl
some_stays false x o h = h

or_true : (a b : Bool) → (a || true) ≡ (b || true)
or_true true true = refl
or_true true false = refl
or_true false true = refl
or_true false false = refl

or_push : (a b m : Bool) → a ≡ (b || m) → a ≡ (b || (m || false))
or_push a true m h = h
or_push a false true h = h
or_push a false false h = h

-- the entry came second, or first
second_more : {X : Type 0} (t a b m : Bool) (x : X) (o : Option X) → (a || is_some o) ≡ (b || m)
    → (a || is_some (cond t (Some x) o)) ≡ (b || (m || t))
second_more true a true m x o h = or_true a true
second_more true a false m x o h = or_true a m
second_more false a b m x o h = or_push (a || is_some o) b m h

first_more : {X : Type 0} (t f b m : Bool) (x : X) (o : Option X) → (is_some o || f) ≡ (b || m)
    → (is_some (cond t (Some x) o) || f) ≡ (b || (m || t))
first_more true f true m x o h = refl
first_more true f false true x o h = refl
first_more true f false false x o h = refl
first_more false f b m x o h = or_push (is_some o || f) b m h

-- the same where the offset of the entry is known by another number
pub entry_at : {X : Type 0} (k c : ℕ) (x : X) (old new : ℕ → Option X) → k ≡ c
    → ((offset : ℕ) → new offset ≡ cond (is_at (nat_cmp k) offset) (Some x) (old offset))
    → (offset : ℕ) → new offset ≡ cond (is_at (nat_cmp c) offset) (Some x) (old offset)
entry_at k c x old new same is offset =
    is offset ∙ ap (λ (n : ℕ). cond (is_at (nat_cmp n) offset) (Some x) (old offset)) same

-- ---- of one place more

pub others_more : {X : Type 0} (place : X → ℕ) (xs : List X) (i : ℕ) (x : X) (section : View)
    (before after : ℕ → Option CachedTable) (kept : ℕ → Option Declaration) → x ≡ get_or xs i x → i < length xs
    → ChecksOthers section (map place (take i xs) ++ place x ∷ []) before after kept
    → ChecksOthers section (map place (take (i + 1) xs)) before after kept
others_more place xs i x section before after kept item inside =
    subst (λ (ps : List ℕ). ChecksOthers section ps before after kept) (sym (places_more place xs i x item inside))

-- ---- an offset whose table is there

pub others_same : (section : View) (places : List ℕ) (before after : ℕ → Option CachedTable)
    (kept : ℕ → Option Declaration) (c : ℕ) → is_some (after c) ≡ true
    → ChecksOthers section places before after kept → ChecksOthers section (places ++ c ∷ []) before after kept
others_same section places before after kept c there was = record {
  stays = was.stays;
  own = was.own;
  are_declarations = was.are_declarations;
  all = λ offset. by_test offset (eqb c offset) refl
      ∙ ap (λ (b : Bool). is_some (before offset) || b) (sym (among-push offset places c));
}
  where
    by_test : (offset : ℕ) (t : Bool) → eqb c offset ≡ t → (is_some (after offset) || is_some (kept offset))
        ≡ (is_some (before offset) || (among offset places || t))
    by_test offset false e = or_push _ (is_some (before offset)) (among offset places) (was.all offset)
    by_test offset true e =
        let here : is_some (after offset) ≡ true =
        subst (λ (o : ℕ). is_some (after o) ≡ true) (eqb-true c offset e) there in
        ap (λ (b : Bool). b || is_some (kept offset)) here ∙ both (is_some (before offset)) (among offset places)
      where
        both : (b m : Bool) → true ≡ (b || (m || true))
        both true m = refl
        both false true = refl
        both false false = refl

-- ---- one that was checked

pub others_checked : (section : View) (places : List ℕ) (before after : ℕ → Option CachedTable)
    (old new : ℕ → Option Declaration) (c : ℕ) (d : Declaration)
    → ((offset : ℕ) → new offset ≡ cond (is_at (nat_cmp c) offset) (Some d) (old offset))
    → IsDeclarationAt section c d → ChecksOthers section places before after old
    → ChecksOthers section (places ++ c ∷ []) before after new
others_checked section places before after old new c d is first was = record {
  stays = was.stays;
  own = was.own;
  are_declarations = λ offset x e. by_test offset x (eqb c offset) refl
      (sym (entry_more c offset d (old offset) (new offset) (is offset)) ∙ e);
  all = λ offset.
      ap (λ (o : Option Declaration). is_some (after offset) || is_some o)
      (entry_more c offset d (old offset) (new offset) (is offset))
      ∙ second_more (eqb c offset) (is_some (after offset)) (is_some (before offset)) (among offset places) d
      (old offset) (was.all offset)
      ∙ ap (λ (b : Bool). is_some (before offset) || b) (sym (among-push offset places c));
}
  where
    by_test : (offset : ℕ) (x : Declaration) (t : Bool) → eqb c offset ≡ t → cond t (Some d) (old offset) ≡ Some x
        → IsDeclarationAt section offset x
    by_test offset x false e h = was.are_declarations offset x h
    by_test offset x true e h =
        let same : d ≡ x = cc in
        subst (λ (o : ℕ). IsDeclarationAt section o x) (eqb-true c offset e)
        (subst (IsDeclarationAt section c) same first)

-- ---- one that was read

pub others_cached : (section : View) (places : List ℕ) (before old new : ℕ → Option CachedTable)
    (kept : ℕ → Option Declaration) (c : ℕ) (table : CachedTable)
    → ((offset : ℕ) → new offset ≡ cond (is_at (nat_cmp c) offset) (Some table) (old offset))
    → table_view table ≡ table_at c section → ChecksOthers section places before old kept
    → ChecksOthers section (places ++ c ∷ []) before new kept
others_cached section places before old new kept c table is read was = record {
  stays = λ offset h.
      ap is_some (entry_more c offset table (old offset) (new offset) (is offset))
      ∙ some_stays (eqb c offset) table (old offset) (was.stays offset h);
  own = λ own offset x e. by_test own offset x (eqb c offset) refl
      (sym (entry_more c offset table (old offset) (new offset) (is offset)) ∙ e);
  are_declarations = was.are_declarations;
  all = λ offset.
      ap (λ (o : Option CachedTable). is_some o || is_some (kept offset))
      (entry_more c offset table (old offset) (new offset) (is offset))
      ∙ first_more (eqb c offset) (is_some (kept offset)) (is_some (before offset)) (among offset places) table
      (old offset) (was.all offset)
      ∙ ap (λ (b : Bool). is_some (before offset) || b) (sym (among-push offset places c));
}
  where
    by_test : AreOwn section before → (offset : ℕ) (x : CachedTable) (t : Bool) → eqb c offset ≡ t
        → cond t (Some table) (old offset) ≡ Some x → table_view x ≡ table_at offset section
    by_test own offset x false e h = was.own own offset x h
    by_test own offset x true e h =
        let same : table ≡ x = cc in
        ap table_view (sym same) ∙ read ∙ ap (λ (o : ℕ). table_at o section) (eqb-true c offset e)

-- ---- what is kept in the end

-- the tables at these offsets, and no others
abbrev pub AreTablesAt : View → List ℕ → (ℕ → Option CachedTable) → Type 0
AreTablesAt section places tables =
    (offset : ℕ) → option_map table_view (tables offset)
    ≡ cond (among offset places) (Some (table_at offset section)) None

-- what is in a tree
abbrev pub at_in : {X : Type 0} → List (ℕ × X) → ℕ → Option X
at_in es offset = lookup (is_at (nat_cmp offset)) es

cond_some : {X : Type 0} (b : Bool) (x : X) → is_some (cond b (Some x) None) ≡ b
cond_some true x = refl
cond_some false x = refl

there : (section : View) (places : List ℕ) (tables : ℕ → Option CachedTable) → AreTablesAt section places tables
    → (offset : ℕ) → is_some (tables offset) ≡ among offset places
there section places tables are offset =
    sym (is_some-map table_view (tables offset)) ∙ ap is_some (are offset)
    ∙ cond_some (among offset places) (table_at offset section)

pub tables_own : (section : View) (places : List ℕ) (tables : ℕ → Option CachedTable)
    → AreTablesAt section places tables → AreOwn section tables
tables_own section places tables are offset table e =
    by_test (among offset places) (ap (option_map table_view) (sym e) ∙ are offset)
  where
    by_test : (b : Bool) → option_map table_view (Some table) ≡ cond b (Some (table_at offset section)) None
        → table_view table ≡ table_at offset section
    by_test true h = cc
    by_test false h = absurd cc

-- a cache whose tree has the section's tables
pub cache_own : (section : View) (es : List (ℕ × CachedTable)) → AreOwn section (at_in es)
    → AreTablesOf section (from_entries (map cached_view es))
cache_own section es own offset =
    ap (λ (o : Option (Result (List Declaration) Error)). unwrap_or o (table_at offset section)) (get_cached es offset)
    ∙ by_table (at_in es offset) refl
  where
    by_table : (o : Option CachedTable) → at_in es offset ≡ o
        → unwrap_or (option_map table_view o) (table_at offset section) ≡ table_at offset section
    by_table None e = refl
    by_table (Some table) e = own offset table e

pub kept_own : (section : View) (ds : List (ℕ × Declaration))
    → ((offset : ℕ) (d : Declaration) → at_in ds offset ≡ Some d → IsDeclarationAt section offset d)
    → AreDeclarationsOf section (from_entries ds)
kept_own section ds own offset d e = own offset d (sym (get_kept ds offset) ∙ e)

-- the offsets, and those of them that occur twice or more, whose tables were there before
pub has_repeated : (section : View) (offsets repeated sorted : List ℕ) (before : ℕ → Option CachedTable)
    (es : List (ℕ × CachedTable)) (ds : List (ℕ × Declaration)) → AreTablesAt section repeated before
    → ((offset : ℕ) → among offset repeated ≡ leb 2 (times_among offset offsets))
    → ChecksOthers section sorted before (at_in es) (at_in ds)
    → HasRepeated offsets (from_entries (map cached_view es))
has_repeated section offsets repeated sorted before es ds are twice checked offset above =
    ap is_some (get_cached es offset)
    ∙ is_some-map table_view (at_in es offset)
    ∙ checked.stays offset
    (there section repeated before are offset ∙ twice offset ∙ le-leb 2 (times_among offset offsets) above)

pub has_all : (section : View) (offsets repeated sorted : List ℕ) (before : ℕ → Option CachedTable)
    (es : List (ℕ × CachedTable)) (ds : List (ℕ × Declaration)) → AreTablesAt section repeated before
    → ((offset : ℕ) → among offset repeated ≡ leb 2 (times_among offset offsets))
    → ((offset : ℕ) → among offset sorted ≡ among offset offsets)
    → ChecksOthers section sorted before (at_in es) (at_in ds)
    → HasAll offsets (from_entries (map cached_view es)) (from_entries ds)
has_all section offsets repeated sorted before es ds are twice same checked offset =
    ap (λ (o : Option (Result (List Declaration) Error)).
    is_some o || is_some (get (from_entries {R = nat_cmp} ds) offset))
    (get_cached es offset)
    ∙ ap (λ (o : Option Declaration). is_some (option_map table_view (at_in es offset)) || is_some o)
    (get_kept ds offset)
    ∙ ap (λ (b : Bool). b || is_some (at_in ds offset)) (is_some-map table_view (at_in es offset))
    ∙ checked.all offset
    ∙ ap (λ (b : Bool). b || among offset sorted) (there section repeated before are offset ∙ twice offset)
    ∙ ap (λ (b : Bool). leb 2 (times_among offset offsets) || b) (same offset)
    ∙ once (leb 2 (times_among offset offsets)) refl
  where
    once : (b : Bool) → leb 2 (times_among offset offsets) ≡ b → (b || among offset offsets) ≡ among offset offsets
    once true e =
        let twice : 2 ≤ times_among offset offsets = leb-true 2 (times_among offset offsets) e in
        sym (among_times offset offsets ∙ le-leb 1 (times_among offset offsets) (omega arith))
    once false e = refl
