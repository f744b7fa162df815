-- What calls for sections gave.
use Rattle.std.proofs.Common.{◌≡◌, ℕ, ◌+◌, List, [], ◌∷◌, ◌++◌, map, length, get_or, Result, Ok, Err, IfErr, IsErrAnd, false, refl, sym, subst, append_assoc, length-append, arith}
use Rattle.std.proofs.Math.Seq.{get_or-append_seam}
use Rattle.std.proofs.lemmas.List.{map-append}
use Rattle.gimli_dwarf_spec.specs.View.{View}
use Rattle.gimli_dwarf_spec.specs.SectionId.{SectionId}
use Rattle.gimli_dwarf_spec.specs.SectionId.TheVariants.{DebugAbbrev, DebugAddr, DebugAranges, DebugInfo, DebugLine, DebugLineStr, DebugLoc, DebugLocLists, DebugMacinfo, DebugMacro, DebugNames, DebugRanges, DebugRngLists, DebugStr, DebugStrOffsets, DebugTypes}
use Rattle.gimli_dwarf_spec.specs.DwarfFiles.{DwarfFile}
use Rattle.gimli_dwarf.specs.SectionLoading.{loaded_file, load_order, Answers, RefusesOneOf, GivesSections, Loads, RefusesToLoad}

-- the place of a section among those that are asked for
abbrev pub load_index : SectionId → ℕ
load_index DebugAbbrev = 0
load_index DebugAddr = 1
load_index DebugAranges = 2
load_index DebugInfo = 3
load_index DebugLine = 4
load_index DebugLineStr = 5
load_index DebugLoc = 6
load_index DebugLocLists = 7
load_index DebugMacinfo = 8
load_index DebugMacro = 9
load_index DebugNames = 10
load_index DebugRanges = 11
load_index DebugRngLists = 12
load_index DebugStr = 13
load_index DebugStrOffsets = 14
load_index DebugTypes = 15

abbrev pub no_bytes : View
no_bytes = record { bytes = []; is_big = false; first = 0 }

-- the bytes of a section, from those of all, in the order in which they are asked for; none after the last
abbrev pub contents_of : List View → SectionId → View
contents_of views id = get_or views (load_index id) no_bytes

-- The places of sections are n, n + 1 and so on.
abbrev InPlace : ℕ → List SectionId → Type 0
InPlace n [] = Unit {0}
InPlace n (id ∷ ids) = (load_index id ≡ n) × InPlace (n + 1) ids

InPlace-prefix : (n : ℕ) (ids rest : List SectionId) → InPlace n (ids ++ rest) → InPlace n ids
InPlace-prefix n [] rest h = tt
InPlace-prefix n (id ∷ ids) rest h = (h.0, InPlace-prefix (n + 1) ids rest h.1)

load_order-in_place : InPlace 0 load_order
load_order-in_place = search parts 40

-- a fact about the error that a function returns
pub IfErr-from_error : {T E : Type 0} (P : E → Type 0) (result : Result T E) (e : E) → IsErrAnd result (λ y. y ≡ e)
    → P e → IfErr result P
IfErr-from_error P (Ok x) e is h = tt
IfErr-from_error P (Err y) e is h = subst P (sym is) h

module _ {F R E : Type 0} (step : F → SectionId → Result R E → F → Type 0) where
  -- calls after other calls
  pub answers_both : (xs ys : List (SectionId × R)) (p q r : F) → Answers step p xs q → Answers step q ys r
      → Answers step p (xs ++ ys) r
  answers_both [] ys p q r g h = subst (λ p. Answers step p ys r) (sym g.each) h
  answers_both (x ∷ xs) ys p q r g h =
      let rest = answers_both xs ys g.each.0 q r (record { each = g.each.2 }) h in
      record { each = (g.each.0, g.each.1, rest.each) }

  -- the refusal of a call
  pub refuses_one : (p q : F) (id : SectionId) (o : Result R E) (e : E) → step p id o q → o ≡ Err e
      → RefusesOneOf step (id ∷ []) p e
  refuses_one p q id o e s is =
      record {
        calls = [];
        id = id;
        rest = [];
        before_refusal = p;
        after = q;
        order = refl;
        answers = record { each = refl };
        refusal = subst (λ o. step p id o q) is s;
      }

  -- a refusal after other calls, where yet others were to follow
  pub refuses_among : (calls : List (SectionId × R)) (ids rest : List SectionId) (p q : F) (e : E)
      → Answers step p calls q → RefusesOneOf step ids q e
      → RefusesOneOf step (map (λ call. call.0) calls ++ ids ++ rest) p e
  refuses_among calls ids rest p q e a h =
      let before = map (λ (call : SectionId × R). call.0) calls in
      let order : before ++ ids ++ rest ≡ map (λ call. call.0) (calls ++ h.calls) ++ h.id ∷ (h.rest ++ rest) =
      rw h.order (simp (map-append, append_assoc)) in
      record {
        calls = calls ++ h.calls;
        id = h.id;
        rest = h.rest ++ rest;
        before_refusal = h.before_refusal;
        after = h.after;
        order = order;
        answers = answers_both calls h.calls p q h.before_refusal a h.answers;
        refusal = h.refusal;
      }

  module _ (view : R → View) where
    abbrev pub views_of : List (SectionId × R) → List View
    views_of calls = map (λ call. view call.1) calls

    -- calls for the sections from the nth on, as a section's place among all gives its bytes
    gives_in_place : (before : List View) (n : ℕ) (calls : List (SectionId × R)) (p q : F) → length before ≡ n
        → InPlace n (map (λ call. call.0) calls) → Answers step p calls q
        → GivesSections step view (contents_of (before ++ views_of calls)) p (map (λ call. call.0) calls) q
    gives_in_place before n [] p q l i h = h.each
    gives_in_place before n (call ∷ calls) p q l i h =
        let v = view call.1 in
        let here : v ≡ contents_of (before ++ v ∷ views_of calls) call.0 =
        rw (i.0, ← l) (sym (get_or-append_seam before v (views_of calls) no_bytes)) in
        let longer : length (before ++ v ∷ []) ≡ n + 1 = grind (arith, length-append) in
        let more : Answers step h.each.0 calls q = record { each = h.each.2 } in
        let rest = gives_in_place (before ++ v ∷ []) (n + 1) calls h.each.0 q longer i.1 more in
        (h.each.0, (call.1, h.each.1, here), rw append_assoc at rest)

    -- a refusal among all sections
    pub refuses_to_load : (p : F) (e : E) → RefusesOneOf step load_order p e → RefusesToLoad step view p e
    refuses_to_load p e h =
        let placed = InPlace-prefix 0 (map (λ call. call.0) h.calls) (h.id ∷ h.rest)
        (subst (InPlace 0) h.order load_order-in_place) in
        record {
          contents = contents_of (views_of h.calls);
          prefix = map (λ call. call.0) h.calls;
          id = h.id;
          rest = h.rest;
          before_refusal = h.before_refusal;
          after = h.after;
          order = h.order;
          calls = gives_in_place [] 0 h.calls p h.before_refusal refl placed h.answers;
          refusal = h.refusal;
        }

    -- answers for all sections
    pub loads : (limit : ℕ) (calls : List (SectionId × R)) (p q : F) (file : DwarfFile)
        → map (λ call. call.0) calls ≡ load_order → Answers step p calls q
        → file ≡ loaded_file limit (contents_of (views_of calls)) → Loads step view limit p file
    loads limit calls p q file all h are =
        let placed = subst (InPlace 0) (sym all) load_order-in_place in
        record {
          contents = contents_of (views_of calls);
          after = q;
          calls =
              subst (λ ids. GivesSections step view (contents_of (views_of calls)) p ids q) all
              (gives_in_place [] 0 calls p q refl placed h);
          are = are;
        }
