use Rattle.std.proofs.Common.{◌≡◌, ◌∙◌, ap, ℕ, leb, List, map}
use Rattle.std.specs.Ordering.{nat_cmp}
use Rattle.std.specs.BTreeMap.{get}
use Rattle.std.proofs.lemmas.Simd.{map-map}
use Rattle.gimli_core_readers.specs.DebugAbbrevOffset.{DebugAbbrevOffset}
use Rattle.gimli_core_abbrev.proofs.RepeatedOffsets.{among, times_among}
use Rattle.gimli_core_abbrev.proofs.OtherTables.{tables_own, cache_own, kept_own, has_repeated, has_all}
use Rattle.gimli_core_abbrev.proofs.cache.AbbreviationsCache.populate_shared.Goals as goal

pub returns-clause-shared : goal.returns-clause-shared
returns-clause-shared g c =
    let count = λ (o : DebugAbbrevOffset g.row.R-Offset.Denot). g.R.Offset.ReaderOffset.count o.0 in
    let offset_of = λ (root : DebugAbbrevOffset g.row.R-Offset.Denot × ℕ). root.0 in
    let place_of = λ (root : DebugAbbrevOffset g.row.R-Offset.Denot × ℕ). count root.0 in
    let section = c.args.section.now in
    let items = c.in_ok-offsets_of.field-0.items in
    let roots = c.ascending_roots-roots.result.items in
    let offsets : List ℕ = map place_of items in
    let repeated : List ℕ = map count c.deref-3.result.now in
    let sorted : List ℕ = map place_of c.deref-4.result.now in
    let before = get nat_cmp c.in_ok-tables.tables in
    let found = c.in_ok-offsets_of.ensures.ok in
    let are : map count c.in_ok-offsets.offsets.items ≡ map place_of roots =
    ap (map count) (c.in_ok-offsets.ensures.ok
    ∙ ap (λ (xs : List (DebugAbbrevOffset g.row.R-Offset.Denot × ℕ)). map offset_of xs) c.deref.ensures.value)
    ∙ map-map count offset_of roots in
    let twice : (offset : ℕ) → among offset repeated ≡ leb 2 (times_among offset offsets) =
    λ offset. ap (λ (xs : List (DebugAbbrevOffset g.row.R-Offset.Denot)). among offset (map count xs))
    c.deref-3.ensures.value
    ∙ c.in_ok-repeated.ensures.ok offset
    ∙ ap (λ (xs : List (DebugAbbrevOffset g.row.R-Offset.Denot)). leb 2 (times_among offset (map count xs)))
    c.deref-2.ensures.value
    ∙ ap (λ (places : List ℕ). leb 2 (times_among offset places)) are
    ∙ ap (leb 2) (c.ascending_roots-roots.ensures.times offset) in
    let same : (offset : ℕ) → among offset sorted ≡ among offset offsets =
    λ offset. ap (λ (xs : List (DebugAbbrevOffset g.row.R-Offset.Denot × ℕ)). among offset (map place_of xs))
    c.deref-4.ensures.value
    ∙ c.ascending_roots-roots.ensures.among offset in (
      items,
      found.0,
      found.1,
      found.2,
      found.3,
      has_repeated section offsets repeated sorted before c.check_others.new.tables.entries c.in_ok-kept.kept.entries
          c.in_ok-tables.ensures.ok twice c.in_ok-kept.ensures.ok,
      has_all section offsets repeated sorted before c.check_others.new.tables.entries c.in_ok-kept.kept.entries
          c.in_ok-tables.ensures.ok twice same c.in_ok-kept.ensures.ok,
    )

pub returns-clause-own : goal.returns-clause-own
returns-clause-own g c =
    let count = λ (o : DebugAbbrevOffset g.row.R-Offset.Denot). g.R.Offset.ReaderOffset.count o.0 in
    let others = c.in_ok-kept.ensures.ok in
    cache_own c.args.section.now c.check_others.new.tables.entries
    (others.own (tables_own c.args.section.now (map count c.deref-3.result.now) (get nat_cmp c.in_ok-tables.tables)
    c.in_ok-tables.ensures.ok))

pub returns-clause-declarations : goal.returns-clause-declarations
returns-clause-declarations g c =
    let others = c.in_ok-kept.ensures.ok in
    kept_own c.args.section.now c.in_ok-kept.kept.entries others.are_declarations
