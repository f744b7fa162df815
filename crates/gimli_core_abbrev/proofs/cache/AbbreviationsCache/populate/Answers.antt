use Rattle.std.proofs.Common.{sym, ◌∙◌, ap, subst, ℕ, eqb, Bool, cond, List, map, Some, None}
use Rattle.std.specs.List.{list_any}
use Rattle.gimli_core_readers.specs.DebugAbbrevOffset.{DebugAbbrevOffset}
use Rattle.gimli_core_abbrev.specs.TableParsing.{table_at}
use Rattle.gimli_core_abbrev.specs.TableCache.{AreTablesOf, chosen_offsets, chosen_tables}
use Rattle.gimli_core_abbrev.proofs.CacheMaps.{same_tables, get_cached, get-tables_at, chosen_own}
use Rattle.gimli_core_abbrev.proofs.cache.AbbreviationsCache.populate.Goals as goal

pub returns-clause-ok : goal.returns-clause-ok
returns-clause-ok g c =
    let count = λ (o : DebugAbbrevOffset g.row.R-Offset.Denot). g.R.Offset.ReaderOffset.count o.0 in
    let items = c.in_ok-offsets.offsets.items in
    let offsets : List ℕ = map count items in
    let found = c.in_ok-offsets.ensures.ok in (
      items,
      found.0,
      found.1,
      found.2,
      found.3,
      same_tables _ (chosen_tables c.args.strategy offsets c.args.section.now) (λ offset.
          get_cached c.in_ok-tables.tables.entries offset
          ∙ c.in_ok-tables.ensures.ok offset
          ∙ ap (λ (xs : List (DebugAbbrevOffset g.row.R-Offset.Denot)). cond
          (list_any (λ (p : ℕ). eqb p offset) (map count xs))
          (Some (table_at offset c.args.section.now)) None) c.deref.ensures.value
          ∙ ap (λ (b : Bool). cond b (Some (table_at offset c.args.section.now)) None)
          (c.ascending-chosen.ensures offset ∙ c.in_ok-chosen_of.ensures.ok offset)
          ∙ sym (get-tables_at (chosen_offsets c.args.strategy offsets) c.args.section.now offset)),
    )

pub returns-clause-own : goal.returns-clause-own
returns-clause-own g c =
    let tables = returns-clause-ok g c in
    subst (AreTablesOf c.args.section.now) (sym tables.5)
    (chosen_own c.args.strategy _ c.args.section.now)
