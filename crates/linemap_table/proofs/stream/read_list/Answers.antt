use Rattle.std.proofs.Common.{◌≡◌, ◌-◌, ◌<◌, [], ◌∷◌, ◌++◌, length, map, Some, None, sym, ap, ◌∙◌, arith, rules}
use Rattle.json.specs.Token.{Token}
use Rattle.json.specs.Json.{parse_map, after_end_array, items, value}
use Rattle.json.proofs.Grammar.{value-begin_array}
use Rattle.serde_json.specs.Data.{array}
use Rattle.serde_json.specs.Read.{of_json, of_items, converted}
use Rattle.serde_json.specs.View.{items_of}
use Rattle.linemap_table.proofs.JsonReading.{converted-array, item_read, items_over, items_before, items_before-no_items, one_more_item, none_before}
use Rattle.linemap_table.proofs.PartListLemmas.{each-goes_on}
use Rattle.linemap_table.proofs.stream.read_list.Goals as goal

pub items-init : goal.items-init
items-init g c =
    let all = converted of_items (items (value (c.args.depth - 1)) (length c.next.new.self) c.next.new.self) in
    (length c.next.new.self, [], omega arith, none_before all, search rules, omega arith)

pub items-preserved : goal.items-preserved
items-preserved g c =
    let p = value (c.args.depth - 1) in
    let l = c.items in
    let n = l.invariant.0 in
    let ds = l.invariant.1 in
    let going : (after_end_array l.reader ≡ None) × (c.take_end_array.new.self ≡ l.reader) = grind arith in
    let done = c.in_ok-part.ensures in
    let d = done.part.0 in
    let r = c.read_part.new.reader in
    let less : length r < length l.reader = rw (← going.1) done.shorter in
    let turn = item_read p n l.reader r d (omega (arith, l.invariant.2)) going.0 (rw (← going.1) done.part.1) in
    let pushed : c.push.new.self.items ≡ l.parts.items ++ c.in_ok-part.part ∷ [] = search rules in
    let grown =
    each-goes_on g.E.Element.part g.E.Element.shape ds l.parts.items d c.in_ok-part.part l.invariant.4 done.part.2 in (
      n - 1,
      ds ++ d ∷ [],
      omega (arith, l.invariant.2),
      l.invariant.3 ∙ ap (parse_map (items_before ds)) turn ∙ one_more_item ds d _,
      grown ∙ ap (λ xs. Some (map g.E.Element.part xs)) (sym pushed),
      omega (arith, l.invariant.5),
    )

pub returns-clause-parts : goal.returns-clause-parts
returns-clause-parts g c =
    let p = value (c.args.depth - 1) in
    let l = c.items in
    let n = l.invariant.0 in
    let ds = l.invariant.1 in
    let s = c.next.new.self in
    let r = c.take_end_array.new.self in
    let first : c.args.reader.now ≡ Token.begin_array ∷ s = grind arith in
    let opened =
    ap (converted of_json) (ap (value c.args.depth) first ∙ value-begin_array c.args.depth s (omega arith))
    ∙ converted-array (items p (length s) s) in
    let closed =
    l.invariant.3 ∙ ap (parse_map (items_before ds)) (items_over p n l.reader r l.invariant.2 (grind arith))
    ∙ ap (λ xs. Some (xs, r)) (items_before-no_items ds) in
    (array (items_of ds), opened ∙ ap (parse_map array) closed, l.invariant.4)
