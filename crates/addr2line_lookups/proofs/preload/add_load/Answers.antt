use Rattle.std.specs.Ordering.{nat_cmp}
use Rattle.std.specs.BTreeSet.{contains}
use Rattle.std.proofs.Common.{◌≡◌, ℕ, true, false, ◌∷◌, ◌++◌, [], List, map, ap, sym, ◌∙◌, Ok, subst}
use Rattle.std.proofs.lemmas.Bool.{not-true, not-false}
use Rattle.std.proofs.lemmas.List.{map-append}
use Rattle.addr2line_unit.specs.FirstAnswers.{PendingLoad}
use Rattle.addr2line_lookups.specs.Preloads.{numbered_load, load_of_item, AreNumbersOf}
use Rattle.addr2line_lookups.proofs.ListedLoads.{load_added, numbers_added, load_again, numbers_again}
use Rattle.addr2line_lookups.proofs.preload.add_load.Goals as goal

pub returns-then-not-branch : goal.returns-then-not-branch
returns-then-not-branch g c =
    let ps = map load_of_item c.args.loads.now.items in
    let p = numbered_load c.args.number c.args.load.now in
    let present : contains nat_cmp c.args.numbers.now c.args.number ≡ true =
    not-false _ (sym c.in_ok-insert.ensures.added ∙ c.if-not-branch.true) in
    let added = c.in_ok-insert.ensures.updates.0 in
    record {
      loads = ap Ok (load_again ps p c.args.numbers.now c.insert.new.self c.requires added present);
      numbers = numbers_again ps p c.args.numbers.now c.insert.new.self c.requires added present;
    }

pub returns : goal.returns
returns g c =
    let ps = map load_of_item c.args.loads.now.items in
    let p = numbered_load c.args.number c.args.load.now in
    let absent : contains nat_cmp c.args.numbers.now c.args.number ≡ false =
    not-true _ (sym c.in_ok-insert.ensures.added ∙ c.if-not-branch.false) in
    let added = c.in_ok-insert.ensures.updates.0 in
    let copied : c.args.load.now ≡ c.in_ok-load.load = let both = c.in_ok-load.ensures in cc in
    let pushed : map load_of_item c.push.new.self.items ≡ ps ++ p ∷ [] =
    ap (map load_of_item) c.in_ok-push.ensures.items ∙ map-append load_of_item c.args.loads.now.items _
    ∙ ap (λ (n : ℕ). ps ++ numbered_load n c.in_ok-load.load ∷ []) c.new.ensures
    ∙ ap (λ l. ps ++ numbered_load c.args.number l ∷ []) (sym copied) in
    let P : List PendingLoad → Type 0 = λ loads. AreNumbersOf loads c.insert.new.self in
    record {
      loads = ap Ok (load_added ps p c.args.numbers.now c.insert.new.self c.requires added absent ∙ sym pushed);
      numbers = subst P (sym pushed) (numbers_added ps p c.args.numbers.now c.insert.new.self c.requires added absent);
    }
