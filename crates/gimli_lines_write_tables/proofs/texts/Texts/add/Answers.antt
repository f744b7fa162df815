use Rattle.std.proofs.Common.{◌≡◌, ℕ, false, nat_eq, length, is_some, sym, ap, ◌∙◌}
use Rattle.std.specs.List.{list_any}
use Rattle.std.specs.Cmp.Lexicographic.{pointwise}
use Rattle.std.specs.Global.{Vec}
use Rattle.std.proofs.lemmas.Result.{IfOk-equal, IfOk-weaker}
use Rattle.gimli_lines_write_tables.specs.StringSections.{text_index}
use Rattle.gimli_lines_write_tables.proofs.TextTableLemmas.{there, there-place, absent, absent-place, same_any, length-map'}
use Rattle.gimli_lines_write_tables.proofs.texts.Texts.add.Goals as goal

pub push-requires-clause-absent : goal.push-requires-clause-absent
push-requires-clause-absent c = rw (← c.self.view_is) (same_any c.self.inside.texts.keys c.args.bytes.now
    ∙ sym c.get_index_of.ensures.found ∙ ap is_some c.in-None.is)

pub returns-in-Some-clause-ok : goal.returns-in-Some-clause-ok
returns-in-Some-clause-ok c = rw (← c.self.view_is)
    (sym (there c.self.inside.texts.keys c.args.bytes.now (sym c.get_index_of.ensures.found ∙ ap is_some c.in-Some.is)))

pub returns-in-Some-clause-place : goal.returns-in-Some-clause-place
returns-in-Some-clause-place c = rw (← c.self.view_is)
    (there-place c.self.inside.texts.keys c.args.bytes.now c.in-Some.place (sym c.get_index_of.ensures.index
    ∙ c.in-Some.is))

pub returns-in-None-clause-ok : goal.returns-in-None-clause-ok
returns-in-None-clause-ok c =
    let none : list_any (λ (k : Vec ℕ). pointwise nat_eq c.args.bytes.now k.items) c.self.inside.texts.keys ≡ false =
    sym c.get_index_of.ensures.found ∙ ap is_some c.in-None.is in
    IfOk-equal c.push.result _ _ _ c.push.ensures.ok
    (rw (← c.self.view_is) (sym (absent c.self.inside.texts.keys c.args.bytes.now none)))

pub returns-in-None-clause-place : goal.returns-in-None-clause-place
returns-in-None-clause-place c =
    let none : list_any (λ (k : Vec ℕ). pointwise nat_eq c.args.bytes.now k.items) c.self.inside.texts.keys ≡ false =
    sym c.get_index_of.ensures.found ∙ ap is_some c.in-None.is in
    let there : length c.args.self.now ≡ text_index c.args.self.now c.args.bytes.now =
    rw (← c.self.view_is) (length-map' (λ (k : Vec ℕ). k.items) c.self.inside.texts.keys
    ∙ absent-place c.self.inside.texts.keys c.args.bytes.now none) in
    IfOk-weaker c.push.result _ _ (λ x h. h ∙ there) c.push.ensures.place
