use Rattle.std.proofs.Common.{◌≡◌, ℕ, ◌+◌, ◌++◌, ◌∷◌, [], rules, map, length, ap, ◌∙◌}
use Rattle.std.specs.Global.{Vec}
use Rattle.gimli_lines_write_tables.specs.TextTables.{texts_of}
use Rattle.gimli_lines_write_tables.proofs.TextTableLemmas.{text_table-push, insertion}
use Rattle.gimli_lines_write_tables.proofs.texts.Texts.push.Goals as goal

keys_then : goal.After-self-1 → Type 0
keys_then c = texts_of c.insert.new.self ≡ texts_of c.self.inside.texts ++ c.args.bytes.now ∷ []

then_keys : (c : goal.After-self-1) → keys_then c
unfolding keys_then
then_keys c =
    ap (map (λ (k : Vec ℕ). k.items)) c.in_ok-insert.ensures.keys
    ∙ insertion c.self.inside.texts.keys c.in_ok-text.text c.args.bytes.now c.in_ok-text.ensures.items
    (rw c.self.view_is c.requires.absent)

-- the size with the text and its zero byte
size_then : (c : goal.After-self-1) → c.in_ok-size.size ≡ c.self.inside.size + (length c.args.bytes.now + 1)
size_then c = search rules

pub invariant_of-self : goal.invariant_of-self
invariant_of-self c = rw c.in_err-reserve.ensures.items c.self.invariant

pub invariant_of-self-2 : goal.invariant_of-self-2
unfolding keys_then
invariant_of-self-2 c =
    let offsets : c.push.new.self.items ≡ c.self.inside.offsets.items ++ c.self.inside.size ∷ [] =
    c.in_ok-push.ensures.items ∙ ap (λ l. l ++ c.self.inside.size ∷ []) c.in_ok-reserve.ensures.items in
    rw (then_keys c, offsets, size_then c)
    (text_table-push (texts_of c.self.inside.texts) c.self.inside.offsets.items c.self.inside.size
    c.args.bytes.now c.self.invariant c.requires.text)

pub returns-clause-ok : goal.returns-clause-ok
unfolding keys_then
returns-clause-ok c = then_keys c ∙ ap (λ l. l ++ c.args.bytes.now ∷ []) c.self.view_is
