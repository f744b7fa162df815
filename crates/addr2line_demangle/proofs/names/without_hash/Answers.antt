use Rattle.std.proofs.Common.{sym, ◌∙◌}
use Rattle.addr2line_demangle.proofs.ElementLists.{hash_at_end, no_hash_at_end}
use Rattle.addr2line_demangle.proofs.names.without_hash.Goals as goal

pub returns-then-is_hash : goal.returns-then-is_hash
returns-then-is_hash c =
    hash_at_end c.args.elements.now _ c.in-len1-up.len_at_least
    (sym c.is_hash.ensures ∙ c.if-is_hash.true)

pub returns-else-is_hash : goal.returns-else-is_hash
returns-else-is_hash c =
    no_hash_at_end c.args.elements.now _ c.in-len1-up.len_at_least
    (sym c.is_hash.ensures ∙ c.if-is_hash.false)
