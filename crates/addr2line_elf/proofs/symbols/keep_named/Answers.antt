use Rattle.std.proofs.Common.{filter, ap, ◌∙◌, rules}
use Rattle.std.proofs.lemmas.Fn.{filter_same}
use Rattle.addr2line_elf.specs.SymbolStretches.{is_named}
use Rattle.addr2line_elf.proofs.symbols.keep_named.Goals as goal

pub returns-clause-ok : goal.returns-clause-ok
returns-clause-ok c =
    let entries = c.args.entries.now.items in
    filter_same _ (is_named c.in_ok-names.names) _ (λ x b f k. search rules) entries
    c.retain.new.self.items c.retain.ensures.filtered
    ∙ ap (λ t. filter (is_named t) entries) c.in_ok-names.ensures.ok
