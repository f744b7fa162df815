use Rattle.std.proofs.lemmas.Result.{err_from_is_err_and}
use Rattle.gimli_dwarf.proofs.RootLemmas.{root-refused, root-absent, root-found}
use Rattle.gimli_dwarf.proofs.root.read_root.Goals as goal

pub returns-in_err-read_entry : goal.returns-in_err-read_entry
returns-in_err-read_entry g c =
    let p = err_from_is_err_and c.from_residual-in_err-read_entry.result c.from_residual-in_err-read_entry.ensures.1 in
    rw (p.1, p.2) (λ m.
    root-refused g.R.Offset.ReaderOffset.limit c.args.header.now c.args.abbreviations.now c.in_ok-entries.entries
    c.is_empty.result c.in_ok-entries.ensures.value c.is_empty.ensures c.if-is_empty.false _
    (c.in_err-read_entry.ensures.value.0 m))

pub returns-then-not-branch : goal.returns-then-not-branch
returns-then-not-branch g c =
    λ m. root-absent g.R.Offset.ReaderOffset.limit c.args.header.now c.args.abbreviations.now c.in_ok-entries.entries
    c.is_empty.result c.in_ok-entries.ensures.value c.is_empty.ensures c.if-is_empty.false _ _ _
    c.in_ok-read_entry.ensures.value c.if-not-branch.true

pub returns : goal.returns
returns g c =
    root-found g.R.Offset.ReaderOffset.limit c.args.header.now c.args.abbreviations.now c.in_ok-entries.entries
    c.is_empty.result c.in_ok-entries.ensures.value c.is_empty.ensures c.if-is_empty.false _ _ _
    c.in_ok-read_entry.ensures.value c.if-not-branch.false
