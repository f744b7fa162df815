use Rattle.std.proofs.Common.{rules, ◌≡◌, ◌+◌, true, refl}
use Rattle.gimli_core_abbrev.proofs.TableTails.{list_goes_on}
use Rattle.gimli_core_abbrev.proofs.tails.skip_to.Goals as goal

pub loop-before-preserved : goal.loop-before-preserved
loop-before-preserved g c =
    let view = g.R.Reader.view in
    let there : c.skip_declaration.result ≡ true = search rules in
    let read = c.skip_declaration.ensures there in
    list_goes_on c.args.section.now (view c.loop-before.input) (view c.skip_declaration.new.input)
    c.args.list.list.value c.loop-before.before (c.loop-before.before + 1) read.0 c.loop-before.invariant read.1 refl
