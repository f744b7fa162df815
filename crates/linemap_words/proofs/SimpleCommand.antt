-- The program's command is one of which the contracts of `clap` say all.
use Rattle.std.proofs.Common.{◌≡◌, true, refl}
use Rattle.clap.specs.Simple as simple
use Rattle.clap.specs.Words.{is_simple_and_free}
use Rattle.linemap_words.specs.CommandLine.{linemap_app}

pub is_simple : simple.is_simple linemap_app ≡ true
unfolding linemap_app
is_simple = refl

-- no argument has a rule on another
pub is_free : is_simple_and_free linemap_app ≡ true
unfolding linemap_app
is_free = refl
