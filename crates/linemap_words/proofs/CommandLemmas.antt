-- What a command is read as, once arguments and subcommands are added to it.
use Rattle.std.proofs.Common.{◌≡◌, ◌∙◌, ap₂, subst, List, [], ◌∷◌, Bool, false, ◌||◌, Result, Ok, Err, IfOk, IsOkAnd}
use Rattle.clap.specs.Words.{AddsArg, AddsInTurn, AddsSubcommand, App, Rule, app_of, rule_of, with_rule, with_subcommand}
use Rattle.clap.specs.declared.builder.arg.Arg.{Arg}
use Rattle.clap.specs.declared.builder.command.Command.{Command}
use Rattle.linemap_words.specs.CommandLine.{HaveRules, IsLocalApp, with_rules}

-- one more argument is one more rule
pub with_argument : (old new : Command) (a : Arg) (app : App) (rule : Rule) → AddsArg old a new
    → rule_of a ≡ rule → a.global ≡ false → IsLocalApp old app → IsLocalApp new (with_rule app rule)
with_argument old new a app rule adds is local was =
    (adds.shape local ∙ ap₂ with_rule was.0 is, adds.globals ∙ ap₂ (λ (x y : Bool). x || y) was.1 local)

pub with_last_argument : {E : Type 0} (old : Command) (r : Result Command E) (a : Arg) (app : App) (rule : Rule)
    → IfOk r (λ new. AddsArg old a new)
    → rule_of a ≡ rule → a.global ≡ false → IsLocalApp old app → IfOk r (λ new. IsLocalApp new (with_rule app rule))
with_last_argument old (Ok new) a app rule adds is local was = with_argument old new a app rule adds is local was
with_last_argument old (Err e) a app rule adds is local was = tt

-- arguments in turn are more rules
pub with_arguments : (old new : Command) (arguments : List Arg) (rules : List Rule) (app : App)
    → AddsInTurn AddsArg old arguments new → HaveRules arguments rules → IsLocalApp old app
    → IsLocalApp new (with_rules app rules)
with_arguments old new [] [] app same have was = subst (λ command. IsLocalApp command app) same was
with_arguments old new (argument ∷ arguments) (rule ∷ rules) app adds have was =
    with_arguments adds.0 new arguments rules (with_rule app rule) adds.2 have.2
    (with_argument old adds.0 argument app rule adds.1 have.0 have.1 was)
with_arguments old new [] (rule ∷ rules) app adds have was = absurd have
with_arguments old new (argument ∷ arguments) [] app adds have was = absurd have

pub with_last_arguments : {E : Type 0} (old : Command) (r : Result Command E) (arguments : List Arg) (rules : List Rule)
    (app : App)
    → IfOk r (λ new. AddsInTurn AddsArg old arguments new) → HaveRules arguments rules → IsLocalApp old app
    → IfOk r (λ new. IsLocalApp new (with_rules app rules))
with_last_arguments old (Ok new) arguments rules app adds have was =
    with_arguments old new arguments rules app adds have was
with_last_arguments old (Err e) arguments rules app adds have was = tt

-- one more subcommand, which was made
pub with_command : {E : Type 0} (old : Command) (sub : Result Command E) (new : Command) (app : App) (below : App)
    → IsOkAnd sub (λ command. AddsSubcommand old command new) → IfOk sub (λ command. IsLocalApp command below)
    → app_of old ≡ app → app_of new ≡ with_subcommand app below.top
with_command old (Ok sub) new app below adds is was =
    adds.shape is.1 ∙ ap₂ (λ (a : App) (b : App). with_subcommand a b.top) was is.0
with_command old (Err e) new app below adds is was = absurd adds

pub with_last_command : {E : Type 0} (old : Command) (sub r : Result Command E) (app : App) (below : App)
    → IfOk r (λ new. IsOkAnd sub (λ command. AddsSubcommand old command new))
    → IfOk sub (λ command. IsLocalApp command below)
    → app_of old ≡ app → IfOk r (λ new. app_of new ≡ with_subcommand app below.top)
with_last_command old sub (Ok new) app below adds is was = with_command old sub new app below adds is was
with_last_command old sub (Err e) app below adds is was = tt
