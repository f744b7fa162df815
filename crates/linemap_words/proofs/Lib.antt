mod CommandLemmas
mod NumberLemmas
mod SimpleCommand
