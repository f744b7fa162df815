mod RestOfLists
mod KnownTables
mod WritablePrograms
mod WrittenUnit
