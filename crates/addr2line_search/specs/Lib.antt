pub mod ProbedLists
pub mod Searches
