mod SearchLemmas
mod Seal
