mod TablesAgain
mod FieldsAgain
mod Digests
mod EntriesAgain
mod FormatsAgain
mod TablesToVersion4
mod HeadersAgain
pub mod LineUnitsAgain
