pub mod RowAddresses
pub mod SourceLines
pub mod UnitNames
