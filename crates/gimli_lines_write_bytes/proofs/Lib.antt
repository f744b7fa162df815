pub use Rattle.gimli_core_base.proofs.Listings
pub use Rattle.gimli_core_base.proofs.NumberRoundTrip
pub use Rattle.gimli_core_base.proofs.PrefixReads
pub mod FollowedReads
