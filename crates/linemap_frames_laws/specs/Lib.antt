pub mod CallAgreement
pub mod LookupFrameLaws
