pub mod Lowering
pub mod RowsPut
pub mod Placings
pub mod Chains
pub mod NodeRows
