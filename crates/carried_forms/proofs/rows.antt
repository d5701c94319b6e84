pub mod CarriedRows
pub mod WithoutRows
pub mod PairedRows
