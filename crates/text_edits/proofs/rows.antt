pub mod EditRows
