pub mod Chained
pub mod Narrower
pub mod Opened
pub mod Rising
pub mod RowAfter
