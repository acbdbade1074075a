pub mod Born
pub mod Reporting
