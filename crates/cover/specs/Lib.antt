pub mod Certificates
pub mod Asking
pub mod Walking
pub mod Covers
