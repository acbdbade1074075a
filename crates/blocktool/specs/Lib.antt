pub mod Conversion
pub mod Forms
pub mod Listed
pub mod Opening
pub mod Prometheus
pub mod Rewriting
pub mod Texts
