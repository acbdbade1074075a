pub mod Growing
pub mod Marks
pub mod Markup
pub mod Nesting
pub mod Plain
pub mod Printing
pub mod Values
