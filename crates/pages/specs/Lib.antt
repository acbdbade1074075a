-- Lists in pages that versions share, and lists in an order.
pub mod Pages
pub mod Sorted
pub mod Ascending
