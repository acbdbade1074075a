pub mod NoneLeft
