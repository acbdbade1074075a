pub mod FieldTexts
pub mod Found
pub mod HeadTexts
pub mod ReadTexts
pub mod Fronts
