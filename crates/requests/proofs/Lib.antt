pub mod NoFloat
pub mod TimeTexts
pub mod Found
pub mod SelectorTexts
pub mod JsonTexts
pub mod RowTexts
pub mod Conversions
pub mod UsualLabels
pub mod UsualTexts
pub mod HeadTexts
pub mod FieldTexts
pub mod ReadTexts
pub mod AdmittedTexts
pub mod FitTexts
pub mod Endings
pub mod TakenTexts
pub mod PathTexts
mod FewDigits
