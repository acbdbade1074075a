-- The lemmas of the index reader.
mod BodyParts
mod Draining
mod Eaches
mod Fields
mod Firsts
pub mod Gaps
mod BothParts
mod Growth
mod Head
mod OnlyDisagrees
mod Orders
mod Holding
mod Naming
mod Placing
mod Rising
mod Searching
mod Sections
mod Sound
mod Spans
mod Stepping
mod WalkLoops
mod Walks
mod Whole
mod Within
mod WordsAt
mod Facts
mod Held
mod Listing
mod Taken
mod Texts
mod ChunkSpelling
mod Spelling
mod Found
mod ChunkAgain
mod BodyAgain
mod TableAgain
mod AgreementAgain
pub mod Again
mod OnlyErr
mod HeadFirst
mod SeriesFirst
mod PostingsFirst
mod LastChecks
pub mod Pinned
