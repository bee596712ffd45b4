pub mod ReadingLaws
pub mod IncomingLaws
pub mod Laws
