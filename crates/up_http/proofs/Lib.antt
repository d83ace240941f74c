pub mod HeadLaws
pub mod TakenBytes
pub mod FeedLaws
pub mod StreamLaws
pub mod ServeLaws
pub mod TalkLaws
pub mod InputLaws
pub mod Blaming
