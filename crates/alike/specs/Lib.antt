pub mod Replies
pub mod Alike
pub mod Full
