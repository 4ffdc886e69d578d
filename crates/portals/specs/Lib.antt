pub mod Courses
pub mod Cursors
pub mod Sessions
pub mod Walks
