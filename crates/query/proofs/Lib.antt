pub mod Following
pub mod Marking
pub mod Settles
pub mod Tests
