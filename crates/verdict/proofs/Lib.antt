pub mod Accepting
pub mod Examples
pub mod Judging
pub mod Masks
pub mod Passing
pub mod Quick
pub mod Rules
pub mod Trees
