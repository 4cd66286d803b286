pub mod Agreeing
pub mod Clean
pub mod Equations
pub mod Patterns
pub mod Shifts
pub mod Sums
pub mod Tests
pub mod Theorems
