pub mod CellLists
pub mod Cells
pub mod Circuit
pub mod Nets
pub mod Texts
