pub mod CellSet
