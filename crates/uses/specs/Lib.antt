pub mod Extent
pub mod InnerLaws
pub mod InnerNaming
pub mod Processors
pub mod TwoFiles
