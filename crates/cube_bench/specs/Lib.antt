pub mod RegionLanes
pub mod RegionWords
pub mod TreeLanes
pub mod TreeWords
