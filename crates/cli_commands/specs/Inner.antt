-- How names, stations, files, dispatchers, rows and endings are tied to the other definitions. No
-- public contract cites these.
pub mod Ending
pub mod Files
pub mod Names
pub mod Recording
pub mod Replay
pub mod ReportRows
pub mod Shop
pub mod Stations
