-- How files are read and lines are written, and how a name is stored. No public contract cites
-- these definitions.
pub mod Columns
pub mod Input
pub mod Name
pub mod Output
pub mod Parse
pub mod Refused
pub mod Rows
pub mod ReportRows
pub mod ValueRows
