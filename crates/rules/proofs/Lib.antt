-- lists, numbers and steps that may be refused
pub mod Refusing
pub mod Searching
pub mod Count
pub mod Ordered
pub mod Sequences
pub mod Bytes
-- sheets
pub mod Tables
pub mod Bodies
pub mod Back
pub mod Fitting
pub mod Exact
-- stores, calendars and tables
pub mod Lengths
pub mod Origins
pub mod Stored
pub mod Credits
-- sites
pub mod Effects
pub mod Answered
pub mod Keeping
pub mod Telling
pub mod Meant
pub mod Judged
pub mod Parted
pub mod Joining
-- channels
pub mod Channelled
-- runs without bytes
mod Histories
mod Inv
mod Unchanging
mod Accept
mod Make
mod Steps
mod Always
-- runs
mod Simulation
mod Simulated
pub mod Promised
pub mod Agreed
pub mod Going
