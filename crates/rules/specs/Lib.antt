-- the words: answers, refusals, numbers in bytes, stamps, records, kinds of entry, counting
pub mod Results
pub mod Refusals
pub mod Numbers
pub mod Stamps
pub mod Records
pub mod Kinds
pub mod Counting
-- the things: stores, calendars, tables, sheets, sites, channels, runs
pub mod Stores
pub mod Entries
pub mod Tables
pub mod Sheets
pub mod Reading
pub mod Sites
pub mod Showing
pub mod Channels
pub mod Runs
-- what is proved of them
pub mod StampLaws
pub mod StoreLaws
pub mod Fits
pub mod Soundness
pub mod Meaning
pub mod Grounds
pub mod Parts
pub mod Promises
pub mod Agreement
