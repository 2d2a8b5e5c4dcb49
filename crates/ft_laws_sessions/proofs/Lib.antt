mod RegularValues
mod FormedOperations
mod FormedReadings
mod QuotedTexts
mod RegularTexts
mod Orders
mod Links
mod Owing
mod Prices
mod HeldElements
mod Served
mod SkippedEntries
mod CountedOthers
mod ClientEvents
mod ConnectionNames
mod EditFaults
mod Sizes
mod WorldEvents
pub mod WorldLaws
pub mod ReportLaws
pub mod OfferLaws
pub mod NameLaws
pub mod LoadLaws
pub mod FormedLaws
pub mod FormedReads
mod TextSizes
pub mod SummaryNames
mod KeptLoad
pub mod SummaryLaws
pub mod ValidLaws
pub mod MadeWorlds
pub mod ClientDrafts
