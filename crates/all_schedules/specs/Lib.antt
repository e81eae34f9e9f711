-- Definitions to believe: which schedules there are, what a schedule makes, which loads wait, and the runs whose schedules aren't given.
pub mod Schedules
pub mod Made
pub mod Evenly
pub mod Holding
pub mod Drawn
-- That what is made is fixed, and made again.
pub mod Fixed
pub mod MadeAgain
-- What the code finds.
pub mod Longer
