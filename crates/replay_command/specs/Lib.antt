-- Definitions to believe: on what a run takes place, and what schedules come to together.
pub mod Settings
pub mod Stores
pub mod Survey
pub mod SurveyText
-- What the commands come to: what lines of turns say, the replay of a schedule and of a trace, every schedule, and the run by a pace.
pub mod Turns
pub mod Shown
pub mod Told
pub mod Traced
pub mod Replay
pub mod AllSchedules
pub mod Paced
-- That the text of turns is fixed.
pub mod Fixed
-- What the words of a command line ask for, and what the program answers them.
pub mod Addresses
pub mod CostWords
pub mod Asked
pub mod Work
-- What the code finds.
pub mod Adding
