-- Definitions to believe: the lines that tell of one violation, those of attempts, and the report.
pub mod Lines
pub mod Ends
pub mod AllAttempts
pub mod Report
-- Definitions to believe: what the report of a history is.
pub mod Explaining
-- Words of contracts: what the words of a command line ask for, and what the command and the program come to.
pub mod Asked
pub mod Why
-- Words of a loop: what is gathered up to a place.
pub mod Gathered
pub mod Work
pub mod Totals
