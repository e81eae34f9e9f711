-- Definitions to believe: the pairs of instructions and their lines, what `never` says, a violation that turns make, what is told of a
-- store, and all lines.
pub mod Rows
pub mod Text
pub mod Never
pub mod Shown
pub mod Line
pub mod Plain
pub mod Ran
pub mod Lines
pub mod Answers
-- What the program answers the words of a command line.
pub mod Work
-- What the code keeps: whose turns schedules have.
pub mod Ahead
