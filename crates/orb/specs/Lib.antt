-- Definitions to believe: a buffer, its lines in order, each once. They are the words of the contracts too; the code keeps
-- `IsBuffer` of each buffer
pub mod Lines
