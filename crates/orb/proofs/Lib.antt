pub mod EachOnce
