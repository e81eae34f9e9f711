pub mod Counting
pub mod Passing
pub mod Turning
pub mod Taking
pub mod Results
