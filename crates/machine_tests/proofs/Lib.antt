mod Checking
mod Running
