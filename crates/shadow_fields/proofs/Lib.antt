pub mod Cuts
mod Tables
pub mod Loaded
pub mod LoadedWanted
