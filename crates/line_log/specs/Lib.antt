pub mod Device
pub mod Log
pub mod Staged
pub mod Taker
pub mod Memory
pub mod MemoryBytes
