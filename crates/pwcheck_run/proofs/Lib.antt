mod Known
mod Longest
mod Kept
mod Rooms
mod MadeLines
mod Verdicts
mod BenchWords
mod BenchVectors
