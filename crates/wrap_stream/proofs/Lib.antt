mod FrontVectors
pub mod Letters
pub mod Grown
pub mod Runs
pub mod Laid
pub mod Fronts
pub mod Growths
pub mod Turning
pub mod SoFar
pub mod Gathered
pub mod Unwrapped
pub mod Laying
pub mod Pieces
pub mod Numbers
pub mod Settled
