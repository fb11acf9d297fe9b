mod Parts
mod Given
mod Lines
