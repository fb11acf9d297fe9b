mod Sources
mod Colons
mod Given
mod Folds
mod Rows
