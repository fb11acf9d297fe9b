mod Exported
mod Converted
mod Refused
mod Conversions
mod Told
