pub mod Hmac
pub mod Held
pub mod Fits
pub mod Lengths
pub mod Laws
