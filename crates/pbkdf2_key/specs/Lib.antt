pub mod Pbkdf2
pub mod Profile
pub mod Lengths
pub mod Laws
