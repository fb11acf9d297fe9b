pub mod Alphabets
pub mod Clean
pub mod Grammar
pub mod Owned
pub mod Texts
pub mod Views
