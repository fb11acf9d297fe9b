pub mod ThreeUsers
