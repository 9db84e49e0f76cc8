pub mod Bits
pub mod Held
pub mod Sign
pub mod Tests
