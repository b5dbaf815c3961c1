pub mod Wiring
pub mod Network
pub mod Move
pub mod Blocks
pub mod Log
pub mod ByNumber
pub mod Shift
