pub mod Spreading
pub mod Registers
pub mod Texts
pub mod Numbers
pub mod Finishing
pub mod Stuffed
pub mod Laws
