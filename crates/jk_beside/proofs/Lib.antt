pub mod Decimals
pub mod Digits
pub mod Others
pub mod Items
pub mod Named
