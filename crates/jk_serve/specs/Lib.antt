pub mod OperatorLines
pub mod Operating
pub mod Asking
pub mod Tables
pub mod Examples
