pub mod OperatingLaws
pub mod TableLaws
