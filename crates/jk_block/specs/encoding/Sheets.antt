-- Decisions in bytes, with room behind them.
pub use Rattle.jk_columns.specs.Sheets.{IsSheet, told}
