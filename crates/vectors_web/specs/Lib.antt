pub mod Gallery
