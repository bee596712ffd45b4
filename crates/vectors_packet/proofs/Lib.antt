pub mod PrecinctSizes
