pub mod Generated  -- A workspace made of a number
pub mod Known  -- What is known of diagnostics by what was published (LSP 3.17, publishDiagnostics)
pub mod Selfrun  -- What is counted of a workspace that was made of a number
