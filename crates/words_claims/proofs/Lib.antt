pub mod Roots
pub mod RootStrings
pub mod Copies
pub mod Verdicts
pub mod Truth
pub mod Said
pub mod Motifs
pub mod Known
