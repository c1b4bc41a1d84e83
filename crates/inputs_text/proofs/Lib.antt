pub mod Known
pub mod LineForms
pub mod LinesDecided
pub mod Numbers
pub mod Pairs
pub mod PathForms
pub mod Reading
pub mod SplitLines
