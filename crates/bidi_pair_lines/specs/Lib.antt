pub mod PairLines
pub mod Pairs
pub mod StepReaders
