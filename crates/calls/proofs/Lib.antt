pub mod UnifyEnds
pub mod UnifyBound
pub mod UnifyPairs
pub mod UnifySteps
pub mod UnifyMostGeneral
mod UnifyExamples
pub mod CellSet
pub mod WholeProp
pub mod KeepHalf
pub mod KeepSteps
pub mod KeepUnify
pub mod KeepCalls
pub mod KeepLevels
pub mod KeepRefused
pub mod KeepSettled
pub mod KeepLaws
