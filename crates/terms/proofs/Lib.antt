pub mod TermLaws
pub mod RowLaws
pub mod SameLaws
pub mod Names
pub mod SettledLaws
pub mod UnifyLaws
pub mod FallLaws
pub mod HaltLaws
pub mod StepsLeft
pub mod Robinson
pub mod UnifyValues
pub mod MostGeneral
pub mod AlikeLaws
pub mod InstanceLaws
pub mod UnifyAlike
mod TermExamples
