pub mod BindRoom
pub mod UnbindLaws
pub mod UnbindSteps
