pub mod Echoes
pub mod Rules
pub mod RuleLaws
pub mod Lines
