mod WorkedExamples
mod Below
mod UnifyBelow
mod SpellBelow
pub mod Related
mod Acted
mod SetRegisters
mod LookCalls
mod ArgumentCalls
mod ChoiceCalls
mod HalfMade
mod StructureCalls
mod UnifyCall
mod Refusing
mod Accepted
pub mod Loaded
pub mod Stepped
pub mod RunsAgree
pub mod RunsCounted
pub mod Collections
