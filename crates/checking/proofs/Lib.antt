pub mod FoundLines
