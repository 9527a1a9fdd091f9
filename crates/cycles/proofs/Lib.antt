pub mod RankLaws
pub mod GatherLaws
pub mod BlankNotes
