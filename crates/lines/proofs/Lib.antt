pub mod ItemReads
pub mod NumbersRead
pub mod ShortNumbers
pub mod Options
pub mod PartNames
pub mod Splits
