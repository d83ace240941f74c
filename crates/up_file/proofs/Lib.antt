pub mod Adopted
pub mod AsBefore
pub mod Asked
pub mod Closed
pub mod KeysTold
pub mod OldFiles
pub mod TakenFor
