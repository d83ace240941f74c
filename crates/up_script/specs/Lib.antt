pub mod AskedLines
pub mod BenchLines
pub mod CampaignLines
pub mod ImageLines
pub mod KeyLines
pub mod PrintedLines
pub mod VehicleLines
pub mod Words
