pub mod Columns
pub mod CampaignColumns
pub mod PlanColumns
pub mod Typed
pub mod Plain
