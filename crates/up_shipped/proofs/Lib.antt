pub mod Fitting
pub mod Items
pub mod Shipped
pub mod FromNothing
pub mod Connections
pub mod Responses
pub mod Starts
pub mod Machines
