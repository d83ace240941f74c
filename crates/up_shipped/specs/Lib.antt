pub mod Items
pub mod Shipped
pub mod FromNothing
pub mod Connections
pub mod Machines
pub mod Starts
