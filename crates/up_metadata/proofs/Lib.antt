pub mod Lists
pub mod HashedIds
pub mod RoleFiles
pub mod RootFiles
pub mod Signing
