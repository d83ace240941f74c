pub mod Parts
pub mod FieldLaws
pub mod RoutedLaws
pub mod RouteLaws
