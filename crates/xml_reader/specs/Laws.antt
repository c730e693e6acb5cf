pub mod Configurations
pub mod Names
pub mod Attributes
pub mod StartTags
pub mod EndTags
pub mod Children
pub mod Root
pub mod Declaration
