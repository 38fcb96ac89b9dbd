pub mod AlongLaws
mod RangeLaws
pub mod StepLaws
pub mod WordLaws
pub mod TextLaws
