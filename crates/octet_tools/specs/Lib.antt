pub mod Words
pub mod Show
pub mod Course
pub mod Taking
pub mod Run
pub mod Units
