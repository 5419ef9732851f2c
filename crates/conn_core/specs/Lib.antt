pub mod Answers
pub mod Client
pub mod Mechanism
pub mod Server
pub mod Standing
