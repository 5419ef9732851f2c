pub mod Intents
