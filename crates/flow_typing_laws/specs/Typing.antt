pub mod Scopes
pub mod CallsFit
pub mod ActorFits
pub mod Ends
pub mod Joined
pub mod Agreeing
pub mod Paths
