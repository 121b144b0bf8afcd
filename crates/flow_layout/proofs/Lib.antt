pub mod StmtKinds
pub mod Lays
