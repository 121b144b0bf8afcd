pub mod NeverStuck
pub mod SimpleTasks
pub mod Delivering
