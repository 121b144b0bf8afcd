pub mod ScopeLists
