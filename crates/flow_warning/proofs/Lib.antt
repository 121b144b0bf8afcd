mod Joins
mod EachKind
mod Mentioned
mod Found
