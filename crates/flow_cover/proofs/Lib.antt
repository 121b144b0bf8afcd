mod Numbering
mod Marking
