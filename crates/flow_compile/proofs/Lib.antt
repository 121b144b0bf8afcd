mod Rightness
