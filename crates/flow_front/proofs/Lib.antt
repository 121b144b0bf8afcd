mod Judging
mod OneVerdict
