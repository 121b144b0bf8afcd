mod Clean
mod Finding
mod Listed
mod Lives
mod Putting
mod ReadBack
