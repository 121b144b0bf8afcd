mod Formed
mod Gathered
mod Room
mod UnderWay
mod Ways
