mod Words
mod FirstNodes
mod Paths
mod Refusals
