mod Counting
mod Looping
