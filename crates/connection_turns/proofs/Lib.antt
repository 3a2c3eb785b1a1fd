mod Adding
mod Progress
