mod Chain
mod Known
