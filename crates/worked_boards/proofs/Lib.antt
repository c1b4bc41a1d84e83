mod Sitting
mod Crossing
