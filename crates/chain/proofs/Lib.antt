mod Alike
mod Steps
mod Whole
