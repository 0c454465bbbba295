mod Behind
mod Ending
