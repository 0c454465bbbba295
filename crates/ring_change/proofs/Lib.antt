mod Cutting
mod Fitting
mod OneChange
mod Parsing
mod Plain
mod Putting
mod Reading
mod Short
