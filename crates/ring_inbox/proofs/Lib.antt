mod Views
mod Steps
mod Moves
mod Calls
mod Looks
mod Values
