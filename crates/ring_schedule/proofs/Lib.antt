mod EachKind
mod Passing
mod Placing
mod Putting
