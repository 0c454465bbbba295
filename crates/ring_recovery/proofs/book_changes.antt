mod Adding
mod Bounding
mod Entries
mod LastGroup
mod Leading
mod Moving
mod Starting
mod Telling
