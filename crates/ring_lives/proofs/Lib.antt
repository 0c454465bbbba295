mod Beginning
mod Joining
mod Leading
mod Parting
mod Replaying
mod Telling
