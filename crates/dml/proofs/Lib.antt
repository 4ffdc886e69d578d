mod Stored
mod Steps
