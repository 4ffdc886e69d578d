mod Restoring
mod Undone
