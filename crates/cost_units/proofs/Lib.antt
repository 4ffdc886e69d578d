mod Rising
mod Turns
