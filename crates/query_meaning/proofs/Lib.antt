mod Connectives
mod Doubles
mod Whole
