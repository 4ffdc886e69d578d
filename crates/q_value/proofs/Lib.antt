mod Integers
mod Orders
