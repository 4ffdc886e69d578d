mod Owned
mod Spelled
mod TypeNames
