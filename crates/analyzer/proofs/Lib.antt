mod Owned
mod Places
mod Placing
