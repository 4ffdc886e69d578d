mod Nodes
mod Rows
mod Stops
