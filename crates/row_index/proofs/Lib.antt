mod Cuts
mod Edits
mod Joined
mod Leads
mod Lists
mod Orders
mod Sides
mod Walks
