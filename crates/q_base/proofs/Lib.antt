mod IdLists
mod Searches
mod Tables
