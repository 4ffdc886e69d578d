mod Faults
mod Members
mod Types
