mod Rounds
mod Sought
mod Visits
