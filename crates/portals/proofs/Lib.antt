mod Fits
mod Maps
mod Pulling
mod Rows
mod Soundness
mod Walking
