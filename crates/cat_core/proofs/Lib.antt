mod Ages
mod Backs
mod SlotRows
mod StampRows
