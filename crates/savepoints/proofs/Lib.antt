mod Marks
mod Numbers
mod Stacks
