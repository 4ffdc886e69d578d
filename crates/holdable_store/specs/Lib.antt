pub mod Buffer
pub mod Buffers
