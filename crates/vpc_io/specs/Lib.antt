pub mod FileShelf
pub mod MemoryShelf
pub mod MemorySink
pub mod Rose
pub mod Shelf
pub mod Sink
pub mod Told
