pub mod Kdf
