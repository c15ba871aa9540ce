pub mod Hash
