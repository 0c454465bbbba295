pub mod Durable
