pub mod Issuing
