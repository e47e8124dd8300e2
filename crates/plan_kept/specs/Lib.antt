pub mod Keep
