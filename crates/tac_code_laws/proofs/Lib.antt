pub mod Growth
mod Examples
