pub mod Beginning
mod Counting
